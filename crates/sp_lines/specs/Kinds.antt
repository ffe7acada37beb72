-- Some of this belongs to what the program promises (docs/promise.txt).
-- To which statement of the text an instruction that stops belongs, by its mark.
use Rattle.std.specs.Prelude.{◌≡◌, ◌⊎◌, ℕ, Some, slice_get}
use Rattle.sp_tree.specs.PlainChecked.{Expression, Variable, Statement, Does, Parallel, Forall, Open, Send, Receive}
use Rattle.sp_tree.specs.PlainChecked.{Statements, Program, Block}
use Rattle.sp_code.specs.declared.instr.Instr.{Instr}
use Rattle.sp_code.specs.declared.instr.Instr.TheVariants as i
use Rattle.sp_lines.specs.declared.mark.Mark.{Mark}
use Rattle.sp_journal.specs.declared.entry.Event.{Event}
use Rattle.sp_journal.specs.declared.entry.Event.TheVariants as event
use Rattle.sp_lines.specs.Marks.{marks}
use Rattle.sp_lines.specs.Beside.{IsIn}

-- a statement of the program
abbrev pub IsOfProgram : Program → Statement → Type 0
IsOfProgram p u = (f : ℕ) × (b : Block) × (slice_get p.blocks f ≡ Some b) × IsIn u b.body

-- an instruction that stops is of a statement of its kind, which begins at its mark. T: the statements of the text
abbrev pub IsOf : (Statement → Type 0) → Mark → Instr → Type 0
IsOf T m (i.Send k) = (n : ℕ) × (c : Expression) × (e : Expression) × T (Does n m.statement (Send c e))
IsOf T m (i.Receive k) = (n : ℕ) × (c : Expression) × (v : Variable) × T (Does n m.statement (Receive c v))
IsOf T m i.Open = (n : ℕ) × (v : Variable) × T (Does n m.statement (Open v))
IsOf T m (i.Fork t) = (n : ℕ) × (ss : Statements) × T (Does n m.statement (Parallel ss))
IsOf T m (i.Forall t) = (n x : ℕ) × (a : Expression) × (b : Expression) × (s : Statement)
    × T (Does n m.statement (Forall x a b s))
IsOf _ _ _ = Unit {0}

-- what is told of an entry at an instruction: that has a mark, and where it forks, opens, sends or receives a statement
-- of the text of its kind begins there
abbrev pub HasStatement : Program → Event → ℕ → Type 0
HasStatement p (event.Fork count) q = (m : Mark) × (slice_get (marks p) q ≡ Some m)
    × (((n : ℕ) × (ss : Statements) × IsOfProgram p (Does n m.statement (Parallel ss)))
    ⊎ ((n x : ℕ) × (a : Expression) × (b : Expression) × (s : Statement)
    × IsOfProgram p (Does n m.statement (Forall x a b s))))
HasStatement p event.Open q = (m : Mark) × (slice_get (marks p) q ≡ Some m)
    × ((n : ℕ) × (v : Variable) × IsOfProgram p (Does n m.statement (Open v)))
HasStatement p (event.Send channel) q = (m : Mark) × (slice_get (marks p) q ≡ Some m)
    × ((n : ℕ) × (c : Expression) × (e : Expression) × IsOfProgram p (Does n m.statement (Send c e)))
HasStatement p (event.Receive channel) q = (m : Mark) × (slice_get (marks p) q ≡ Some m)
    × ((n : ℕ) × (c : Expression) × (v : Variable) × IsOfProgram p (Does n m.statement (Receive c v)))
HasStatement _ _ _ = Unit {0}
