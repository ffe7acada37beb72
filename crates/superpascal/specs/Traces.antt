-- All of this belongs to what the program promises (docs/promise.txt).
-- A journal of the program of a text, told by its entries and by the state behind them. The contract of `account`
-- promises it, and the clauses on `trace` and `where` are said by it.
use Rattle.std.specs.Prelude.{◌≡◌, ◌≢◌, ℕ, List, Some, length, slice_get, true}
use Rattle.sp_base.specs.declared.fault.Fault.{Fault}
use Rattle.sp_base.specs.declared.fault.Fault.TheVariants as fault
use Rattle.sp_base.specs.declared.limits.Limits.{Limits}
use Rattle.sp_cell.specs.Map.{Plain}
use Rattle.sp_code.specs.declared.code.Parts.{Parts}
use Rattle.sp_code.specs.Sound.{run_of}
use Rattle.sp_code.specs.Machine.{Config}
use Rattle.sp_code.specs.Memory.{CodeRun, Memory, memory}
use Rattle.sp_code.specs.PlainStore.{plain}
use Rattle.sp_code.specs.System.{System, Working}
use Rattle.sp_code.specs.Turns.{frames_fit}
use Rattle.sp_journal.specs.Births.{births}
use Rattle.sp_lines.specs.AtTurn.{next_of}
use Rattle.sp_generate.specs.GeneratorAnswers.{IsCodeOf}
use Rattle.sp_execute.specs.TextTold.{HasMark}
use Rattle.sp_journal.specs.declared.entry.Entry.{Entry}
use Rattle.sp_journal.specs.declared.entry.Event.TheVariants as event
use Rattle.sp_journal.specs.declared.entry.Journal.{Journal}
use Rattle.sp_lines.specs.declared.entry_place.Told.{Told}
use Rattle.sp_lines.specs.Kinds.{HasStatement}
use Rattle.sp_lines.specs.Marks.{marks}
use Rattle.sp_lines.specs.EntryPlaces.{DescribesEntries, lasts_after}
use Rattle.sp_lines.specs.WaitPlaces.{IsShown}
use Rattle.sp_replay.specs.TraceAnswers.{never}
use Rattle.sp_lines.specs.Constants.{by_kind, constants_of}
use Rattle.sp_lines.specs.JumpTargets.{landing}
use Rattle.sp_tree.specs.Bare.{without_places}
use Rattle.sp_tree.specs.Breaches.{IsTree}
use Rattle.sp_tree.specs.PlainChecked as c
use Rattle.sp_tree.specs.PlainSyntax.{Program as Syntax}
use Rattle.sp_where.specs.States.{where_text}
use Rattle.sp_where.specs.Traces.{trace_text}
use Rattle.superpascal.specs.Runs.{HasTree}

-- One thing is told of each entry. One that forks, opens, sends or receives is told at an instruction with a mark, and
-- a statement of the tree that does so begins there. A fault is told at an instruction with a mark, but that of
-- variables that do not fit, which comes before any instruction.
pub record ArePlaced (tree : c.Program) (es : List Entry) (told : List Told) : Type 0 where
  pub each : length told ≡ length es
  pub entries : (n : ℕ) (e : Entry) (w : Told) → slice_get es n ≡ Some e → slice_get told n ≡ Some w
      → HasStatement tree e.event w.instruction
  pub faults : (n : ℕ) (e : Entry) (w : Told) (f : Fault) → slice_get es n ≡ Some e → slice_get told n ≡ Some w
      → e.event ≡ event.Fault f → f ≢ fault.F12 → HasMark tree w.instruction

-- The machine runs the code of the text's tree along the journal, on the input with the limits. Of each entry it is
-- told at which instruction the turn ended that made it, and which message passed there; and this is the state behind
-- the last entry.
pub record IsToldOf (text input : List ℕ) (limits : Limits) (j : Journal) (told : List Told) : Type 0 where
  pub tree : c.Program
  pub has : HasTree text tree
  pub code : Parts
  pub is_code : IsCodeOf (without_places tree) code
  pub state : System Plain
  pub is_told : DescribesEntries (run_of code input limits) j.entries told state
  pub placed : ArePlaced tree j.entries told

-- The text of the entries: each with its place, by the marks of the tree, and with its message, by the types of the
-- tree and the names that the text gives to the constants of its enumerations.
pub record IsTraceOf (text input : List ℕ) (limits : Limits) (j : Journal) (out : List ℕ) : Type 0 where
  pub told : List Told
  pub of : IsToldOf text input limits j told
  pub syntax : Syntax
  pub spelt : IsTree text syntax
  pub is_text : out ≡ trace_text of.tree.kinds (by_kind of.tree.kinds (constants_of syntax)) (marks of.tree) j.entries
      told

-- Where processes are in a state: one that waits or joins is shown where a statement of the tree begins that does so;
-- one that runs, and whose variables fit, is shown at an instruction with a mark.
pub record AreShown (tree : c.Program) (g : CodeRun) (state : System Plain) (last : ℕ → ℕ) : Type 0 where
  pub waiting : (q : ℕ) → IsShown tree (state.condition q) (last q)
  pub running : (q : ℕ) (x : Config (Memory Plain)) → state.condition q ≡ Working x
      → frames_fit (memory plain g) g.code x ≡ true → HasMark tree (landing g.code.instrs (next_of x))

-- The text of the state behind the last entry: each process with its place, by the marks of the tree, with what it
-- does, and with its calls and its variables.
pub record IsStateOf (text input : List ℕ) (limits : Limits) (j : Journal) (out : List ℕ) : Type 0 where
  pub told : List Told
  pub of : IsToldOf text input limits j told
  pub syntax : Syntax
  pub spelt : IsTree text syntax
  pub shown : AreShown of.tree (run_of of.code input limits) of.state (lasts_after j.entries told never)
  pub is_text : out ≡ where_text (record {
    tree = of.tree;
    constants = by_kind of.tree.kinds (constants_of syntax);
    marks = marks of.tree;
    code = of.code;
    births = births j.entries;
  }) j.entries (lasts_after j.entries told never) of.state.condition
