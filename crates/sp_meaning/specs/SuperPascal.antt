-- All of this belongs to what the program promises (docs/promise.txt).
-- The language of this compiler as one of the model's: its acts, its root, its first store. Runs are those of this
-- language; the weight of statements bounds what one step evaluates.
use Rattle.std.specs.Prelude.{ℕ, zero, ◌+◌, ◌-◌, ◌*◌, List, [], ◌∷◌, Bool, true, false, ◌==◌, if◌then◌else◌}
use Rattle.std.specs.Prelude.{nat_lt}
use Rattle.sp_base.specs.declared.fault.Fault.TheVariants as fault
use Rattle.sp_tree.specs.Plain.{Program, Variable, Block, Stmt, Call, Sequence, If, IfElse, While}
use Rattle.sp_tree.specs.Plain.{Repeat, For, Case, Parallel, Forall}
use Rattle.sp_tree.specs.Plain.{Stmts, No, And, On, Arms, NoArm, Or}
use Rattle.sp_meaning.specs.Model.{Act, Moves, Opens, Forks, Offering, EndsProcess, MeetsFault, Language}
use Rattle.sp_meaning.specs.EffectTree.{EffectTree, Leaf, and_then, run_tree}
use Rattle.sp_meaning.specs.Trees.{of_trees}
use Rattle.sp_tree.specs.Cells.{first_or, variables_of}
use Rattle.sp_meaning.specs.Values.{Value, Undefined, initials}
use Rattle.sp_meaning.specs.LocalWork.{RunInput, Loc, Cell, Input, Output, LocationContent, Tree, Position, Written}
use Rattle.sp_meaning.specs.LocalWork.{Address, content_with}
use Rattle.sp_meaning.specs.LocalWork.{same_loc, OfBlock, LocalState, Identity, Item, Break, Process, WorkOutcome}
use Rattle.sp_meaning.specs.LocalWork.{Computed, EndsInFault}
use Rattle.sp_meaning.specs.Actions.{Action, Stepped, Ticked, Opened, Forked, Offered, Ended, push, new_processes}
use Rattle.sp_meaning.specs.Actions.{next_action}
use Rattle.sp_meaning.specs.Actions.{size_of_frame, first_value_by}

-- How many steps stand between two ticks, at most: a bound for what a step evaluates

abbrev mutual
  pub weight : Stmt → ℕ
  weight (Call f args) = 2
  weight (Sequence ss) = weight_all ss + 1
  weight (If e a) = weight a + 1
  weight (IfElse e a b) = weight a + weight b + 1
  weight (While e s) = weight s + 2
  weight (Repeat s e) = weight s + 3
  weight (For x from down to s) = weight s + 3
  weight (Case e arms) = weight_arms arms + 1
  weight (Parallel ss) = weight_all ss + 1
  weight (Forall x from to s) = weight s + 1
  weight _ = 1

  pub weight_all : Stmts → ℕ
  weight_all No = 0
  weight_all (And s rest) = weight s + weight_all rest

  pub weight_arms : Arms → ℕ
  weight_arms NoArm = 0
  weight_arms (Or (On ms s) rest) = weight s + weight_arms rest

abbrev pub weight_blocks : List Block → ℕ
weight_blocks [] = 0
weight_blocks (b ∷ bs) = weight b.body + weight_blocks bs

-- the weight of all blocks
abbrev pub weight_of : Program → ℕ
weight_of p = weight_blocks p.blocks

-- enough for all that one step evaluates (each call and each turn of a loop is a tick)
abbrev pub fuel_of : RunInput → LocalState → ℕ
fuel_of g o = (weight_of g.program + 3) * (g.limits.ticks + 1 - o.ticks) + weight_of g.program + 1

abbrev pub with_todo : List Item → Identity → LocalState → Process
with_todo todo w o = record { todo = todo; who = w; own = o }

-- what an action is to the other processes. A tree that breaks a rule has no meaning (IllFormed), and OutOfFuel never
-- comes up; so that a step is a function both stand under F8, a false assumption
-- The writes of a step that forks, offers or ends are left out: they are of frames that calls made and that are gone
-- (proofs/SilentActions)
abbrev pub act_of : Identity → WorkOutcome Action → List (Loc × LocationContent)
    → Act Process Loc LocationContent Address
act_of w (Computed (Stepped todo) o) ws = Moves (with_todo todo w o) ws
act_of w (Computed (Ticked todo) o) ws = Moves (with_todo todo w o) ws
act_of w (Computed (Opened todo) o) ws = Opens (with_todo todo (record w { opens = w.opens + 1 }) o) ws
act_of w (Computed (Forked os todo) o) ws =
    Forks (with_todo todo (record w { forks = w.forks + 1 }) o) (new_processes w o 0 os)
act_of w (Computed (Offered c k payload todo) o) ws =
    Offering (record { channel = c; kind = k; payload = payload; next = with_todo todo w o })
act_of w (Computed Ended o) ws = EndsProcess
act_of w (EndsInFault f) ws = MeetsFault f
act_of _ _ _ = MeetsFault fault.F8

-- the action is a tick of its own
abbrev pub is_pausing : WorkOutcome Action → Bool
is_pausing (Computed (Ticked todo) o) = true
is_pausing _ = false

module _ (g : RunInput) where
  -- the next step of a process, as a tree of reads and writes
  abbrev pub action_of : Process → EffectTree Loc LocationContent (WorkOutcome Action)
  action_of pr = next_action g (fuel_of g pr.own) pr.todo pr.who pr.own

  -- the act of a process, as a tree
  abbrev pub act_tree : Process → EffectTree Loc LocationContent (List (Loc × LocationContent)
      → Act Process Loc LocationContent Address)
  act_tree pr = and_then (action_of pr) (λ r. Leaf (act_of pr.who r))

  -- the language
  abbrev pub superpascal : Language
  superpascal = of_trees Process Loc LocationContent Address same_loc act_tree (λ a. a.spot) content_with

  -- a pausing step is next
  abbrev pub pauses_next : Process → (Loc → LocationContent) → Bool
  pauses_next pr store = is_pausing (run_tree same_loc (action_of pr) store).0

  -- what the root has to do: the program's statement part
  abbrev pub main_items : List Block → List Item
  main_items [] = []
  main_items (b ∷ bs) = if nat_lt g.limits.cells (size_of_frame g 0) then Break fault.F12 ∷ [] else push b.body []

  -- the root: its first frame is the program's. Where that is too large, F12 is its first step
  abbrev pub root : Process
  root = record {
    todo = main_items g.program.blocks;
    who = record { name = []; forks = 0; opens = 0 };
    own = record {
      frames = record { owner = []; number = 0; home = OfBlock 0; link = 0; references = [] } ∷ [];
      depth = 0;
      ticks = 0;
      cells = size_of_frame g 0;
    };
  }

  -- the first value of the variable with this number among these
  abbrev pub value_among : ℕ → List (ℕ × Variable) → Value
  value_among x [] = Undefined
  value_among x (y ∷ ys) = if y.0 == x then first_or Undefined
      (first_value_by (initials g.program.kinds) y.1.role y.1.kind) else value_among x ys

  -- the first value of a variable of the program
  abbrev pub first_value : ℕ → Value
  first_value x = value_among x (variables_of 0 0 g.program.variables)

  -- nothing is read or written, and all variables of the program are undefined
  abbrev pub first_store : Loc → LocationContent
  first_store (Cell [] zero x) = Tree (first_value x)
  first_store Input = Position 0
  first_store Output = Written []
  first_store _ = Tree Undefined
