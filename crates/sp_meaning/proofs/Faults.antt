-- Worked programs for each fault, and for which of two comes first, by computing.
use Rattle.std.proofs.Common.{◌≡◌, ℕ, List, [], ◌∷◌, Option, Some, None, refl}
use Rattle.std.specs.Prelude.{pos}
use Rattle.sp_tree.specs.declared.checked.KindOf.TheVariants as kind
use Rattle.sp_tree.specs.declared.checked.Role.TheVariants as role
use Rattle.sp_tree.specs.declared.operators.BinaryOp.TheVariants as binary
use Rattle.sp_tree.specs.declared.operators.StandardFn.TheVariants as standard
use Rattle.sp_tree.specs.Plain.{Program, Variable, Expr, Typed, Number, Read, Binary, Standard, Entire, Whole, Nothing}
use Rattle.sp_tree.specs.Plain.{Stmt, Assign, Call, Sequence, Case, Parallel, Forall, Assume, ReadValue, WriteValue}
use Rattle.sp_tree.specs.Plain.{WriteLine, Open, Send, Receive, Stmts, No, And, NoArm}
use Rattle.sp_base.specs.declared.fault.Fault.{Fault}
use Rattle.sp_base.specs.declared.fault.Fault.TheVariants as fault
use Rattle.sp_base.specs.declared.limits.Limits.{Limits}
use Rattle.sp_meaning.specs.Model.{Name}
use Rattle.sp_meaning.specs.LocalWork.{RunInput}
use Rattle.sp_meaning.specs.Runs.{StateOf, start, next_state, output_of}

abbrev limits_of : (ticks depth cells output processes channels entries : ℕ) → Limits
limits_of ticks depth cells output processes channels entries =
    record {
      ticks = ticks;
      depth = depth;
      cells = cells;
      processes = processes;
      channels = channels;
      entries = entries;
      output = output;
    }

abbrev pub ample : Limits
ample = limits_of 100 10 100 100 10 10 100

-- the program without input
abbrev pub of : Program → Limits → RunInput
of p lim = record { program = p; input = []; limits = lim }

module _ (g : RunInput) where
  abbrev then_run : (StateOf g → Option (StateOf g)) → Option (StateOf g) → Option (StateOf g)
  then_run go None = None
  then_run go (Some t) = go t

  -- the state that a schedule leads to
  abbrev pub runs : List Name → StateOf g → Option (StateOf g)
  runs [] s = Some s
  runs (q ∷ qs) s = then_run (runs qs) (next_state g s q)

  abbrev fault_in : Option (StateOf g) → Option (Name × Fault)
  fault_in None = None
  fault_in (Some s) = s.fault

  abbrev pub fault_of : List Name → Option (Name × Fault)
  fault_of qs = fault_in (runs qs (start g))

  abbrev state_in : Option (StateOf g) → StateOf g
  state_in None = start g
  state_in (Some s) = s

  abbrev pub after : List Name → StateOf g
  after qs = state_in (runs qs (start g))

  -- what it has printed
  abbrev pub prints : List Name → List ℕ
  prints qs = output_of g (after qs)

abbrev pub console : Variable
console = record { kind = 0; block = 0; role = role.Console }

abbrev pub read : ℕ → ℕ → Expr
read k x = Typed k (Read (Entire x Whole))

abbrev pub num : ℕ → Expr
num n = Typed 0 (Number (pos n))

abbrev pub child : ℕ → Name
child i = (0, i) ∷ []

abbrev pub root : Name
root = []

abbrev pub sequence : List Stmt → Stmts
sequence [] = No
sequence (s ∷ ss) = And s (sequence ss)

-- types integer, char, *(integer, char); variable 2 is a channel, variable 3 an integer
abbrev pub program : List Stmt → Program
program ss = record {
  kinds = kind.Integer ∷ kind.Char ∷ kind.Channel (0 ∷ 1 ∷ []) ∷ [];
  variables = console ∷ console ∷ record { kind = 2; block = 0; role = role.Local }
      ∷ record { kind = 0; block = 0; role = role.Local } ∷ [];
  blocks = record { parent = None; formals = []; answer = None; body = Sequence (sequence ss) } ∷ [];
}

abbrev c : Expr
c = read 2 2

abbrev opens : Stmt
opens = Open (Entire 2 Whole)

abbrev one : Stmt
one = Send c (num 1)

abbrev two_sends : Program
two_sends = program (opens ∷ Parallel (sequence (one ∷ one ∷ [])) ∷ [])

abbrev both : List Name
both = root ∷ root ∷ child 0 ∷ child 1 ∷ []

contention : fault_of (of two_sends ample) both ≡ Some (child 1, fault.F6)
contention = refl

-- F15 stands before F6
entries_first : fault_of (of two_sends (limits_of 100 10 100 100 10 10 3)) both ≡ Some (child 1, fault.F15)
entries_first = refl

-- a char meets an integer
types_differ : fault_of (of (program (opens ∷ Parallel
    (sequence (Send c (Typed 1 (Number (pos 65))) ∷ Receive c (Entire 3 Whole) ∷ [])) ∷ [])) ample) both
    ≡ Some (child 1, fault.F7)
types_differ = refl

-- an undefined channel; then the operands come first: F5 and not F4
undefined_channel : fault_of (of (program (Send c (read 0 3) ∷ [])) ample) (root ∷ []) ≡ Some (root, fault.F5)
undefined_channel = refl

undefined_value : fault_of (of (program (Assign (Entire 3 Whole) (read 0 3) ∷ [])) ample) (root ∷ [])
    ≡ Some (root, fault.F4)
undefined_value = refl

no_case : fault_of (of (program (Case (num 1) NoArm ∷ [])) ample) (root ∷ []) ≡ Some (root, fault.F9)
no_case = refl

-- the root's first step is F12
first_frame : fault_of (of (program (WriteLine ∷ [])) (limits_of 100 10 1 100 10 10 100)) (root ∷ [])
    ≡ Some (root, fault.F12)
first_frame = refl

output_full : fault_of (of (program (WriteLine ∷ WriteLine ∷ [])) (limits_of 100 10 100 1 10 10 100)) (root ∷ root ∷ [])
    ≡ Some (root, fault.F16)
output_full = refl

-- depth stands before the event's faults
fork_depth : fault_of (of two_sends (limits_of 100 0 100 100 2 10 1)) (root ∷ root ∷ []) ≡ Some (root, fault.F11)
fork_depth = refl

fork_processes : fault_of (of two_sends (limits_of 100 1 100 100 2 10 100)) (root ∷ root ∷ []) ≡ Some (root, fault.F13)
fork_processes = refl

no_channel : fault_of (of two_sends (limits_of 100 1 100 100 2 0 100)) (root ∷ []) ≡ Some (root, fault.F14)
no_channel = refl

overflow : fault_of (of (program (Assign (Entire 3 Whole)
    (Typed 0 (Binary binary.Add (num 9223372036854775807) (num 1))) ∷ [])) ample) (root ∷ []) ≡ Some (root, fault.F2)
overflow = refl

divisor : fault_of (of (program (Assign (Entire 3 Whole) (Typed 0 (Binary binary.Mod (num 1) (num 0))) ∷ [])) ample)
    (root ∷ []) ≡ Some (root, fault.F3)
divisor = refl

-- a procedure without end: first the ticks, then the depth
abbrev recursive : Program
recursive = record {
  kinds = kind.Integer ∷ [];
  variables = console ∷ console ∷ record { kind = 0; block = 1; role = role.Local } ∷ [];
  blocks = record { parent = None; formals = []; answer = None; body = Call 1 Nothing }
      ∷ record { parent = Some 0; formals = []; answer = None; body = Call 1 Nothing } ∷ [];
}

ticks_first : fault_of (of recursive (limits_of 1 1 1 1 1 1 1)) (root ∷ root ∷ []) ≡ Some (root, fault.F10)
ticks_first = refl

depth_next : fault_of (of recursive (limits_of 9 1 1 1 1 1 1)) (root ∷ root ∷ []) ≡ Some (root, fault.F11)
depth_next = refl

cells_last : fault_of (of recursive (limits_of 9 9 1 1 1 1 1)) (root ∷ root ∷ []) ≡ Some (root, fault.F12)
cells_last = refl

-- a forall over an empty range is one step without an event; and the root ends
empty_forall : (after (of (program (Forall 3 (num 2) (num 1) one ∷ [])) ample) (root ∷ root ∷ [])).totals.entries ≡ 0
empty_forall = refl

past_the_end : fault_of (of (program (ReadValue (Entire 3 Whole) ∷ [])) ample) (root ∷ []) ≡ Some (root, fault.F18)
past_the_end = refl

-- a width below 1 stands before the output's limit
width : fault_of (of (program (WriteValue (num 1) (Some (num 0)) ∷ [])) (limits_of 100 10 100 0 10 10 100)) (root ∷ [])
    ≡ Some (root, fault.F1)
width = refl

char_range : fault_of (of (program (WriteValue (Typed 1 (Standard standard.Chr (num 256))) None ∷ [])) ample)
    (root ∷ []) ≡ Some (root, fault.F1)
char_range = refl

assumption : fault_of (of (program (Assume (num 0) ∷ [])) ample) (root ∷ []) ≡ Some (root, fault.F8)
assumption = refl
