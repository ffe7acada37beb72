-- None of this belongs to what the program promises: it is for contracts between crates.
-- What the kernel may be asked, by the history that a seat has seen, and what comes of it: the contract of the kernel
-- as an object that a room keeps. Each ask is one step, so that the room needs to know no more than these relations.
use Rattle.std.specs.Prelude.{◌≡◌, ◌≢◌, ◌⊎◌, ℕ, ◌+◌, ◌<◌, ◌≤◌, List, [], ◌++◌, Option, Some, None, IsSome, Bool, true}
use Rattle.std.specs.Prelude.{false}
use Rattle.std.specs.Option.{option_map}
use Rattle.sp_cell.specs.Map.{Plain}
use Rattle.sp_journal.specs.declared.entry.Note.{Note}
use Rattle.sp_code.specs.Machine.{Config}
use Rattle.sp_code.specs.Memory.{CodeRun, Memory, memory}
use Rattle.sp_code.specs.PlainStore.{plain}
use Rattle.sp_code.specs.Turns.{IsTurn}
use Rattle.sp_code.specs.Sound.{IsSound, AreLimits}
use Rattle.sp_code.specs.Control.{Out, control_at_start, control, after_note, front, standing, Running, entry_of}
use Rattle.sp_code.specs.System.{System, Working, opening_system}
use Rattle.sp_room.specs.History.{notes_by}
use Rattle.sp_machine.specs.declared.state.State.{State as Proc}
use Rattle.sp_kernel.specs.declared.handed.Handed.{Handed}
use Rattle.sp_kernel.specs.declared.kernel.Kernel.{Kernel}
use Rattle.sp_kernel.specs.declared.ask.Ask.{Ask}
use Rattle.sp_kernel.specs.declared.ask.Ask.TheVariants as ask
use Rattle.sp_kernel.specs.declared.ask.Got.{Got}
use Rattle.sp_kernel.specs.declared.ask.Got.TheVariants as got
use Rattle.sp_kernel.specs.Procs.{config_of, turn_of}
use Rattle.sp_kernel.specs.Kernels.{control_of, system_of, code_run_of, IsKernel}
use Rattle.sp_machine.specs.Procs.{KeepsFork}
use Rattle.sp_kernel.specs.Fits.{FitsHanded, IsWhole}
use Rattle.sp_code.specs.Agreement.{NoteLeads, Reaches}

-- the root alone is ready, and the journal is empty
pub record IsOpening (x : Kernel) : Type 0 where
  pub whole : IsKernel x
  pub control : control_of x ≡ control_at_start
  pub system : system_of x ≡ opening_system plain (code_run_of x)
  pub out : x.out ≡ 0
  pub abandons : x.abandons ≡ 0
  pub journal : x.journal.entries ≡ []
  pub limits : AreLimits x.limits
  pub sound : IsSound x.code.value

-- what is handed in fits
abbrev pub FitsAsk : Kernel → ℕ → Ask → Type 0
FitsAsk x w (ask.Turn None) = Unit {0}
FitsAsk x w (ask.Turn (Some h)) = FitsHanded x w h
FitsAsk x w (ask.Abandon None) = Unit {0}
FitsAsk x w (ask.Abandon (Some p)) = (control_of x).doing p.number ≡ Out w

-- what the kernel requires of an ask
pub record CanServe (x : Kernel) (w : ℕ) (a : Ask) : Type 0 where
  pub whole : IsKernel x
  pub out : x.out + 1 < 18446744073709551616
  pub abandons : x.abandons + 1 < 18446744073709551616
  pub fits : FitsAsk x w a

-- what is got is the process that the note names, in the state that the system has for it
abbrev pub GotMatchesNote : Kernel → Got → Option ℕ → Type 0
GotMatchesNote y (got.Work p) None = ⊥
GotMatchesNote y (got.Work p) (Some q) = (p.number ≡ q) × ((system_of y).condition q ≡ Working (config_of p))
    × (p.input.value ≡ (code_run_of y).input)
GotMatchesNote y got.Nothing None = (front (control_of y) ≡ None) × ((standing (control_of y) ≡ Running) ⊎ (0 < y.out))
GotMatchesNote y got.Nothing (Some q) = ⊥
GotMatchesNote y got.Finished None = (standing (control_of y) ≢ Running) × (y.out ≡ 0)
GotMatchesNote y got.Finished (Some q) = ⊥
GotMatchesNote y (got.Refused h) o = ⊥

-- the note of an abandon has neither event nor process got, and no other note is so
abbrev pub GivesUp : Ask → Note → Type 0
GivesUp (ask.Turn None) n = (n.event ≡ None) × IsSome n.got
GivesUp (ask.Turn (Some h)) n = IsSome n.event
GivesUp (ask.Abandon p) n = (n.event ≡ None) × (n.got ≡ None)

-- the process that an ask hands in or gives up
abbrev pub given_by : Ask → Option ℕ
given_by (ask.Turn None) = None
given_by (ask.Turn (Some h)) = Some h.proc.number
given_by (ask.Abandon p) = option_map (λ (q : Proc). q.number) p

-- a call that leaves a note
pub record LeavesNote (x : Kernel) (w : ℕ) (a : Ask) (y : Kernel) (g : Got) (n : Note) : Type 0 where
  pub worker : n.worker ≡ w
  pub changed : y ≢ x
  pub follows : NoteLeads plain (code_run_of x) (control_of x) (system_of x) n (system_of y)
  pub control : control_of y ≡ after_note n (control_of x)
  pub code_run : code_run_of y ≡ code_run_of x
  pub whole : IsKernel y
  pub out : y.out ≤ x.out + 1
  pub abandons : y.abandons ≤ x.abandons + 1
  pub answer : GotMatchesNote y g n.got
  pub journal : y.journal.entries ≡ x.journal.entries ++ entry_of n.given n.event
  pub gives_up : GivesUp a n
  pub given : n.given ≡ given_by a

-- a call that leaves none: nothing can be taken, or memory is refused
abbrev pub LeavesNoNote : Kernel → Ask → Got → Type 0
LeavesNoNote x (ask.Turn None) g = GotMatchesNote x g None
LeavesNoNote x (ask.Turn (Some h)) g = g ≡ got.Refused (Some h)
LeavesNoNote x (ask.Abandon p) g = ⊥

-- an ask without a note leaves all as it is; a note tells what changed
abbrev pub KernelSteps : Kernel → ℕ → Ask → Kernel → Got → Option Note → Type 0
KernelSteps x w a y g None = (y ≡ x) × LeavesNoNote x a g
KernelSteps x w a y g (Some n) = LeavesNote x w a y g n

abbrev pub is_abandon : Ask → Bool
is_abandon (ask.Turn h) = false
is_abandon (ask.Abandon p) = true

-- what a refusal gives back
abbrev pub refusal : Ask → Got → Type 0
refusal (ask.Turn h) g = g ≡ got.Refused h
refusal (ask.Abandon p) g = ⊥

-- ---- the condition on an ask: by the history that the seat has seen, in which these are its own notes

-- process q is out with the worker by what its seat has seen, in this state
pub record HoldsOut (g : CodeRun) (seen : List Note) (w q : ℕ) : Type 0 where
  pub system : System Plain
  pub reaches : Reaches plain g control_at_start (opening_system plain g) seen system
  pub out : (control seen).doing q ≡ Out w
  pub configuration : Config (Memory Plain)
  pub runs : system.condition q ≡ Working configuration

-- it was run by one turn from that state, on the input of the run, to the stop that is handed in
pub record HasRun (g : CodeRun) (seen : List Note) (w : ℕ) (h : Handed) : Type 0 where
  pub holds : HoldsOut g seen w h.proc.number
  pub turn : IsTurn (memory plain g) g.code holds.configuration (turn_of h)
  pub fork : KeepsFork h.stop h.proc
  pub input : h.proc.input.value ≡ g.input
  pub whole : IsWhole h.stop

-- what is handed in is what the worker has
abbrev pub StandsFor : CodeRun → List Note → ℕ → Ask → Type 0
StandsFor g seen w (ask.Turn None) = Unit {0}
StandsFor g seen w (ask.Turn (Some h)) = HasRun g seen w h
StandsFor g seen w (ask.Abandon None) = Unit {0}
StandsFor g seen w (ask.Abandon (Some p)) = HoldsOut g seen w p.number

-- what a seat may ask, by what it has seen
abbrev pub MayAsk : Kernel → ℕ → List Note → List Note → Ask → Type 0
MayAsk x w seen own a = (notes_by (λ (n : Note). n.worker) w seen ≡ own) × StandsFor (code_run_of x) seen w a
