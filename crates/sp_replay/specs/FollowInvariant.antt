-- None of this belongs to what the program promises: it is for contracts between crates.
-- What holds while a journal is followed: the kernel has come by a legal history of calls, and who is out is held. The
-- contracts of `followed` cite it.
use Rattle.std.specs.Prelude.{◌≡◌, ℕ, ◌==◌, List, [], ◌∷◌, ◌++◌, Option, Some, None, true}
use Rattle.sp_base.specs.declared.limits.Limits.{Limits}
use Rattle.sp_cell.specs.Map.{Plain}
use Rattle.sp_journal.specs.declared.entry.Entry.{Entry}
use Rattle.sp_journal.specs.declared.entry.Event.{Event}
use Rattle.sp_journal.specs.declared.entry.Note.{Note}
use Rattle.sp_journal.specs.Maps.{at_key}
use Rattle.sp_code.specs.declared.code.Parts.{Parts}
use Rattle.sp_code.specs.PlainStore.{plain}
use Rattle.sp_code.specs.Control.{Doing, Out, Gone}
use Rattle.sp_code.specs.System as system
use Rattle.sp_code.specs.System.{System, Working}
use Rattle.sp_machine.specs.declared.state.State.{State as Proc}
use Rattle.sp_machine.specs.declared.state.Stop.TheVariants as stop
use Rattle.sp_machine.specs.Procs.{config_of, IsTurnOf, KeepsNumberAndInput}
use Rattle.sp_room.specs.History.{LeadsTo}
use Rattle.sp_kernel.specs.declared.handed.Handed.{Handed}
use Rattle.sp_kernel.specs.declared.kernel.Kernel.{Kernel}
use Rattle.sp_kernel.specs.Kernels.{control_of, system_of, code_run_of}
use Rattle.sp_kernel.specs.Asks.{IsOpening, KernelSteps}
use Rattle.sp_replay.specs.declared.follow.FollowedRun.{FollowedRun}
use Rattle.sp_replay.specs.HeldProcesses.{held_at}

-- the kernel does not have the process
abbrev pub IsOutOfKernel : Doing → Type 0
IsOutOfKernel (Out w) = Unit {0}
IsOutOfKernel Gone = Unit {0}
IsOutOfKernel _ = ⊥

-- process q is out, and is this one
pub record IsOutAs (y : Kernel) (q : ℕ) (p : Proc) : Type 0 where
  pub number : p.number ≡ q
  pub out : (control_of y).doing q ≡ Out 0
  pub runs : (system_of y).condition q ≡ Working (config_of p)
  pub input : p.input.value ≡ (code_run_of y).input

-- calls of one worker have led to the kernel, and none of them was an abandon
pub record HasCome (y : Kernel) : Type 0 where
  pub opened : Kernel
  pub opening : IsOpening opened
  pub log : List Note
  pub told : LeadsTo KernelSteps opened log y
  pub kept : y.abandons ≡ 0

-- the processes that are out are these, by their numbers; and once a fault stands, none is ready
pub record AreOut (y : Kernel) (who : ℕ → Option Proc) : Type 0 where
  pub each : (q : ℕ) (p : Proc) → who q ≡ Some p → IsOutAs y q p
  pub all : (q : ℕ) → IsOutOfKernel ((control_of y).doing q) → (p : Proc) × (who q ≡ Some p)
  pub still : y.faulted ≡ true → y.ready ≡ []

-- the kernel of a run, of which these processes are out
pub record IsReplayKernel (y : Kernel) (who : ℕ → Option Proc) : Type 0 where
  pub come : HasCome y
  pub held : AreOut y who

-- all that can run are held
pub record HoldsAllReady (f : FollowedRun) : Type 0 where
  pub follows : IsReplayKernel f.kernel (held_at f.held)
  pub none_ready : f.kernel.ready ≡ []

-- the same run after the same entries
pub record SameRun (x y : Kernel) : Type 0 where
  pub code_run : code_run_of y ≡ code_run_of x
  pub entries : y.journal.entries ≡ x.journal.entries
  pub system : system_of y ≡ system_of x

-- a run of this code with these limits
pub record RunsOn (x : Kernel) (parts : Parts) (lim : Limits) : Type 0 where
  pub code : x.code.value ≡ parts
  pub limits : x.limits ≡ lim

-- a process was run by one turn, which memory did not end
pub record WasTurned (p : Proc) (code : Parts) (lim : Limits) (h : Handed) : Type 0 where
  pub turn : IsTurnOf p code lim h.proc h.stop
  pub keeps : KeepsNumberAndInput p h.proc
  pub whole : h.stop ≡ stop.Memory → ⊥

-- all that can run were held; then one was picked, and was run by one turn
pub record IsInHand (f : FollowedRun) (code : Parts) (lim : Limits) (h : Handed) : Type 0 where
  pub who : ℕ → Option Proc
  pub follows : IsReplayKernel f.kernel who
  pub none_ready : f.kernel.ready ≡ []
  pub before : Proc
  pub picked : who before.number ≡ Some before
  pub others : (q : ℕ) → held_at f.held q ≡ at_key ◌==◌ before.number None who q
  pub turned : WasTurned before code lim h

-- an event of process p was made
pub record EventMade (x : Kernel) (p : ℕ) (e : Event) (y : Kernel) : Type 0 where
  pub code_run : code_run_of y ≡ code_run_of x
  pub entries : y.journal.entries ≡ x.journal.entries ++ record { process = p; event = e } ∷ []
  pub enters : system.EntryLeads plain (code_run_of x) (system_of x) p e (system_of y)

-- no system comes after the entry
abbrev pub CannotCome : Kernel → Entry → Type 0
CannotCome x e = (t : System Plain) → system.EntryLeads plain (code_run_of x) (system_of x) e.process e.event t → ⊥

-- the process that was taken, if any, is held beside the others
abbrev pub with_taken : Option Proc → (ℕ → Option Proc) → ℕ → Option Proc
with_taken None who = who
with_taken (Some p) who = at_key ◌==◌ p.number (Some p) who

-- an event of process p was made, and the process that was ready for longest was taken, if any
pub record Exchanged (x : Kernel) (p : ℕ) (held : List (Option Proc)) (r : Option Proc) (y : Kernel) : Type 0 where
  pub event : Event
  pub made : EventMade x p event y
  pub follows : IsReplayKernel y (with_taken r (held_at held))
