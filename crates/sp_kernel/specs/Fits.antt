-- None of this belongs to what the program promises: it is for contracts between crates.
-- What may be handed in: a turn that a process out with this worker can have made. Each ask requires it, and the
-- runner shows it of the turn that it ran.
use Rattle.std.specs.Prelude.{◌≡◌, ℕ, ◌<◌, length, Some}
use Rattle.sp_journal.specs.declared.entry.Birth.{Birth}
use Rattle.sp_code.specs.declared.code.Parts.{Parts}
use Rattle.sp_cell.specs.Map.{Plain}
use Rattle.sp_code.specs.Machine.{Config}
use Rattle.sp_code.specs.Memory.{Memory, memory}
use Rattle.sp_code.specs.PlainStore.{plain}
use Rattle.sp_code.specs.Turns.{IsTurn}
use Rattle.sp_code.specs.Sound.{IsSafeSystem, HasDistinctBlocks}
use Rattle.sp_code.specs.Control.{Out, Joining}
use Rattle.sp_code.specs.System.{Working}
use Rattle.sp_kernel.specs.declared.handed.Handed.{Handed}
use Rattle.sp_machine.specs.declared.state.Stop.{Stop}
use Rattle.sp_machine.specs.declared.state.Stop.TheVariants as stop
use Rattle.sp_kernel.specs.declared.kernel.Kernel.{Kernel}
use Rattle.sp_code.specs.Formals.{HaveFormals}
use Rattle.sp_machine.specs.Procs.{KeepsFork}
use Rattle.sp_kernel.specs.Procs.{turn_of}
use Rattle.sp_kernel.specs.Kernels.{control_of, system_of, code_run_of}

-- a stop that can be handed in: a turn that memory ended can't, and an offer is on one of so many channels
abbrev pub IsOffered : ℕ → Stop → Type 0
IsOffered n (stop.Send c k cs) = c < n
IsOffered n (stop.Receive c k) = c < n
IsOffered n stop.Memory = ⊥
IsOffered _ _ = Unit {0}

-- a turn that memory did not end
abbrev pub IsWhole : Stop → Type 0
IsWhole stop.Memory = ⊥
IsWhole _ = Unit {0}

-- what the machine asks of the code besides
pub record FitsCode (code : Parts) : Type 0 where
  pub blocks : HasDistinctBlocks code.layouts
  pub formals : HaveFormals code.layouts

-- the process is out with the worker, and was run by one turn from where the system has it
pub record FitsHanded (x : Kernel) (w : ℕ) (h : Handed) : Type 0 where
  pub out : (control_of x).doing h.proc.number ≡ Out w
  pub configuration : Config (Memory Plain)
  pub runs : (system_of x).condition h.proc.number ≡ Working configuration
  pub turn : IsTurn (memory plain (code_run_of x)) (code_run_of x).code configuration (turn_of h)
  pub safe : IsSafeSystem (code_run_of x) (system_of x)
  pub offered : IsOffered (length x.channels) h.stop
  pub fork : KeepsFork h.stop h.proc
  pub input : h.proc.input.value ≡ (code_run_of x).input
  -- its parent, if it has one, waits for it
  pub parent : (b : Birth) → (system_of x).births.birth h.proc.number ≡ Some b → (n : ℕ)
      × ((control_of x).doing b.parent ≡ Joining n)
  pub code : FitsCode (code_run_of x).code
