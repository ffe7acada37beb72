-- At a deadlock no process runs.
use Rattle.std.proofs.Common.{◌≡◌, ◌≢◌, ◌||◌, ℕ, if◌then◌else◌, Bool, true, false, List, [], ◌∷◌}
use Rattle.std.proofs.Common.{refl, sym, subst}
use Rattle.sp_base.proofs.Facts.{none_if_not_above}
use Rattle.sp_journal.specs.declared.entry.Note.{Note}
use Rattle.sp_code.specs.PlainStore.{plain}
use Rattle.sp_code.specs.Control.{control_at_start, standing, Running as Going, IsDone, IsDeadlock, IsFault}
use Rattle.sp_code.specs.Control.{IsMemory, is_ready}
use Rattle.sp_code.specs.System.{opening_system}
use Rattle.sp_kernel.specs.declared.kernel.Kernel.{Kernel}
use Rattle.sp_kernel.specs.Kernels.{control_of, system_of, code_run_of}
use Rattle.sp_kernel.specs.Closes.{RanFrom}
use Rattle.sp_kernel.specs.KernelLaws.{from_start, control_is, after_log}
use Rattle.sp_kernel.proofs.RunEnds.{AllHere, all_here}
use Rattle.sp_code.specs.Agreement.{HasOuts, phase_in, Running}
use Rattle.sp_code.proofs.ControlAgreement.{agrees_start, orderly_start}
use Rattle.sp_code.proofs.Outs.{outs_start, outs_all, nobody_runs}

none_ready : (a f e o : Bool) (r : List ℕ) → (if a then IsMemory else
    (if f then IsFault else (if e then IsDone else (if is_ready r || o then Going else IsDeadlock)))) ≡ IsDeadlock
    → (a ≡ false) × (r ≡ [])
none_ready true f e o r is = absurd (cc is)
none_ready false true e o r is = absurd (cc is)
none_ready false false true o r is = absurd (cc is)
none_ready false false false o [] is = (refl, refl)
none_ready false false false o (p ∷ ps) is = absurd (cc is)

pub idle_at : (log : List Note) (y : Kernel) → RanFrom log y → standing (control_of y) ≡ IsDeadlock → (q : ℕ)
    → phase_in ((system_of y).condition q) ≢ Running
idle_at log y (x, fine, ran) is =
    nobody_runs (control_of y) (system_of y) (after_log x fine log y ran.legal).whole.orderly
    (after_log x fine log y ran.legal).whole.agrees outs (none_ready _ _ _ _ y.ready is).1 ran.over.1 here.gone
  where
    here : AllHere y
    here = all_here x fine log y ran (none_if_not_above y.abandons (none_ready _ _ _ _ y.ready is).0)

    outs : HasOuts (control_of y)
    outs = subst HasOuts (sym (control_is x fine log y ran.legal))
        (outs_all plain (code_run_of x) control_at_start (opening_system plain (code_run_of x)) (system_of y) log
        orderly_start
        (agrees_start plain (code_run_of x)) outs_start (from_start x fine log y ran.legal))
