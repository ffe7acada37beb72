-- Which phases are that of a process that has ended.
use Rattle.std.proofs.Common.{◌≡◌, ◌≢◌, true, false, refl}
use Rattle.sp_code.specs.Machine.{Stop, Forks}
use Rattle.sp_code.specs.Control.{Doing, Ended, has_ended}
use Rattle.sp_code.specs.Agreement.{Finished, phase, waiting_phase}

pub ended_phase : (d : Doing) → has_ended d ≡ true → phase d ≡ Finished
ended_phase Ended e = refl
ended_phase _ e = absurd (cc e)

pub live_phase : (d : Doing) → has_ended d ≡ false → phase d ≢ Finished
live_phase Ended e f = absurd (cc e)
live_phase _ _ f = absurd (cc f)

-- who waits has not ended
pub no_waiter_ended : (stop : Stop) → waiting_phase stop ≢ Finished
no_waiter_ended (Forks tb v m) f = cc f
no_waiter_ended _ f = cc f
