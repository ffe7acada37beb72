use Rattle.std.proofs.Common.{drop}
use Rattle.std.specs.List.{flat_map}
use Rattle.sp_print.specs.OutcomeLines.{waiter_line}
use Rattle.sp_base.specs.Adds.{Covers}
use Rattle.sp_print.proofs.end.put_waiters.Given as goal

abbrev pub invariant-loop-waiter : goal.invariant-loop-waiter
invariant-loop-waiter l =
    Covers l.fn.out l.out (flat_map waiter_line (drop l.waiter-index l.waiters)) (flat_map waiter_line l.waiters)
