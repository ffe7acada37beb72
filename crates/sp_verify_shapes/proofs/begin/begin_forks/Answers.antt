use Rattle.std.proofs.Common.{◌+◌}
use Rattle.sp_verify_shapes.specs.Starts.{IsMade, IsMadeAt}
use Rattle.sp_verify_shapes.proofs.AreaEntries.{adds_then, more_made}
use Rattle.sp_verify_shapes.proofs.begin.begin_forks.Goals as goal

pub loop-p-preserved : goal.loop-p-preserved
loop-p-preserved c =
    let code = c.args.code.now in
    let n = c.loop-p.p in
    adds_then code (IsMade code n) (IsMadeAt code n) (IsMade code (n + 1)) c.args.arrivals.now c.loop-p.arrivals
    c.begin_at.new.arrivals (λ q h. more_made code n q h) c.loop-p.invariant c.in-Ok.ensures
