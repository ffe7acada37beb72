use Rattle.std.proofs.Common.{get_or}
use Rattle.std.proofs.lemmas.Option.{slice_get-get_or}
use Rattle.sp_verify_areas.proofs.KnownVariables.{in_here, in_next, in_none}
use Rattle.sp_verify_areas.proofs.unknown.is_in.Goals as goal

pub returns-then-x-y : goal.returns-then-x-y
returns-then-x-y c =
    let xs = c.args.xs.now in
    let k = c.loop-y.y-index in
    in_here c.args.x (get_or xs k 0) xs k (slice_get-get_or xs k 0 c.loop-y-test.true) c.loop-y.invariant c.if-x-y.true

pub loop-y-preserved : goal.loop-y-preserved
loop-y-preserved c =
    let xs = c.args.xs.now in
    let k = c.loop-y.y-index in
    in_next c.args.x (get_or xs k 0) xs k (slice_get-get_or xs k 0 c.loop-y-test.true) c.loop-y.invariant c.if-x-y.false

pub returns : goal.returns
returns c = in_none c.args.x c.args.xs.now c.loop-y.y-index c.loop-y-test.false c.loop-y.invariant
