use Rattle.std.proofs.Common.{sym, subst, List}
use Rattle.sp_verify_shapes.specs.declared.steps.Arrival.{Arrival}
use Rattle.sp_verify_shapes.specs.Starts.{AddsStarts}
use Rattle.sp_verify_shapes.proofs.AreaEntries.{adds_one}
use Rattle.sp_verify_shapes.proofs.begin.start.Goals as goal

pub returns : goal.returns
returns c =
    subst (λ (xs : List Arrival). AddsStarts c.args.code.now (λ q. Rattle.std.proofs.Common.◌≡◌ q c.args.at)
    c.args.arrivals.now xs) (sym c.in-Ok.ensures.ok)
    (adds_one c.args.code.now c.args.arrivals.now c.args.at c.requires)
