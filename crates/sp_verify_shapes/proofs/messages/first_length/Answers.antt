use Rattle.std.proofs.Common.{sym, subst}
use Rattle.sp_verify_areas.specs.LeastPlaces.{IsLeast}
use Rattle.sp_verify_rules.specs.Rules.{BreaksV4}
use Rattle.sp_verify_shapes.proofs.MessageLengths.{least_length}
use Rattle.sp_verify_shapes.proofs.messages.first_length.Goals as goal

pub returns : goal.returns
returns c =
    subst (IsLeast (BreaksV4 c.args.code.now)) (sym c.least.ensures)
    (least_length c.args.code.now c.args.shapes.now c.requires c.in-Ok.value c.first_lacking-lacking.result
    c.in-Ok.ensures c.first_lacking-lacking.ensures)
