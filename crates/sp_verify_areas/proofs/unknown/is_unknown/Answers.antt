use Rattle.sp_verify_rules.specs.Areas.{homes}
use Rattle.sp_verify_areas.proofs.KnownVariables.{one_large}
use Rattle.sp_verify_areas.proofs.unknown.is_unknown.Goals as goal

pub returns : goal.returns
returns c = λ a l. one_large c.args.code.now.layouts c.args.x
    (homes c.args.code.now a) c.is_around.result c.if-x-lt2.false (c.is_around.ensures a l)
