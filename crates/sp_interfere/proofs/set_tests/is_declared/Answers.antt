use Rattle.sp_interfere.proofs.SetTests.{declared_is}
use Rattle.sp_interfere.proofs.set_tests.is_declared.Goals as goal

pub returns : goal.returns
returns c = declared_is c.args.a.now c.has_from.result c.has_from.ensures
