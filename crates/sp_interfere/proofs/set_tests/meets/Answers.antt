use Rattle.sp_interfere.proofs.SetTests.{meets_is}
use Rattle.sp_interfere.proofs.set_tests.meets.Goals as goal

pub returns : goal.returns
returns c = meets_is c.args.a.now c.args.b.now c.meets.result c.meets.ensures
