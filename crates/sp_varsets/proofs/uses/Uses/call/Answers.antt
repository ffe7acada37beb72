use Rattle.std.proofs.Common.{map}
use Rattle.sp_tree.specs.Bare.{bare_actuals}
use Rattle.sp_tree.specs.CheckedOf.{actual_of, actuals}
use Rattle.sp_varsets.proofs.AddedSets.{adds_then}
use Rattle.sp_varsets.proofs.uses.Uses.call.Goals as goal

pub returns : goal.returns
returns c = adds_then (c.add_call.ensures (bare_actuals (actuals (map actual_of c.args.args.now)))) c.actuals.ensures
