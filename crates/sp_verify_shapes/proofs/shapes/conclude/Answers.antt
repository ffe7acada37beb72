use Rattle.std.proofs.Common.{Some, None}
use Rattle.sp_verify_shapes.proofs.SearchEnds.{least_broken, are_shapes}
use Rattle.sp_verify_shapes.proofs.shapes.conclude.Goals as goal

pub returns-in-Some : goal.returns-in-Some
returns-in-Some c = least_broken c.args.code.now c.requires.kept c.args.search c.requires.done (Some c.in-Some.p)
    c.in-Some.ensures

pub returns-in-None : goal.returns-in-None
returns-in-None c = (
  least_broken c.args.code.now c.requires.kept c.args.search c.requires.done None c.in-None.ensures,
  are_shapes c.args.code.now c.requires.kept c.args.search c.requires.done c.in-None.ensures c.args.asked
      c.requires.asked,
)
