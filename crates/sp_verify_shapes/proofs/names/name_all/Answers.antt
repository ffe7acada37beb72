use Rattle.std.proofs.Common.{sym, subst}
use Rattle.sp_verify_shapes.specs.Names.{AreNames}
use Rattle.sp_verify_shapes.proofs.AlikeLists.{length_after, names_more}
use Rattle.sp_verify_shapes.proofs.names.name_all.Goals as goal

pub returns-in-Err : goal.returns-in-Err
returns-in-Err c = subst (AreNames c.args.stacks.now) (sym c.in-Err.ensures.err) c.loop-i.invariant.0

pub loop-i-preserved : goal.loop-i-preserved
loop-i-preserved c = (
  names_more c.args.stacks.now c.loop-i.names c.push.new.self c.name_of-name.result c.loop-i.i c.loop-i.invariant.0
      c.loop-i.invariant.1 c.name_of-name.ensures c.in_default.ensures.ok,
  length_after c.loop-i.names c.push.new.self c.name_of-name.result c.loop-i.i c.loop-i.invariant.1
      c.in_default.ensures.ok,
  c.loop-i.invariant.2,
)
