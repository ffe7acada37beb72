use Rattle.std.proofs.Common.{◌-◌, ◌∙◌}
use Rattle.sp_tree.specs.CheckedOf.{program_of}
use Rattle.sp_tree.specs.Bare.{without_places}
use Rattle.sp_generate.proofs.Locals.{scope_on, scope_end}
use Rattle.sp_generate.proofs.blocks.scopes_of.Goals as goal

pub returns-in-None : goal.returns-in-None
returns-in-None c = scope_end (without_places (program_of c.args.checked.now)) c.loop.out.items
    (c.len-end.result - c.loop.counter) c.loop.at c.in-None.is ∙ c.loop.invariant.1

pub loop-preserved : goal.loop-preserved
loop-preserved c = (
  c.loop.invariant.0,
  scope_on (without_places (program_of c.args.checked.now)) c.loop.out.items c.push.new.self.items c.in-Some.c
      c.loop.counter
      c.len-end.result c.loop.at c.parent_of-at.result
      c.loop-test.true c.in-Some.is c.in_ok-push-in-Some.ensures.items c.parent_of-at.ensures ∙ c.loop.invariant.1,
)
