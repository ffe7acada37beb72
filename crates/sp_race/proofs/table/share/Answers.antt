use Rattle.std.proofs.Common.{◌+◌, ap, ◌∙◌}
use Rattle.sp_race.specs.Clocks.{clock_at}
use Rattle.sp_race.proofs.TableLaws.{child_learned}
use Rattle.sp_race.proofs.table.share.Goals as goal

pub loop-child-preserved : goal.loop-child-preserved
loop-child-preserved c =
    let h = c.loop-child.invariant in (
      c.in-Ok.ensures.len ∙ h.0,
      child_learned c.args.first c.loop-child.child (c.args.first + c.from.result) c.args.count c.args.process
          (clock_at c.args.clocks.now.items) (clock_at c.loop-child.clocks.items) (clock_at c.learn.new.clocks.items)
          (ap (λ x. c.args.first + x) c.from.ensures) c.requires.before h.1 c.in-Ok.ensures.clocks,
    )
