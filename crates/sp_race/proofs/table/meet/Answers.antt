use Rattle.sp_race.specs.Clocks.{clock_at, IsAsked}
use Rattle.sp_race.proofs.TableLaws.{both_met}
use Rattle.sp_race.proofs.table.meet.Goals as goal

pub returns-clause-clocks : goal.returns-clause-clocks
returns-clause-clocks c =
    both_met (IsAsked c.args.until.now c.args.now) c.args.comes.process c.args.comes.count c.args.waits.process
    c.args.waits.count (clock_at c.args.clocks.now.items) (clock_at c.raise.new.clocks.items)
    (clock_at c.raise-2.new.clocks.items) (clock_at c.learn.new.clocks.items) (clock_at c.learn-2.new.clocks.items)
    c.requires.apart c.in-Ok.ensures.clocks c.in-Ok-raise.ensures.clocks c.in-Ok-learn.ensures.clocks
    c.in-Ok-learn-2.ensures.clocks
