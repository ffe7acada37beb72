use Rattle.sp_race.proofs.ClockLaws.{none_counted}
use Rattle.sp_race.proofs.clock.Clock.is_empty.Goals as goal

pub returns : goal.returns
returns c = λ empty. none_counted c.args.self.now.counts.entries (c.is_empty.ensures.0 empty)
