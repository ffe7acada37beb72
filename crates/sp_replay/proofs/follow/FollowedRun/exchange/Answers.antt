use Rattle.sp_replay.proofs.HistorySteps.{is_whole, fits_in, out_between, exchanges}
use Rattle.sp_replay.proofs.follow.FollowedRun.exchange.Goals as goal

pub give-requires-clause-whole : goal.give-requires-clause-whole
give-requires-clause-whole c = is_whole c.args.self.now.kernel c.requires.hand.follows.come

pub give-requires-clause-fits : goal.give-requires-clause-fits
give-requires-clause-fits c = fits_in c.args.self.now c.args.code.now c.args.limits.now c.requires.run c.args.handed
    c.requires.hand

pub take-requires-clause-whole : goal.take-requires-clause-whole
take-requires-clause-whole c = c.in-Ok.ensures.ok.whole

pub take-requires-clause-out : goal.take-requires-clause-out
take-requires-clause-out c = out_between c.args.self.now c.args.code.now c.args.limits.now c.requires.run c.args.handed
    c.requires.hand c.give.new.self c.in-Ok.ensures.ok

pub returns-clause-exchanged : goal.returns-clause-exchanged
returns-clause-exchanged c = exchanges c.args.self.now c.args.code.now c.args.limits.now c.requires.run c.args.handed
    c.requires.hand c.give.new.self c.in-Ok.ensures.ok c.take.result c.take.new.self c.take.ensures
