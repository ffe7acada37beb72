use Rattle.sp_replay.proofs.HistorySteps.{starts}
use Rattle.sp_replay.proofs.follow.FollowedRun.start.Goals as goal

pub take_ready-requires : goal.take_ready-requires
take_ready-requires c = starts c.args.kernel c.requires c.new.result c.new.ensures
