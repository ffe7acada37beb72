use Rattle.std.proofs.Common.{length, subst}
use Rattle.sp_machine.specs.declared.state.Stop.{Stop}
use Rattle.sp_kernel.specs.Fits.{IsOffered}
use Rattle.sp_replay.proofs.HistorySteps.{is_whole, fits_in}
use Rattle.sp_replay.proofs.follow.FollowedRun.message.Goals as goal

pub message-requires-clause-whole : goal.message-requires-clause-whole
message-requires-clause-whole c = is_whole c.args.self.now.kernel c.requires.hand.follows.come

pub message-requires-clause-there : goal.message-requires-clause-there
message-requires-clause-there c = subst (λ (s : Stop). IsOffered (length c.args.self.now.kernel.channels) s)
    c.in-Receive.is
    (fits_in c.args.self.now c.args.code.now c.args.limits.now c.requires.run c.args.handed.now c.requires.hand).offered
