use Rattle.std.proofs.Common.{◌∙◌, ap, Some}
use Rattle.sp_replay.specs.HeldProcesses.{held_at}
use Rattle.sp_replay.proofs.HeldLists.{held_then}
use Rattle.sp_replay.proofs.held.hold.Goals as goal

pub returns : goal.returns
returns c = λ q. ap (λ l. held_at l q) c.replace.ensures.list
    ∙ held_then c.args.held.now c.reach.new.held c.args.number (Some c.args.proc) c.in_ok-reach.ensures.same
    c.in_ok-reach.ensures.there q
