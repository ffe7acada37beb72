use Rattle.std.proofs.Common.{sym, subst}
use Rattle.sp_code.specs.declared.code.Parts.{Parts}
use Rattle.sp_code.specs.Sound.{IsSound}
use Rattle.sp_link.proofs.Soundness.{program_sound}
use Rattle.sp_execute.specs.Runs.{run_input}
use Rattle.sp_execute.proofs.FollowedRuns.{followed}
use Rattle.sp_execute.proofs.replays.follow.Goals as goal

pub replay-requires-clause-sound : goal.replay-requires-clause-sound
replay-requires-clause-sound c =
    let (p, moves, shares, is) = c.requires.program in
    subst (λ (x : Parts). IsSound x) (sym is.emitted)
    (program_sound (run_input p c.args.input.value c.args.limits.now) moves shares is.ready)

pub replay-requires-clause-limits : goal.replay-requires-clause-limits
replay-requires-clause-limits c =
    let (_, _, _, is) = c.requires.program in
    is.ready.limits

pub returns : goal.returns
returns c = λ p moves shares is.
    followed c.args.code.value c.args.input.value c.args.limits.now p moves shares is c.args.journal.now
    c.requires.nameable c.replay.result c.replay.ensures
