use Rattle.std.proofs.Common.{sym, subst}
use Rattle.sp_code.specs.declared.code.Parts.{Parts}
use Rattle.sp_code.specs.Sound.{IsSound}
use Rattle.sp_link.proofs.Soundness.{program_sound}
use Rattle.sp_execute.specs.Runs.{run_input}
use Rattle.sp_execute.proofs.FollowedRuns.{followed}
use Rattle.sp_execute.proofs.replays.follow_told.Goals as goal

pub replay_told-requires-clause-sound : goal.replay_told-requires-clause-sound
replay_told-requires-clause-sound c =
    let (p, moves, shares, is) = c.requires.program in
    subst (λ (x : Parts). IsSound x) (sym is.emitted)
    (program_sound (run_input p c.args.input.value c.args.limits.now) moves shares is.ready)

pub replay_told-requires-clause-limits : goal.replay_told-requires-clause-limits
replay_told-requires-clause-limits c =
    let (_, _, _, is) = c.requires.program in
    is.ready.limits

pub returns-clause-follows : goal.returns-clause-follows
returns-clause-follows c = λ p moves shares is.
    followed c.args.code.value c.args.input.value c.args.limits.now p moves shares is c.args.journal.now
    c.requires.nameable _ c.replay_told.ensures.replays

pub returns-clause-sound : goal.returns-clause-sound
returns-clause-sound c =
    let (p, moves, shares, is) = c.requires.program in
    subst (λ (x : Parts). IsSound x) (sym is.emitted)
    (program_sound (run_input p c.args.input.value c.args.limits.now) moves shares is.ready)
