use Rattle.std.proofs.Common.{sym, ◌∙◌, ap}
use Rattle.sp_kernel.specs.Kernels.{system_of}
use Rattle.sp_replay.specs.HeldProcesses.{held_at}
use Rattle.sp_replay.proofs.Entries.{not_running}
use Rattle.sp_replay.proofs.LastTurns.{nowhere, on_none}
use Rattle.sp_replay.proofs.follow.FollowedRun.seen.Goals as goal

pub returns-in-Some : goal.returns-in-Some
returns-in-Some c = (c.requires.follows.held.each c.args.process c.in-Some.proc.now
    (ap (λ held. held_at held c.args.process) (sym c.items.ensures) ∙ c.in-Some.ensures)).runs

pub returns-in-None : goal.returns-in-None
returns-in-None c =
    let f = c.args.self.now in
    on_none c.seen.result _ _ _
    (λ unseen. nowhere ((system_of f.kernel).condition c.args.process) unseen
    (not_running f.kernel c.requires.follows.come (held_at f.held) c.requires.follows.held c.requires.none_ready
    c.args.process (ap (λ held. held_at held c.args.process) (sym c.items.ensures) ∙ c.in-None.ensures)))
    c.seen.ensures
