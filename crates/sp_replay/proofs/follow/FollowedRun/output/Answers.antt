use Rattle.std.proofs.Common.{◌∙◌, sym, ap}
use Rattle.sp_replay.specs.HeldProcesses.{held_at, outputs}
use Rattle.sp_replay.proofs.Ending.{here, by_held, nowhere, some_output, no_outputs}
use Rattle.sp_replay.proofs.follow.FollowedRun.output.Goals as goal

pub unreachable-requires : goal.unreachable-requires
unreachable-requires c =
    let f = c.args.self.now in
    nowhere f.kernel c.requires.follows.come (held_at f.held) c.requires.follows.held c.requires.none_ready
    c.in-None.ensures (no_outputs f.held (ap outputs (sym c.items.ensures) ∙ c.in-None-output.ensures))

pub returns-in-Some : goal.returns-in-Some
returns-in-Some c =
    let f = c.args.self.now in
    here f.kernel c.requires.follows.come (held_at f.held) c.requires.follows.held c.requires.none_ready
    c.in-Some.bytes.now c.in-Some.ensures

pub returns-in-Some-output : goal.returns-in-Some-output
returns-in-Some-output c =
    let f = c.args.self.now in
    let (process, proc, is_held, written) = some_output f.held c.in-Some-output.bytes.now
    (ap outputs (sym c.items.ensures) ∙ c.in-Some-output.ensures) in
    by_held f.kernel c.requires.follows.come (held_at f.held) c.requires.follows.held c.requires.none_ready
    c.in-Some-output.bytes.now process proc is_held written
