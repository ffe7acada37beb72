use Rattle.std.proofs.Common.{◌∙◌, ◌==◌, refl, Some, subst, ap}
use Rattle.sp_journal.specs.Maps.{at_key}
use Rattle.sp_kernel.specs.Kernels.{Takes}
use Rattle.sp_replay.specs.HeldProcesses.{held_at}
use Rattle.sp_replay.proofs.HistorySteps.{is_whole, out_bound, take_more, take_none, same_again, none_of}
use Rattle.sp_replay.proofs.follow.FollowedRun.take_ready.Goals as goal

pub loop-proc-init : goal.loop-proc-init
loop-proc-init c = record { follows = c.requires; same = record { code_run = refl; entries = refl; system = refl } }

pub take-requires-clause-whole : goal.take-requires-clause-whole
take-requires-clause-whole c = is_whole c.loop-proc.self.kernel c.loop-proc.invariant.follows.come

pub take-requires-clause-out : goal.take-requires-clause-out
take-requires-clause-out c = out_bound c.loop-proc.self.kernel c.loop-proc.invariant.follows.come

pub loop-proc-preserved : goal.loop-proc-preserved
loop-proc-preserved c =
    let x = c.loop-proc.self.kernel in
    let y = c.take.new.self in
    let n = take_more x y c.loop-proc.self.held c.hold.new.held c.in-Some.proc c.loop-proc.invariant.follows
    (subst (Takes x 0 y) c.in-Some.is c.take.ensures)
    (λ q. c.in-Ok.ensures q ∙ ap (λ n. at_key ◌==◌ n (Some c.in-Some.proc) (held_at c.loop-proc.self.held) q)
    c.number.ensures) in
    record { follows = n.0; same = same_again c.args.self.now.kernel x y c.loop-proc.invariant.same n.1 }

pub loop-proc-smaller : goal.loop-proc-smaller
loop-proc-smaller c =
    let x = c.loop-proc.self.kernel in
    let y = c.take.new.self in
    (take_more x y c.loop-proc.self.held c.hold.new.held c.in-Some.proc c.loop-proc.invariant.follows
    (subst (Takes x 0 y) c.in-Some.is c.take.ensures)
    (λ q. c.in-Ok.ensures q ∙ ap (λ n. at_key ◌==◌ n (Some c.in-Some.proc) (held_at c.loop-proc.self.held) q)
    c.number.ensures)).2

pub returns : goal.returns
returns c =
    let x = c.loop-proc.self.kernel in
    let y = c.take.new.self in
    let t = subst (Takes x 0 y) (none_of c.take.result c.in_default.not-Some) c.take.ensures in
    let n = take_none x y c.loop-proc.self.held c.loop-proc.invariant.follows t in
    (record { follows = n.0; none_ready = n.1 }, same_again c.args.self.now.kernel x y c.loop-proc.invariant.same n.2)
