use Rattle.std.proofs.Common.{◌∙◌, sym, ap, subst, Result, Ok, Err, OnOk}
use Rattle.sp_journal.specs.declared.entry.Event.{Event}
use Rattle.sp_kernel.specs.declared.kernel.Kernel.{Kernel}
use Rattle.sp_replay.specs.declared.follow.FollowedRun.{FollowedRun}
use Rattle.sp_replay.specs.HeldProcesses.{held_at}
use Rattle.sp_replay.specs.FollowInvariant.{HoldsAllReady, EventMade, SameRun, with_taken}
use Rattle.sp_replay.proofs.HistorySteps.{follows_same, made_then}
use Rattle.sp_replay.proofs.follow.FollowedRun.hand_in.Goals as goal

pub take_ready-requires : goal.take_ready-requires
take_ready-requires c =
    let e = c.in-Ok.ensures in
    let k = c.in-Ok-keep.ensures in
    follows_same c.exchange.new.self.kernel c.keep.new.self.kernel
    (with_taken c.in-Ok.value (held_at c.args.self.now.held)) (held_at c.keep.new.self.held) k.kernel
    (λ q. k.held q ∙ ap (λ h. with_taken c.in-Ok.value (held_at h) q) e.held) e.exchanged.follows

then_made : {X E : Type 0} (r : Result X E) (x y : Kernel) (p : _) (e : Event) (f : FollowedRun) → EventMade x p e y
    → OnOk r (HoldsAllReady f × SameRun y f.kernel)
    → OnOk r (HoldsAllReady f × ((d : Event) × EventMade x p d f.kernel))
then_made (Ok v) x y p e f m s = (s.0, (e, made_then x y f.kernel p e m s.1))
then_made (Err v) x y p e f m s = s

pub returns : goal.returns
returns c = then_made c.take_ready.result c.args.self.now.kernel c.keep.new.self.kernel c.args.handed.proc.number
    c.in-Ok.ensures.exchanged.event c.take_ready.new.self
    (subst (EventMade c.args.self.now.kernel c.args.handed.proc.number c.in-Ok.ensures.exchanged.event)
    (sym c.in-Ok-keep.ensures.kernel) c.in-Ok.ensures.exchanged.made) c.take_ready.ensures
