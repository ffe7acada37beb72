use Rattle.std.proofs.Common.{◌≡◌, refl, length}
use Rattle.std.proofs.lemmas.Option.{slice_get_read}
use Rattle.sp_verify_shapes.specs.Starts.{IsOfChildren}
use Rattle.sp_verify_shapes.proofs.AreaEntries.{adds_then, more_children}
use Rattle.sp_verify_shapes.proofs.begin.begin_children.Goals as goal

pub loop-child-preserved : goal.loop-child-preserved
loop-child-preserved c =
    let ts = c.args.children.now in
    let n = c.loop-child.child-index in
    let ch = c.child-item.result in
    let g = slice_get_read ts (length ts) n ch refl c.loop-child-test.true c.child-item.is in
    adds_then c.args.code.now (IsOfChildren ts n) (λ q. q ≡ ch.entry)
    (IsOfChildren ts (Rattle.std.proofs.Common.◌+◌ n 1)) c.args.arrivals.now c.loop-child.arrivals
    c.start.new.arrivals
    (λ q h. more_children c.args.code.now ts n q ch g h) c.loop-child.invariant c.in-Ok.ensures
