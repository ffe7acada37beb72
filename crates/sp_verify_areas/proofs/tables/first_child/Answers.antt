use Rattle.std.proofs.Common.{◌≡◌, ◌+◌, length, refl, sym, subst, arith}
use Rattle.std.proofs.lemmas.Option.{slice_get_read}
use Rattle.sp_verify_areas.specs.Alone.{ChildFails, child_fails}
use Rattle.sp_verify_areas.specs.LeastPlaces.{IsLeast, Upto}
use Rattle.sp_verify_areas.proofs.Leasts.{more}
use Rattle.sp_verify_areas.proofs.FirstFailures.{one_child}
use Rattle.sp_verify_areas.proofs.tables.first_child.Goals as goal

pub loop-child-preserved : goal.loop-child-preserved
loop-child-preserved c =
    let ts = c.args.children.now in
    let fails = child_fails c.args.count c.args.forked in
    let R = ChildFails fails ts in
    let k = c.loop-child.child-index in
    let e = slice_get_read ts (length ts) k c.child-item.result refl c.loop-child-test.true c.child-item.is in
    let one = one_child fails ts k c.child-item.result c.child_fails.result c.place_if.result e c.child_fails.ensures
    c.place_if.ensures in
    subst (IsLeast (Upto R (k + 1))) (sym c.least-first.ensures)
    (more R k c.loop-child.first c.place_if.result c.loop-child.invariant one)

pub returns : goal.returns
returns c =
    let e : c.loop-child.child-index ≡ length c.args.children.now = omega arith in
    subst (λ n. IsLeast (Upto (ChildFails
    (child_fails c.args.count c.args.forked) c.args.children.now) n) c.loop-child.first) e c.loop-child.invariant
