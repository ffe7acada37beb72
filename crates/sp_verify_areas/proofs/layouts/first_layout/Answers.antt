use Rattle.std.proofs.Common.{◌≡◌, ◌+◌, length, refl, sym, subst, arith}
use Rattle.std.proofs.lemmas.Option.{slice_get_read}
use Rattle.sp_verify_areas.specs.Alone.{LayoutFails, layout_fails}
use Rattle.sp_verify_areas.specs.LeastPlaces.{IsLeast, Upto}
use Rattle.sp_verify_areas.proofs.Leasts.{more}
use Rattle.sp_verify_areas.proofs.FirstFailures.{one_layout}
use Rattle.sp_verify_areas.proofs.layouts.first_layout.Goals as goal

pub loop-l-preserved : goal.loop-l-preserved
loop-l-preserved c =
    let ls = c.args.layouts.now in
    let R = LayoutFails (layout_fails c.args.count) ls in
    let j = c.loop-l.l-index in
    let e = slice_get_read ls (length ls) j c.l-item.result refl c.loop-l-test.true c.l-item.is in
    let one = one_layout (layout_fails c.args.count) ls j c.l-item.result c.layout_fails.result c.place_if.result e
    c.layout_fails.ensures c.place_if.ensures in
    subst (IsLeast (Upto R (j + 1))) (sym c.least-first.ensures)
    (more R j c.loop-l.first c.place_if.result c.loop-l.invariant one)

pub returns : goal.returns
returns c =
    let e : c.loop-l.l-index ≡ length c.args.layouts.now = omega arith in
    subst (λ n. IsLeast (Upto (LayoutFails
    (layout_fails c.args.count) c.args.layouts.now) n) c.loop-l.first) e c.loop-l.invariant
