use Rattle.std.proofs.Common.{◌≡◌, ◌+◌, ◌==◌, length, false, refl, sym, subst, arith, eqb-true}
use Rattle.std.proofs.lemmas.Bool.{false_from_ne_true}
use Rattle.std.proofs.lemmas.Option.{slice_get_read}
use Rattle.sp_verify_areas.specs.LeastPlaces.{IsLeast, Upto}
use Rattle.sp_verify_areas.proofs.Leasts.{more, none}
use Rattle.sp_verify_effects.specs.ChildEffects.{ChildFails}
use Rattle.sp_verify_effects.proofs.Alone.{begun, noted}
use Rattle.sp_verify_effects.proofs.TestFailures.{one_child}
use Rattle.sp_verify_effects.proofs.child_effects.first_child.Goals as goal

pub loop-k-init : goal.loop-k-init
loop-k-init c = (
  none (ChildFails c.args.effects.now c.args.children.now),
  λ l. begun c.args.children.now _ c.new.ensures.empty c.new-2.ensures.empty,
)

pub loop-k-preserved : goal.loop-k-preserved
loop-k-preserved c =
    let ts = c.args.children.now in
    let R = ChildFails c.args.effects.now ts in
    let k = c.loop-k.k in
    let t = c.index-children-k.result in
    let e = slice_get_read ts (length ts) k t refl c.loop-k-test.true c.index-children-k.is in
    let before = c.loop-k.invariant.1 c.loop-k-test.true in
    let one = one_child c.args.effects.now ts k t c.loop-k.before c.in-Ok.value c.place_if.result e
    before c.in-Ok.ensures c.place_if.ensures in (
      subst (IsLeast (Upto R (k + 1))) (sym c.least-first.ensures)
          (more R k c.loop-k.first c.place_if.result c.loop-k.invariant.0 one),
      λ l.
          let last : (k + 1 == length ts) ≡ false = false_from_ne_true (k + 1 == length ts)
          (λ h. let s = eqb-true (k + 1) (length ts) h in absurd (omega (arith, s, l))) in
          noted ts k c.loop-k.before c.note_unless.new.before t e before (c.in-Ok-note_unless.ensures.moved last)
          (c.in-Ok-note_unless.ensures.handed last),
    )

pub returns : goal.returns
returns c =
    let e : c.loop-k.k ≡ length c.args.children.now = omega arith in
    subst (λ n. IsLeast (Upto (ChildFails c.args.effects.now c.args.children.now) n) c.loop-k.first) e
    c.loop-k.invariant.0
