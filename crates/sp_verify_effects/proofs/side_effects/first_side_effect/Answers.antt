use Rattle.std.proofs.Common.{◌≡◌, ◌+◌, ◌∙◌, List, length, refl, Some, sym, subst, ap, arith}
use Rattle.std.specs.Prelude.{slice_get}
use Rattle.std.proofs.lemmas.Option.{slice_get_read}
use Rattle.sp_code.specs.declared.code.Layout.{Layout}
use Rattle.sp_code.specs.declared.code.Parts.{Parts}
use Rattle.sp_verify_rules.specs.Verdict.{BreaksV8}
use Rattle.sp_verify_areas.specs.LeastPlaces.{IsLeast, Upto}
use Rattle.sp_verify_areas.proofs.Leasts.{more}
use Rattle.sp_verify_effects.specs.SideEffects.{LayoutHasSideEffects}
use Rattle.sp_verify_effects.proofs.SideEffectLaws.{one_side_effect, v8_least}
use Rattle.sp_verify_effects.proofs.side_effects.first_side_effect.Goals as goal

pub loop-l-preserved : goal.loop-l-preserved
loop-l-preserved c =
    let code = c.args.g.now.code.now in
    let e = c.args.effects.now in
    let R = LayoutHasSideEffects e code.layouts in
    let items = c.items-l-items.result.now in
    let j = c.loop-l.l-index in
    let l = c.l-item.result in
    let same : items ≡ code.layouts = c.items-l-items.ensures ∙ ap (λ (z : Parts). z.layouts) c.parts.ensures.same in
    let is : slice_get code.layouts j ≡ Some l = ap (λ (xs : List Layout). slice_get xs j) (sym same)
    ∙ slice_get_read items (length items) j l refl c.loop-l-test.true c.l-item.is in
    let one = one_side_effect code c.requires.known.kept e.own.keys c.requires.effects.found.own j l is e
    c.has_side_effects.result
    c.place_if.result c.has_side_effects.ensures c.place_if.ensures in
    subst (IsLeast (Upto R (j + 1))) (sym c.least-first.ensures)
    (more R j c.loop-l.first c.place_if.result c.loop-l.invariant one)

pub returns : goal.returns
returns c =
    let code = c.args.g.now.code.now in
    let e = c.args.effects.now in
    let same : c.items-l-items.result.now ≡ code.layouts = c.items-l-items.ensures
    ∙ ap (λ (z : Parts). z.layouts) c.parts.ensures.same in
    let size = ap length same in
    let at : c.loop-l.l-index ≡ length code.layouts = omega (arith, size) in
    subst (IsLeast (BreaksV8 code)) (sym c.least.ensures)
    (v8_least code e c.requires.effects c.requires.known.kept c.loop-l.first
    (subst (λ n. IsLeast (Upto (LayoutHasSideEffects e code.layouts) n) c.loop-l.first) at c.loop-l.invariant))
