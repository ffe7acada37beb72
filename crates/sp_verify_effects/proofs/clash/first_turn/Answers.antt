use Rattle.std.proofs.Common.{◌≡◌, ◌+◌, ◌∙◌, Bool, List, length, refl, Some, sym, subst, ap, arith}
use Rattle.std.specs.Prelude.{slice_get}
use Rattle.std.proofs.lemmas.Option.{slice_get_read}
use Rattle.sp_code.specs.declared.code.Layout.{Layout}
use Rattle.sp_code.specs.declared.code.Parts.{Parts}
use Rattle.sp_verify_areas.specs.LeastPlaces.{IsLeast, Upto}
use Rattle.sp_verify_areas.proofs.Leasts.{more}
use Rattle.sp_verify_effects.specs.Turns.{LayoutTurns, turns}
use Rattle.sp_verify_effects.proofs.V7Passes.{one_turn}
use Rattle.sp_verify_effects.proofs.clash.first_turn.Goals as goal

pub loop-place-preserved : goal.loop-place-preserved
loop-place-preserved c =
    let code = c.args.g.now.code.now in
    let e = c.args.effects.now in
    let fs = c.args.flags.now in
    let R = LayoutTurns e fs code.layouts in
    let items = c.items-l-items.result.now in
    let j = c.loop-place.place in
    let l = c.l-item.result in
    let same : items ≡ code.layouts = c.items-l-items.ensures ∙ ap (λ (z : Parts). z.layouts) c.parts.ensures.same in
    let is : slice_get code.layouts j ≡ Some l = ap (λ (xs : List Layout). slice_get xs j) (sym same)
    ∙ slice_get_read items (length items) j l refl c.loop-place-test.true c.l-item.is in
    let t = c.turns-turned.ensures
    ∙ ap (λ (b : Bool). turns e.own.keys b l (slice_get e.rows l.entry)) c.flag_at.ensures in
    let one = one_turn code c.requires.known.kept e.own.keys c.requires.effects.found.own j l is fs e
    c.turns-turned.result c.place_if.result t c.place_if.ensures in
    subst (IsLeast (Upto R (j + 1))) (sym c.least-first.ensures)
    (more R j c.loop-place.first c.place_if.result c.loop-place.invariant one)

pub returns : goal.returns
returns c =
    let code = c.args.g.now.code.now in
    let same : c.items-l-items.result.now ≡ code.layouts = c.items-l-items.ensures
    ∙ ap (λ (z : Parts). z.layouts) c.parts.ensures.same in
    let size = ap length same in
    let e : c.loop-place.place ≡ length code.layouts = omega (arith, size) in
    subst (λ n. IsLeast (Upto (LayoutTurns c.args.effects.now c.args.flags.now code.layouts) n) c.loop-place.first) e
    c.loop-place.invariant
