use Rattle.std.proofs.Common.{◌≡◌, ◌+◌, List, length, refl, Some, ap, sym, ◌∙◌, subst, arith}
use Rattle.std.specs.Prelude.{slice_get}
use Rattle.std.proofs.lemmas.Option.{slice_get_read}
use Rattle.sp_code.specs.declared.code.Layout.{Layout}
use Rattle.sp_code.specs.declared.code.Parts.{Parts}
use Rattle.sp_verify_areas.specs.OrphanBlock.{OrphanBlockAt}
use Rattle.sp_verify_areas.specs.LeastPlaces.{IsLeast, Upto}
use Rattle.sp_verify_areas.proofs.OrphanLayouts.{all_orphan_blocks, one_orphan_block}
use Rattle.sp_verify_areas.proofs.Leasts.{more}
use Rattle.sp_verify_areas.proofs.orphan_block.first_lacking.Goals as goal

pub loop-item-preserved : goal.loop-item-preserved
loop-item-preserved c =
    let ls = c.args.code.now.layouts in
    let items = c.items-l-items.result.now in
    let j = c.loop-item.item in
    let l = c.l-item.result in
    let same : items ≡ ls = c.items-l-items.ensures ∙ ap (λ (z : Parts). z.layouts) c.parts.ensures.same in
    let e : slice_get ls j ≡ Some l = ap (λ (xs : List Layout). slice_get xs j) (sym same)
    ∙ slice_get_read items (length items) j l refl c.loop-item-test.true c.l-item.is in
    let decides = c.lacks_home-lacks.ensures ls l c.requires.blocks e refl c.requires.flags c.requires.led in
    let one = one_orphan_block ls j l e c.lacks_home-lacks.result c.place_if.result decides c.place_if.ensures in
    subst (IsLeast (Upto (OrphanBlockAt ls) (j + 1))) (sym c.least-first.ensures)
    (more (OrphanBlockAt ls) j c.loop-item.first c.place_if.result c.loop-item.invariant one)

pub returns : goal.returns
returns c =
    let code = c.args.code.now in
    let same : c.items-l-items.result.now ≡ code.layouts = c.items-l-items.ensures
    ∙ ap (λ (z : Parts). z.layouts) c.parts.ensures.same in
    let size = ap length same in
    let e : c.loop-item.item ≡ length code.layouts = omega (arith, size) in
    all_orphan_blocks code c.loop-item.first
    (subst (λ n. IsLeast (Upto (OrphanBlockAt code.layouts) n) c.loop-item.first) e c.loop-item.invariant)
