use Rattle.std.proofs.Common.{◌≡◌, ◌∙◌, List, length, refl, Some, ap, sym, subst, arith}
use Rattle.std.specs.Prelude.{slice_get}
use Rattle.std.proofs.lemmas.Option.{slice_get_read}
use Rattle.sp_code.specs.declared.code.Layout.{Layout}
use Rattle.sp_code.specs.declared.code.Parts.{Parts}
use Rattle.sp_verify_areas.specs.OrphanBlock.{AreDoubled}
use Rattle.sp_verify_areas.proofs.orphan_block.first_orphan_block.Goals as goal

pub loop-item-preserved : goal.loop-item-preserved
loop-item-preserved c =
    let ls = c.args.code.now.layouts in
    let items = c.items-l-items.result.now in
    let j = c.loop-item.item in
    let l = c.l-item.result in
    let same : items ≡ ls = c.items-l-items.ensures ∙ ap (λ (z : Parts). z.layouts) c.parts-parts.ensures.same in
    let e : slice_get ls j ≡ Some l = ap (λ (xs : List Layout). slice_get xs j) (sym same)
    ∙ slice_get_read items (length items) j l refl c.loop-item-test.true c.l-item.is in
    c.note.ensures ls l c.requires.blocks e refl c.loop-item.invariant

pub first_lacking-requires-clause-flags : goal.first_lacking-requires-clause-flags
first_lacking-requires-clause-flags c =
    let ls = c.args.code.now.layouts in
    let same : c.items-l-items.result.now ≡ ls = c.items-l-items.ensures
    ∙ ap (λ (z : Parts). z.layouts) c.parts-parts.ensures.same in
    let size = ap length same in
    let e : c.loop-item.item ≡ length ls = omega (arith, size) in
    subst (λ n. AreDoubled ls c.loop-item.doubled n) e c.loop-item.invariant
