use Rattle.std.proofs.Common.{List, ◌++◌, ◌+◌, length, map, drop, refl, sym, ap, ◌∙◌, append-nil}
use Rattle.sp_tree.specs.PlainChecked as placed
use Rattle.sp_tree.specs.CheckedOf.{block_of}
use Rattle.sp_tree.specs.Bare.{bare_block}
use Rattle.sp_code.specs.TreeCode.{layout_of, layouts_from}
use Rattle.sp_generate.specs.BuffersAfter.{written}
use Rattle.sp_generate.specs.Handings.{moved_of, shared_of}
use Rattle.sp_generate.specs.Views.{plain_program}
use Rattle.sp_generate.specs.CodeBuffers.{buffer_of, written_block, written_blocks}
use Rattle.sp_generate.proofs.WrittenProgram.{blocks_none, blocks_on, blocks_end, block_next, layout_next}
use Rattle.sp_generate.proofs.program.put_blocks.Goals as goal

pub loop-b-preserved : goal.loop-b-preserved
loop-b-preserved c h =
    let p = plain_program c.args.g.now in
    let mv = moved_of c.args.sets.now in
    let sh = shared_of c.args.sets.now in
    let xs = c.args.g.now.checked.now.blocks in
    let d = written c.loop-b.d in
    let d2 = written c.put_block.new.d in
    let k = c.k-item.result in
    let rest = map block_of (drop (c.loop-b.b + 1) xs) in
    let on = blocks_on xs c.items-k-items.result.now c.loop-b.b k c.items-k-items.ensures c.loop-b-test.true
    c.k-item.is in
    let number = c.number-number.result in
    let entry = c.place-entry.result in
    let b = c.put_block.ensures h in
    let (layout_good, (layout_same, layouts_are)) = c.push_to.ensures _ c.layout_of.ensures b.0 in
    let (entry_good, (entry_same, entry_is)) = c.place-entry.ensures layout_good in
    let (number_good, (number_same, number_is)) = c.number-number.ensures _ c.narrow.ensures entry_good in
    let (good, (rest_put, rest_layouts)) = c.loop-b.invariant number_good in
    let kept = layout_same ∙ entry_same ∙ number_same in
    let block = b.1 ∙ (λ j. written_block p mv sh (buffer_of (kept j) d.forks d.texts) number (block_of k)) in (
      good,
      (
        block_next p mv sh d d2 c.loop-b.b number (block_of k) rest number_is block
            ∙ ap (λ (ks : List placed.Block). written_blocks p mv sh d c.loop-b.b ks) (sym on)
            ∙ rest_put,
        layout_next p mv sh c.loop-b.layouts c.push_to.new.list d d2 c.loop-b.b number entry
            (layout_of p number entry (bare_block (block_of k))) (block_of k) rest number_is
            (entry_is ∙ ap length number_same) refl layouts_are block
            ∙ ap (λ (ks : List placed.Block). c.loop-b.layouts
            ++ layouts_from p c.loop-b.b (length d.instrs) (map bare_block ks)) (sym on)
            ∙ rest_layouts,
      ),
    )

pub returns : goal.returns
returns c h =
    let p = plain_program c.args.g.now in
    let mv = moved_of c.args.sets.now in
    let sh = shared_of c.args.sets.now in
    let xs = c.args.g.now.checked.now.blocks in
    let d = written c.loop-b.d in
    let end = blocks_end xs c.items-k-items.result.now c.loop-b.b c.items-k-items.ensures c.loop-b-test.false in
    let (good, (rest_put, rest_layouts)) = c.loop-b.invariant h in (
      good,
      (
        sym (blocks_none p mv sh d c.loop-b.b)
            ∙ ap (λ ys. written_blocks p mv sh d c.loop-b.b (map block_of ys)) end
            ∙ rest_put,
        sym (append-nil c.loop-b.layouts)
            ∙ ap (λ ys. c.loop-b.layouts ++ layouts_from p c.loop-b.b (length d.instrs) (map bare_block (map block_of
            ys))) end
            ∙ rest_layouts,
      ),
    )
