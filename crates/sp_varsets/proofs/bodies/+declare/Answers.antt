use Rattle.std.proofs.Common.{rules, ◌≡◌, ◌∙◌, length, map, arith, slice_get, Some, None, sym}
use Rattle.sp_base.proofs.Facts.{get_of_map, length_of_map, no_get_of_map}
use Rattle.sp_tree.specs.Bare.{without_places, bare_block}
use Rattle.sp_tree.specs.CheckedOf.{block_of, program_of}
use Rattle.sp_varsets.proofs.BlockRows.{in_put, declares_none, declares_top, declares_more}
use Rattle.sp_varsets.proofs.bodies.+declare.Goals as goal

pub returns : goal.returns
returns t c =
    let g : slice_get c.args.checked.now.blocks c.args.block ≡ Some c.in-Some.k.now = search rules in
    let at = get_of_map bare_block (map block_of c.args.checked.now.blocks) c.args.block (block_of c.in-Some.k.now)
    (get_of_map block_of c.args.checked.now.blocks c.args.block c.in-Some.k.now g) in
    let up : c.in-Some.k.now.parent ≡ Some c.in-Some-parent.q = search rules in
    let l : length c.args.rows.now ≡ length (map bare_block (map block_of c.args.checked.now.blocks)) = c.requires.rows
    ∙ (sym (length_of_map block_of c.args.checked.now.blocks)
    ∙ sym (length_of_map bare_block (map block_of c.args.checked.now.blocks))) in
    declares_more (without_places (program_of c.args.checked.now)) c.args.rows.now c.put_into.new.rows
    c.declare.new.rows
    c.args.variable c.args.block c.in-Some-parent.q (bare_block (block_of c.in-Some.k.now)) l
    c.in-Ok.ensures.rows at up
    (in_put c.args.rows.now c.put_into.new.rows c.args.block c.args.variable c.in-Ok.ensures.put)
    c.in-Ok-declare.ensures

pub returns-in-None : goal.returns-in-None
returns-in-None t c =
    let g : slice_get c.args.checked.now.blocks c.args.block ≡ None = search rules in
    let l : length c.args.rows.now ≡ length (map bare_block (map block_of c.args.checked.now.blocks)) = c.requires.rows
    ∙ (sym (length_of_map block_of c.args.checked.now.blocks)
    ∙ sym (length_of_map bare_block (map block_of c.args.checked.now.blocks))) in
    declares_none (without_places (program_of c.args.checked.now)) c.args.rows.now c.args.variable c.args.block l
    (no_get_of_map bare_block (map block_of c.args.checked.now.blocks) c.args.block
    (no_get_of_map block_of c.args.checked.now.blocks c.args.block g))

pub returns-in-None-parent : goal.returns-in-None-parent
returns-in-None-parent t c =
    let g : slice_get c.args.checked.now.blocks c.args.block ≡ Some c.in-Some.k.now = search rules in
    let at = get_of_map bare_block (map block_of c.args.checked.now.blocks) c.args.block (block_of c.in-Some.k.now)
    (get_of_map block_of c.args.checked.now.blocks c.args.block c.in-Some.k.now g) in
    let top : c.in-Some.k.now.parent ≡ None = search rules in
    let l : length c.args.rows.now ≡ length (map bare_block (map block_of c.args.checked.now.blocks)) = c.requires.rows
    ∙ (sym (length_of_map block_of c.args.checked.now.blocks)
    ∙ sym (length_of_map bare_block (map block_of c.args.checked.now.blocks))) in
    declares_top (without_places (program_of c.args.checked.now)) c.args.rows.now c.put_into.new.rows c.args.variable
    c.args.block
    (bare_block (block_of c.in-Some.k.now)) l c.in-Ok.ensures.rows at top
    (in_put c.args.rows.now c.put_into.new.rows c.args.block c.args.variable c.in-Ok.ensures.put)

pub returns-then-q-block : goal.returns-then-q-block
returns-then-q-block t c =
    let g : slice_get c.args.checked.now.blocks c.args.block ≡ Some c.in-Some.k.now = search rules in
    let up : c.in-Some.k.now.parent ≡ Some c.in-Some-parent.q = search rules in
    let before = c.requires.parents c.args.block (block_of c.in-Some.k.now) c.in-Some-parent.q
    (get_of_map block_of c.args.checked.now.blocks c.args.block c.in-Some.k.now g) up in
    let after = c.if-q-block.true in
    absurd (omega arith)
