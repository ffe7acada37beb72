use Rattle.std.proofs.Common.{map, ap, length, sym, subst, ◌∙◌}
use Rattle.std.proofs.lemmas.List.{length-map}
use Rattle.sp_tree.specs.CheckedOf.{block_of, program_of}
use Rattle.sp_varsets.specs.LineForks.{tree_lines}
use Rattle.sp_varsets.specs.TextOrders.{IsInOrder, line_cmp}
use Rattle.sp_varsets.specs.SetsText.{IsSetsText}
use Rattle.sp_varsets.proofs.TextJoins.{finished, put_sets_is}
use Rattle.sp_varsets.proofs.print.print_sets.Goals as goal

pub returns : goal.returns
returns c =
    finished c.finish.result (λ out. IsSetsText (program_of c.args.checked.now) c.args.sets.now out.items)
    c.finish.ensures.kept c.finish.ensures.items (λ kept.
    let lines = c.put_lines.ensures kept in
    let blocks = c.put_blocks.ensures lines.0 in
    put_sets_is (program_of c.args.checked.now) c.args.sets.now c.items-variables.result.now
    (map block_of c.items-blocks.result.now) _ c.as_slice.result.now _ _ _ c.items-variables.ensures
    (ap (map block_of) c.items-blocks.ensures)
    (ap length c.items-blocks.ensures ∙ sym (length-map c.args.checked.now.blocks block_of)) c.new-out.ensures.items
    (subst (IsInOrder line_cmp (tree_lines (program_of c.args.checked.now))) (sym c.as_slice.ensures.value)
    c.in-Ok.ensures) blocks.1 lines.1)
