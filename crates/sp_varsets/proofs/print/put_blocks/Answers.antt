use Rattle.std.proofs.Common.{map}
use Rattle.sp_tree.specs.CheckedOf.{block_of}
use Rattle.sp_varsets.specs.SetsText.{IsOfBlock}
use Rattle.sp_varsets.proofs.TextJoins.{joined_more}
use Rattle.sp_varsets.proofs.print.put_blocks.Goals as goal

pub each-preserved : goal.each-preserved
each-preserved c = λ kept.
    let one = c.put_block.ensures kept in
    let all = c.each.invariant one.0 in (
      all.0,
      joined_more (IsOfBlock c.args.variables.now c.args.sets.now (map block_of c.args.blocks.now)) c.each.b
          c.args.out.now.items.items _ _ all.1 one.1,
    )
