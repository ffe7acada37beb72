use Rattle.std.proofs.Common.{map, rules}
use Rattle.sp_base.proofs.Facts.{get_of_map, item_is}
use Rattle.sp_tree.specs.CheckedOf.{block_of}
use Rattle.sp_varsets.proofs.TextJoins.{put_block_is, put_no_block}
use Rattle.sp_varsets.proofs.print.put_block.Goals as goal

pub returns-then-b-eq0 : goal.returns-then-b-eq0
returns-then-b-eq0 c = λ kept. (
  kept,
  put_no_block c.args.variables.now c.args.sets.now (map block_of c.args.blocks.now) c.args.b
      c.args.out.now.items.items (search rules),
)

pub returns : goal.returns
returns c = λ kept.
    let put = c.put_implicit.ensures kept in (
      put.0,
      put_block_is c.args.variables.now c.args.sets.now (map block_of c.args.blocks.now) c.args.b
          (block_of c.index-blocks-b.result) c.args.out.now.items.items _ (search rules)
          (get_of_map block_of c.args.blocks.now c.args.b c.index-blocks-b.result
          (item_is c.args.blocks.now c.args.b c.index-blocks-b.result c.requires.there c.index-blocks-b.is)) put.1,
    )
