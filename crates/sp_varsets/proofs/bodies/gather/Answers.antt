use Rattle.std.proofs.Common.{◌≡◌, arith, length, map, subst}
use Rattle.sp_tree.specs.CheckedOf.{block_of}
use Rattle.sp_varsets.specs.Bodies.{AreBodies}
use Rattle.sp_varsets.proofs.AddedSets.{from_empty}
use Rattle.sp_varsets.proofs.BlockRows.{bodies_more, block_at, blocks_on, blocks_end}
use Rattle.sp_varsets.proofs.StatementRecords.{writes_then, writes_none}
use Rattle.sp_varsets.proofs.bodies.gather.Goals as goal

pub loop-block-preserved : goal.loop-block-preserved
loop-block-preserved c k =
    let (uses, put, (_, empty, walk)) = c.walk_in.ensures in
    let (before, held) = put.kept k in
    let (bodies, records) = c.loop-block.invariant before in (
      bodies_more (map block_of c.args.blocks.now) c.loop-block.bodies c.walk_in.new.self uses
          (block_of c.block-item.result) c.loop-block.block-index bodies
          (block_at c.args.blocks.now c.loop-block.block-index c.block-item.result c.loop-block-test.true
          c.block-item.is)
          (put.targets k) (put.expressions k) (put.calls k) (put.stops k) (from_empty empty walk.adds held),
      λ v f. records v (rw (blocks_on c.args.blocks.now c.loop-block.block-index c.block-item.result
          c.loop-block-test.true c.block-item.is) (writes_then (walk.writes held) f)),
    )

pub returns-else-bodies-clause-walk : goal.returns-else-bodies-clause-walk
returns-else-bodies-clause-walk c = (c.loop-block.invariant c.if-bodies.false).1 c.loop-block.walk
    (rw (blocks_end c.args.blocks.now c.loop-block.block-index c.loop-block-test.false)
    (writes_none c.loop-block.walk (λ t. ⊥) (λ t h. h)))

pub returns-else-bodies-clause-bodies : goal.returns-else-bodies-clause-bodies
returns-else-bodies-clause-bodies c =
    let end : c.loop-block.block-index ≡ length c.args.blocks.now = omega arith in
    subst (λ n. AreBodies (map block_of c.args.blocks.now) c.loop-block.bodies n) end
    (c.loop-block.invariant c.if-bodies.false).0
