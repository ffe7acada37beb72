use Rattle.std.proofs.Common.{◌≡◌, false, map, drop}
use Rattle.sp_tree.specs.CheckedOf.{block_of}
use Rattle.sp_varsets.specs.declared.walk.Walk.{Walk}
use Rattle.sp_varsets.specs.Bodies.{IsInBlocks, AreBodies}
use Rattle.sp_varsets.specs.Records.{RecordsStatements}
use Rattle.sp_varsets.proofs.bodies.gather.Given as goal

abbrev pub invariant-loop-block : goal.invariant-loop-block
invariant-loop-block l = l.bodies.is_lost ≡ false
    → AreBodies (map block_of l.blocks) l.bodies l.block-index
    × ((v : Walk) → RecordsStatements l.walk v (λ t. IsInBlocks (map block_of (drop l.block-index l.blocks)) t)
    → RecordsStatements l.fn.walk v (λ t. IsInBlocks (map block_of l.blocks) t))
