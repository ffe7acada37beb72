use Rattle.sp_verify_areas.specs.OrphanBlock.{AreDoubled}
use Rattle.sp_verify_areas.proofs.orphan_block.first_orphan_block.Given as goal

-- of the layouts so far
abbrev pub invariant-loop-item : goal.invariant-loop-item
invariant-loop-item l = AreDoubled l.code.layouts l.doubled l.item
