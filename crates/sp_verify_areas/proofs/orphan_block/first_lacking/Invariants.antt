use Rattle.sp_verify_areas.specs.OrphanBlock.{OrphanBlockAt}
use Rattle.sp_verify_areas.specs.LeastPlaces.{IsLeast, Upto}
use Rattle.sp_verify_areas.proofs.orphan_block.first_lacking.Given as goal

-- of the layouts so far
abbrev pub invariant-loop-item : goal.invariant-loop-item
invariant-loop-item l = IsLeast (Upto (OrphanBlockAt l.code.layouts) l.item) l.first
