use Rattle.std.proofs.Common.{◌<◌, length}
use Rattle.sp_format.proofs.ItemLists.{LaidSoFar}
use Rattle.sp_format.proofs.canonical.lay.Given as goal

abbrev pub invariant-items : goal.invariant-items
invariant-items l = LaidSoFar l.text l.rest l.out.items l.context × (length l.out.items < 1048576)

abbrev pub decreases-items : goal.decreases-items
decreases-items l = length l.rest
