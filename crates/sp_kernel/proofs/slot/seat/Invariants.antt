use Rattle.std.proofs.Common.{length}
use Rattle.sp_kernel.proofs.ChildSlots.{SoFar}
use Rattle.sp_kernel.proofs.slot.seat.Given as goal

abbrev pub invariant-loop-child : goal.invariant-loop-child
invariant-loop-child l = SoFar l.initial.slots l.first l.initial.children l.children l.slots

abbrev pub decreases-loop-child : goal.decreases-loop-child
decreases-loop-child l = length l.children
