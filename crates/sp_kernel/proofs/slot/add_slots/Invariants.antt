use Rattle.std.proofs.Common.{◌≡◌, ◌≤◌, ◌-◌, ◌++◌, length}
use Rattle.sp_kernel.specs.ListEnds.{repeat}
use Rattle.sp_kernel.specs.declared.slot.Slot.TheVariants as slot
use Rattle.sp_kernel.proofs.slot.add_slots.Given as goal

abbrev pub invariant-loop-added : goal.invariant-loop-added
invariant-loop-added l = (l.added ≤ l.count) × (l.before ≡ length l.initial.slots)
    × (l.slots ≡ l.initial.slots ++ repeat l.added slot.Ended)

abbrev pub decreases-loop-added : goal.decreases-loop-added
decreases-loop-added l = l.count - l.added
