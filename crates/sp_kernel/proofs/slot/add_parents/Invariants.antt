use Rattle.std.proofs.Common.{◌≡◌, ◌≤◌, ◌-◌, ◌++◌, length, Some}
use Rattle.sp_kernel.specs.ListEnds.{repeat}
use Rattle.sp_kernel.proofs.slot.add_parents.Given as goal

abbrev pub invariant-loop-added : goal.invariant-loop-added
invariant-loop-added l = (l.added ≤ l.count) × (l.before ≡ length l.initial.parents)
    × (l.parents ≡ l.initial.parents ++ repeat l.added (Some l.process))

abbrev pub decreases-loop-added : goal.decreases-loop-added
decreases-loop-added l = l.count - l.added
