use Rattle.std.proofs.Common.{◌≡◌, false, ◌++◌, ◌-◌, ◌*◌, ◌^◌, length}
use Rattle.sp_varsets.specs.Members.{has}
use Rattle.sp_generate.specs.Handings.{fitting_numbers, members}
use Rattle.sp_generate.proofs.handings.members.Given as goal

abbrev pub invariant-loop-x : goal.invariant-loop-x
invariant-loop-x l = l.out.is_lost ≡ false
    → l.out.items.items ++ fitting_numbers (has l.set) l.from (64 * length l.set.words - l.from)
    ≡ members l.set

abbrev pub decreases-loop-x : goal.decreases-loop-x
decreases-loop-x l = 2 ^ 32 - l.from
