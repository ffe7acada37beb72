use Rattle.std.proofs.Common.{◌≡◌, ◌≤◌}
use Rattle.sp_varsets.specs.SetsText.{members}
use Rattle.sp_varsets.proofs.variable_names.members.Given as goal

abbrev pub invariant-loop-k : goal.invariant-loop-k
invariant-loop-k l = (l.xs.items ≡ members l.set l.from) × (l._k ≤ l.from) × (l.from ≤ l.count)
