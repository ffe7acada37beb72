use Rattle.std.proofs.Common.{◌≡◌, ℕ, ◌<◌, ◌≤◌, get_or}
use Rattle.sp_varsets.proofs.var_set.VarSet.has_past.Given as goal

abbrev pub invariant-words : goal.invariant-words
invariant-words l = (j : ℕ) → 67108864 ≤ j → j < l.k → get_or l.words j 0 ≡ 0
