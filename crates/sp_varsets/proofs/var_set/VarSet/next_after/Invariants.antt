use Rattle.std.proofs.Common.{◌≡◌, ℕ, ◌<◌, get_or}
use Rattle.sp_varsets.proofs.var_set.VarSet.next_after.Given as goal

abbrev pub invariant-words : goal.invariant-words
invariant-words l = (j : ℕ) → l.at < j → j < l.k → get_or l.words j 0 ≡ 0
