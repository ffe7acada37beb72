use Rattle.std.proofs.Common.{◌≡◌, ℕ, ◌<◌, get_or}
use Rattle.std.specs.Int.{bit_at}
use Rattle.sp_varsets.proofs.var_set.VarSet.includes.Given as goal

abbrev pub invariant-words : goal.invariant-words
invariant-words l = (j i : ℕ) → j < l.k → i < 64 → bit_at (get_or l.others j 0) i ≡ 1
    → bit_at (get_or l.self.words j 0) i ≡ 1
