use Rattle.std.proofs.Common.{◌≡◌, ℕ, ◌+◌, ◌<◌, get_or, bit_and}
use Rattle.sp_varsets.proofs.union.VarUnion.meets.Given as goal

abbrev pub invariant-words : goal.invariant-words
invariant-words l = (j : ℕ) → j < l.k → bit_and (get_or l.self.words j 0) (get_or l.others (l.first + j) 0) ≡ 0
