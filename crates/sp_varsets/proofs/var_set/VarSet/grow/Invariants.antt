use Rattle.std.proofs.Common.{◌≡◌, ℕ, length}
use Rattle.sp_varsets.specs.Members.{has}
use Rattle.sp_varsets.proofs.var_set.VarSet.grow.Given as goal

abbrev pub invariant-words : goal.invariant-words
invariant-words l = (length l.self.words ≡ l._k) × ((x : ℕ) → has l.self x ≡ has l.fn.self x)
