use Rattle.std.proofs.Common.{◌≡◌, ℕ, ◌+◌, ◌<◌, ◌≤◌, get_or, length, bit_or}
use Rattle.sp_varsets.proofs.union.VarUnion.add.Given as goal

abbrev pub invariant-words : goal.invariant-words
invariant-words l =
    (l.self.first ≡ l.fn.self.first)
    × (length l.self.words ≡ 129)
    × ((j : ℕ) → j < l.k → get_or l.self.words j 0
    ≡ bit_or (get_or l.fn.self.words j 0) (get_or l.others (l.first + j) 0))
    × ((j : ℕ) → l.k ≤ j → get_or l.self.words j 0 ≡ get_or l.fn.self.words j 0)
