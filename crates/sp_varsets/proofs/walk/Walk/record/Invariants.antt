use Rattle.std.proofs.Common.{◌≡◌, ℕ, length}
use Rattle.sp_varsets.specs.Records.{slot_at}
use Rattle.sp_varsets.proofs.walk.Walk.record.Given as goal

abbrev pub invariant-slots : goal.invariant-slots
invariant-slots l = (l.self.pool ≡ l.fn.self.pool) × (length l.self.slots ≡ l._k)
    × ((n : ℕ) → slot_at l.self.slots n ≡ slot_at l.fn.self.slots n) × (l.self.is_lost ≡ l.fn.self.is_lost)
