use Rattle.std.proofs.Common.{◌≡◌, ◌+◌, ℕ, max, cond, ◌&&◌, nat_le, nat_lt, length}
use Rattle.sp_race.specs.Clocks.{clock_at}
use Rattle.sp_race.proofs.table.share.Given as goal

abbrev pub invariant-loop-child : goal.invariant-loop-child
invariant-loop-child l =
    (length l.clocks.items ≡ length l.initial.clocks.items)
    × ((p q : ℕ) → clock_at l.clocks.items p q
    ≡ cond (nat_le l.first p && nat_lt p (l.first + l.child))
    (max (clock_at l.initial.clocks.items p q) (clock_at l.initial.clocks.items l.process q))
    (clock_at l.initial.clocks.items p q))
