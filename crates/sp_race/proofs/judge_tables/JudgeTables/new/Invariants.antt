use Rattle.std.proofs.Common.{◌≡◌, ◌<◌, ℕ, length, Some, None, slice_get}
use Rattle.sp_race.specs.Clocks.{clock_at}
use Rattle.sp_race.proofs.judge_tables.JudgeTables.new.Given as goal

abbrev pub invariant-loop : goal.invariant-loop
invariant-loop l =
    (length l.clocks.items ≡ l.counter) × (length l.made.items ≡ l.counter)
    × ((p q : ℕ) → clock_at l.clocks.items p q ≡ 0)
    × ((p : ℕ) → p < length l.made.items → slice_get l.made.items p ≡ Some 0)

abbrev pub invariant-loop-2 : goal.invariant-loop-2
invariant-loop-2 l =
    (length l.lines.items ≡ l.counter) × ((c : ℕ) → c < length l.lines.items
    → slice_get l.lines.items c ≡ Some (record { waiting = None; sent = None; received = None }))
