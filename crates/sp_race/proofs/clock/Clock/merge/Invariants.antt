use Rattle.std.proofs.Common.{◌≡◌, ℕ, max}
use Rattle.std.specs.Ordering.{nat_cmp}
use Rattle.std.specs.BTreeMap.{is_at}
use Rattle.std.specs.Map.{lookup}
use Rattle.std.specs.Option.{IsSome}
use Rattle.sp_race.specs.Clocks.{count_of, HasPair}
use Rattle.sp_race.proofs.ClockLaws.{count_in, Single}
use Rattle.sp_race.proofs.clock.Clock.merge.Given as goal

abbrev pub invariant-loop-process : goal.invariant-loop-process
invariant-loop-process l =
    ((q : ℕ) → max (count_of l.self q) (count_in l.process-iterator q)
    ≡ max (count_of l.initial.self q) (count_of l.other q))
    × Single l.process-iterator
    × ((q : ℕ) → IsSome (lookup (is_at (nat_cmp q)) l.process-iterator) → HasPair l.self q)
