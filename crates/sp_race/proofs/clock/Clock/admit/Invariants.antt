use Rattle.std.proofs.Common.{◌≡◌, ◌⊎◌, ℕ}
use Rattle.std.specs.Ordering.{nat_cmp}
use Rattle.std.specs.BTreeMap.{is_at}
use Rattle.std.specs.Map.{lookup}
use Rattle.std.specs.Option.{IsSome}
use Rattle.sp_race.specs.Clocks.{count_of, HasPair}
use Rattle.sp_race.proofs.clock.Clock.admit.Given as goal

abbrev pub invariant-loop-process : goal.invariant-loop-process
invariant-loop-process l =
    ((q : ℕ) → count_of l.self q ≡ count_of l.initial.self q)
    × ((q : ℕ) → HasPair l.other q → HasPair l.self q ⊎ IsSome (lookup (is_at (nat_cmp q)) l.process-iterator))
