-- None of this belongs to what the program promises: it is for contracts between crates.
-- What a clock says: a count for each process, 0 where it has no pair. The contracts of clocks and of the judge's
-- tables cite it, as functions, since equal clocks may be stored differently.
use Rattle.std.specs.Prelude.{◌≡◌, ℕ, ◌<◌, cond, max, ◌==◌, List, Option, Some, None, unwrap_or, slice_get, IsSome}
use Rattle.std.specs.Ordering.{nat_cmp}
use Rattle.std.specs.BTreeMap as tree
use Rattle.sp_race.specs.declared.clock.Clock.{Clock}

-- the count of a process, 0 where it has no pair
abbrev pub count_of : Clock → ℕ → ℕ
count_of c q = unwrap_or (tree.get nat_cmp c.counts q) 0

-- the process has a pair
abbrev pub HasPair : Clock → ℕ → Type 0
HasPair c q = IsSome (tree.get nat_cmp c.counts q)

-- the same where there may be no clock
abbrev pub count_at : Option Clock → ℕ → ℕ
count_at None q = 0
count_at (Some c) q = count_of c q

-- the count of q in the clock of p
abbrev pub clock_at : List Clock → ℕ → ℕ → ℕ
clock_at cs p q = count_at (slice_get cs p) q

-- a number in a table, or 0
abbrev pub number_at : List ℕ → ℕ → ℕ
number_at xs p = unwrap_or (slice_get xs p) 0

-- from the entry of index n on, the count of this process is asked for
abbrev pub IsAsked : List ℕ → ℕ → ℕ → Type 0
IsAsked until n q = n < number_at until q

-- the clock of p with its own count raised to n
abbrev pub with_own : (ℕ → ℕ → ℕ) → ℕ → ℕ → ℕ → ℕ
with_own clocks p n q = cond (p == q) (max (clocks p q) n) (clocks p q)

-- two processes have met, each with its own count: both have the greater counts
abbrev pub clocks_after_meeting : (ℕ → ℕ → ℕ) → ℕ → ℕ → ℕ → ℕ → ℕ → ℕ → ℕ
clocks_after_meeting clocks p n z m r q = cond (p == r) (max (with_own clocks p n q) (with_own clocks z m q))
    (cond (z == r) (max (with_own clocks p n q) (with_own clocks z m q)) (clocks r q))

-- a clock with the count of p raised to n
abbrev pub clock_with_raised : (ℕ → ℕ) → ℕ → ℕ → ℕ → ℕ
clock_with_raised f p n q = cond (p == q) (max (f q) n) (f q)

-- for each of these counts, the clocks are the old ones with p's own count raised to n
abbrev pub AreRaised : (ℕ → Type 0) → ℕ → ℕ → (ℕ → ℕ → ℕ) → (ℕ → ℕ → ℕ) → Type 0
AreRaised A p n old new = (r q : ℕ) → A q → new r q ≡ cond (p == r) (with_own old p n q) (old r q)

-- for each of these counts, the clocks are the old ones after two processes have met
abbrev pub AreMet : (ℕ → Type 0) → ℕ → ℕ → ℕ → ℕ → (ℕ → ℕ → ℕ) → (ℕ → ℕ → ℕ) → Type 0
AreMet A p n z m old new = (r q : ℕ) → A q → new r q ≡ clocks_after_meeting old p n z m r q
