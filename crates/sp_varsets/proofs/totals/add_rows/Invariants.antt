use Rattle.std.proofs.Common.{◌≡◌, ◌↔◌, ◌⊎◌, ◌<◌, ◌≤◌, ◌-◌, ℕ, true}
use Rattle.sp_varsets.specs.Members.{has}
use Rattle.sp_varsets.specs.Paths.{member}
use Rattle.sp_varsets.proofs.totals.add_rows.Given as goal

abbrev pub invariant-called : goal.invariant-called
invariant-called l = (l.from ≤ 4294967296) × ((x : ℕ) → (has l.all x ≡ true)
    ↔ ((has l.fn.all x ≡ true) ⊎ ((f : ℕ) × (f < l.from) × (has l.calls f ≡ true) × (member l.rows f x ≡ true))))

abbrev pub decreases-called : goal.decreases-called
decreases-called l = 4294967296 - l.from
