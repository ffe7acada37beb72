use Rattle.std.proofs.Common.{◌≡◌, ℕ, false, length}
use Rattle.sp_varsets.specs.Paths.{member}
use Rattle.sp_varsets.proofs.bodies.empty_rows.Given as goal

abbrev pub invariant-rows : goal.invariant-rows
invariant-rows l = (length l.rows ≡ l._b) × ((b x : ℕ) → member l.rows b x ≡ false)
