use Rattle.std.proofs.Common.{◌≡◌, ◌<◌, ℕ, false, length, get_or}
use Rattle.sp_varsets.specs.Paths.{member}
use Rattle.sp_varsets.proofs.totals.flags.Given as goal

abbrev pub invariant-rows : goal.invariant-rows
invariant-rows l = (length l.flags ≡ l.b) × ((c : ℕ) → c < l.b → get_or l.flags c false ≡ member l.rows c 0)
