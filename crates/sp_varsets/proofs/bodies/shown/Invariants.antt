use Rattle.std.proofs.Common.{◌≡◌, ◌<◌, ◌&&◌, not, ℕ, length}
use Rattle.sp_varsets.specs.Paths.{member}
use Rattle.sp_varsets.proofs.bodies.shown.Given as goal

abbrev pub invariant-rows : goal.invariant-rows
invariant-rows l = (length l.rows ≡ l.b) × ((c x : ℕ) → c < l.b
    → member l.rows c x ≡ member l.own c x && not (member l.hidden c x))
