use Rattle.std.proofs.Common.{◌≡◌, false}
use Rattle.sp_varsets.specs.Totals.{AreRowEntries}
use Rattle.sp_varsets.proofs.totals.row_entries.Given as goal

abbrev pub invariant-rows : goal.invariant-rows
invariant-rows l = l.walk.is_lost ≡ false → (l.fn.walk.is_lost ≡ false)
    × AreRowEntries l.fn.walk.pool l.walk.pool l.targets l.seen l.entries l.b
