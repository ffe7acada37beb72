use Rattle.std.proofs.Common.{◌≡◌, false}
use Rattle.sp_varsets.specs.Totals.{AreEntries}
use Rattle.sp_varsets.proofs.totals.statement_entries.Given as goal

abbrev pub invariant-slots : goal.invariant-slots
invariant-slots l = (l.walk.slots ≡ l.fn.walk.slots) × (l.walk.is_lost ≡ false
    → AreEntries l.fn.walk.pool l.walk.pool l.fn.walk.slots l.targets l.seen l.entries l.n)
