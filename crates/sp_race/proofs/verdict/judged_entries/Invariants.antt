use Rattle.std.proofs.Common.{take}
use Rattle.sp_journal.specs.Births.{births}
use Rattle.sp_race.specs.OfferOrder.{AreKnown}
use Rattle.sp_race.specs.JudgeTables.{entries_by_names, TablesHold}
use Rattle.sp_race.proofs.verdict.judged_entries.Given as goal

abbrev pub invariant-loop-at : goal.invariant-loop-at
invariant-loop-at l = TablesHold (births l.entries) l.until.items (take l.at l.entries) l.tables
    × AreKnown (entries_by_names (births l.entries) (take l.at l.entries))
