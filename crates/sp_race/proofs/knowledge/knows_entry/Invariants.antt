use Rattle.std.proofs.Common.{take}
use Rattle.sp_journal.specs.Births.{births}
use Rattle.sp_race.specs.JudgeTables.{TablesHold}
use Rattle.sp_race.proofs.knowledge.knows_entry.Given as goal

abbrev pub invariant-loop-i : goal.invariant-loop-i
invariant-loop-i l = TablesHold (births l.entries) l.until.items (take l.i l.entries) l.tables
