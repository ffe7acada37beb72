use Rattle.sp_journal.specs.Births.{births}
use Rattle.sp_report.specs.Fits.{table_conditions}
use Rattle.sp_report.specs.WaitingText.{waiting_lines}
use Rattle.sp_base.specs.Adds.{Covers}
use Rattle.sp_report.proofs.waiting.put_lines.Given as goal

-- what was put, and the lines of the names that are left
abbrev pub invariant-loop-name : goal.invariant-loop-name
invariant-loop-name l = Covers l.initial.out l.out
    (waiting_lines (births l.last.ledger.journal.entries) (table_conditions l.last.table) l.name-iterator)
    (waiting_lines (births l.last.ledger.journal.entries) (table_conditions l.last.table) l.names.entries)
