use Rattle.std.proofs.Common.{◌≡◌, false, take, drop}
use Rattle.sp_journal.specs.Births.{births, NameableFrom}
use Rattle.sp_journal.specs.Ledger.{IsLedger}
use Rattle.sp_report.specs.Conditions.{conditions_after_all, conditions}
use Rattle.sp_report.specs.Fits.{ConditionsFit, table_conditions}
use Rattle.sp_report.proofs.waiting.after_all.Given as goal

-- the ledger holds the entries so far, and so does the table, if it is not lost
abbrev pub invariant-loop-entry : goal.invariant-loop-entry
invariant-loop-entry l =
    IsLedger l.ledger × (l.ledger.journal.entries ≡ take l.entry-index l.entry-items)
    × NameableFrom (births (take l.entry-index l.entry-items)) (drop l.entry-index l.entry-items)
    × (l.table.is_lost ≡ false
    → (conditions_after_all (births (take l.entry-index l.entry-items)) (table_conditions l.table)
    (drop l.entry-index l.entry-items)
    ≡ conditions l.entry-items) × ConditionsFit (births (take l.entry-index l.entry-items)) (table_conditions l.table))
