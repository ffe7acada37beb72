use Rattle.std.proofs.Common.{◌-◌}
use Rattle.sp_journal.specs.Births.{births}
use Rattle.sp_report.specs.Fits.{table_conditions}
use Rattle.sp_report.specs.WaitingText.{children_text, unended_children}
use Rattle.sp_base.specs.Adds.{Adds}
use Rattle.sp_report.proofs.waiting.put_children.Given as goal

-- the children so far
abbrev pub invariant-loop-child : goal.invariant-loop-child
invariant-loop-child l = Adds l.initial.out l.out (children_text (births l.ledger.journal.entries)
    (unended_children (table_conditions l.table) l.first (l.child - l.first)))
