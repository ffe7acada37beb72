use Rattle.std.proofs.Common.{◌≡◌, ◌-◌}
use Rattle.sp_journal.specs.Births.{births}
use Rattle.sp_journal.specs.Queue.{numbers}
use Rattle.sp_report.specs.InOrder.{sorted_by_name}
use Rattle.sp_report.proofs.tree.forked.Given as goal

-- the processes so far
abbrev pub invariant-loop-process : goal.invariant-loop-process
invariant-loop-process l = l.names.entries ≡ sorted_by_name (births l.ledger.journal.entries)
    (numbers 1 (l.process - 1))
