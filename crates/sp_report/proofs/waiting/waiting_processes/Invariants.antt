use Rattle.std.proofs.Common.{◌≡◌, filter}
use Rattle.sp_journal.specs.Births.{births}
use Rattle.sp_journal.specs.Queue.{numbers}
use Rattle.sp_report.specs.Fits.{table_conditions}
use Rattle.sp_report.specs.InOrder.{sorted_by_name}
use Rattle.sp_report.specs.WaitingText.{is_waiting}
use Rattle.sp_report.proofs.waiting.waiting_processes.Given as goal

-- those so far that wait
abbrev pub invariant-loop-process : goal.invariant-loop-process
invariant-loop-process l = l.names.entries ≡ sorted_by_name (births l.ledger.journal.entries)
    (filter (λ q. is_waiting ((table_conditions l.table).of q)) (numbers 0 l.process))
