use Rattle.std.proofs.Common.{◌≡◌, take}
use Rattle.sp_journal.specs.Births.{births}
use Rattle.sp_report.specs.GuessedOrder.{AreForked, names_of}
use Rattle.sp_report.proofs.preorder.names_of.Given as goal

-- the processes so far
abbrev pub invariant-loop-process : goal.invariant-loop-process
invariant-loop-process l = record {
  names : l.names ≡ names_of (births l.ledger.journal.entries) (take l.process-index l.order);
  forked : AreForked (births l.ledger.journal.entries) (take l.process-index l.order);
}
