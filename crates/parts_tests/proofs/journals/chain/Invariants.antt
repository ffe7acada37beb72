use Rattle.sp_journal.specs.Ledger.{IsLedger}
use Rattle.parts_tests.proofs.journals.chain.Given as goal

abbrev pub invariant-loop-process : goal.invariant-loop-process
invariant-loop-process l = IsLedger l.ledger
