use Rattle.sp_journal.specs.Ledger.{IsLedger}
use Rattle.parts_tests.proofs.journals.journal_of.Given as goal

abbrev pub invariant-turns : goal.invariant-turns
invariant-turns l = IsLedger l.ledger

abbrev pub invariant-loop-entry : goal.invariant-loop-entry
invariant-loop-entry l = IsLedger l.ledger
