use Rattle.std.proofs.Common.{◌≡◌, take}
use Rattle.sp_journal.specs.Births.{births}
use Rattle.sp_kernel.specs.Closes.{waiters_from}
use Rattle.sp_kernel.proofs.closed.waiters_in.Given as goal

abbrev pub invariant-loop-number : goal.invariant-loop-number
invariant-loop-number l = l.waiters.items ≡ waiters_from (births l.ledger.journal.entries) 0 (take l.number l.slots)
