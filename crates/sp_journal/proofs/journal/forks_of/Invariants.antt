use Rattle.std.proofs.Common.{◌≡◌, ◌≤◌, take}
use Rattle.sp_journal.specs.Births.{births}
use Rattle.sp_journal.proofs.journal.forks_of.Given as goal

abbrev pub invariant-loop-entry : goal.invariant-loop-entry
invariant-loop-entry l = (l.forks ≡ (births (take l.entry-index l.entries)).forks l.process) × (l.forks ≤ l.entry-index)
