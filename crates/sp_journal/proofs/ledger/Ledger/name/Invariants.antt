use Rattle.std.proofs.Common.{◌≡◌, ◌++◌, ◌<◌}
use Rattle.std.specs.Prelude.{reverse}
use Rattle.sp_journal.specs.Births.{births}
use Rattle.sp_journal.specs.Names.{pairs_of}
use Rattle.sp_journal.proofs.ledger.Ledger.name.Given as goal

abbrev pub invariant-loop-birth : goal.invariant-loop-birth
invariant-loop-birth l =
    (l.at < (births l.self.journal.entries).processes)
    × (pairs_of ((births l.self.journal.entries).name l.process) ≡ pairs_of ((births l.self.journal.entries).name l.at)
    ++ reverse l.pairs.items)

abbrev pub decreases-loop-birth : goal.decreases-loop-birth
decreases-loop-birth l = l.at
