use Rattle.std.proofs.Common.{◌≡◌, None, take, drop}
use Rattle.sp_journal.specs.Births.{births, NameableFrom}
use Rattle.sp_journal.proofs.entry.Journal.birth.Given as goal

abbrev pub invariant-loop-at : goal.invariant-loop-at
invariant-loop-at l =
    NameableFrom (births (take l.at l.entries)) (drop l.at l.entries)
    × (l.next ≡ (births (take l.at l.entries)).processes)
    × ((births (take l.at l.entries)).birth l.process ≡ None)
