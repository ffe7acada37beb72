use Rattle.std.proofs.Common.{◌≡◌, ◌++◌, false, take, drop}
use Rattle.sp_journal.specs.declared.version.Version.TheVariants as version
use Rattle.sp_journal.specs.Births.{births, NameableFrom}
use Rattle.sp_journal.specs.Ledger.{IsLedger}
use Rattle.sp_journal.specs.Texts.{entries_text, journal_text}
use Rattle.sp_journal.proofs.print.print_journal.Given as goal

-- the ledger of the entries so far, and what was put, with the lines of the others behind it
abbrev pub invariant-loop-entry : goal.invariant-loop-entry
invariant-loop-entry l =
    IsLedger l.ledger × (l.ledger.journal.entries ≡ take l.entry-index l.entry-items)
    × NameableFrom (births (take l.entry-index l.entry-items)) (drop l.entry-index l.entry-items)
    × (l.out.is_lost ≡ false
    → l.out.items.items ++ entries_text (births (take l.entry-index l.entry-items)) (drop l.entry-index l.entry-items)
    ≡ journal_text version.Two (record { entries = l.entry-items }))
