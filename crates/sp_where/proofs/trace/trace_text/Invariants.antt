use Rattle.std.proofs.Common.{◌≡◌, ◌++◌, false, take, drop}
use Rattle.sp_journal.specs.Births.{births, NameableFrom}
use Rattle.sp_journal.specs.Ledger.{IsLedger}
use Rattle.sp_where.specs.Traces.{trace_lines, trace_text}
use Rattle.sp_where.proofs.trace.trace_text.Given as goal

-- what was put, and the lines of the entries from here on
abbrev pub invariant-entries : goal.invariant-entries
invariant-entries l =
    IsLedger l.ledger × (l.ledger.journal.entries ≡ take l.i l.entries)
    × NameableFrom (births (take l.i l.entries)) (drop l.i l.entries)
    × (l.out.is_lost ≡ false
    → l.out.items.items ++ trace_lines l.symbols.checked.kinds l.symbols.constants l.symbols.marks l.i
    (births (take l.i l.entries)) (drop l.i l.entries) (drop l.i l.tolds)
    ≡ trace_text l.symbols.checked.kinds l.symbols.constants l.symbols.marks l.entries l.tolds)
