use Rattle.std.proofs.Common.{◌≡◌, ◌+◌, ◌≤◌, length}
use Rattle.sp_journal.specs.Reader.{IsReader}
use Rattle.sp_journal.specs.Begun.{Begun}
use Rattle.sp_journal.proofs.journal_reader.read_journal.Given as goal

abbrev pub invariant-loop-rest : goal.invariant-loop-rest
invariant-loop-rest l =
    IsReader l.reader
    × Begun l.bytes l.reader.version l.reader.ledger.journal.entries l.rest
    × (l.line ≡ length l.reader.ledger.journal.entries + 2)
    × (l.line + length l.rest ≤ length l.bytes)

abbrev pub decreases-loop-rest : goal.decreases-loop-rest
decreases-loop-rest l = length l.rest
