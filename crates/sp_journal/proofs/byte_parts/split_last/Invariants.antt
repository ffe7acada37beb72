use Rattle.std.proofs.Common.{◌≡◌, None, drop}
use Rattle.sp_journal.specs.Splits.{last_split}
use Rattle.sp_journal.proofs.byte_parts.split_last.Given as goal

abbrev pub invariant-loop-at : goal.invariant-loop-at
invariant-loop-at l = last_split l.mark (drop l.at l.text) ≡ None
