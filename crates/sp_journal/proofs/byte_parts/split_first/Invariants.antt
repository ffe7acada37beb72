use Rattle.std.proofs.Common.{◌≡◌, ◌++◌, List, ℕ, take, drop}
use Rattle.std.specs.Option.{option_map}
use Rattle.sp_journal.specs.Splits.{first_split}
use Rattle.sp_journal.proofs.byte_parts.split_first.Given as goal

abbrev pub invariant-loop-at : goal.invariant-loop-at
invariant-loop-at l = first_split l.mark l.text
    ≡ option_map (λ (p : List ℕ × List ℕ). (take l.at l.text ++ p.0, p.1)) (first_split l.mark (drop l.at l.text))
