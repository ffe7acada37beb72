use Rattle.std.proofs.Common.{◌≡◌, ℕ, drop}
use Rattle.std.specs.Option.{option_or}
use Rattle.sp_code.specs.Memory.{reference_target}
use Rattle.sp_machine.specs.Seen.{under}
use Rattle.sp_machine.proofs.seen.references_of.Given as goal

-- a number that is not in the table is looked for among those that are left
abbrev pub invariant-loop-reference : goal.invariant-loop-reference
invariant-loop-reference l = (x : ℕ) → option_or (under l.first x)
    (reference_target x (drop l.reference-index l.references)) ≡ reference_target x l.references
