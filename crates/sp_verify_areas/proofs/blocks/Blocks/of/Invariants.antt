use Rattle.std.proofs.Common.{◌≡◌, ℕ, drop}
use Rattle.std.specs.Option.{option_or}
use Rattle.sp_verify_areas.specs.Blocks.{number_from, number_of}
use Rattle.sp_verify_areas.proofs.blocks.Blocks.of.Given as goal

-- a block that is not in the table is looked for among the layouts that are left
abbrev pub invariant-loop-l : goal.invariant-loop-l
invariant-loop-l l = (l.place ≡ l.l-index)
    × ((b : ℕ) → option_or (number_of l.first b)
    (number_from l.place (drop l.l-index l.layouts) b) ≡ number_from 0 l.layouts b)
