use Rattle.std.proofs.Common.{◌≡◌, ℕ, length}
use Rattle.sp_verify_effects.specs.declared.facts.Effect.{Effect}
use Rattle.sp_verify_effects.specs.Effects.{RowsHave}
use Rattle.sp_verify_effects.proofs.effects.empty_rows.Given as goal

-- so many rows are there, which say nothing
abbrev pub invariant-loop-m : goal.invariant-loop-m
invariant-loop-m l = (length l.rows ≡ l._m) × ((m : ℕ) (d : Effect) → RowsHave l.rows m d → ⊥)
