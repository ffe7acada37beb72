use Rattle.std.proofs.Common.{◌≡◌, ℕ, length}
use Rattle.sp_verify_effects.specs.declared.edges.Edge.{Edge}
use Rattle.sp_verify_effects.specs.Edges.{HasEdge}
use Rattle.sp_verify_effects.proofs.edges.empty_rows.Given as goal

-- so many rows are there, with no edges
abbrev pub invariant-loop-m : goal.invariant-loop-m
invariant-loop-m l = (length l.rows ≡ l._m) × ((m : ℕ) (e : Edge) → HasEdge l.rows m e → ⊥)
