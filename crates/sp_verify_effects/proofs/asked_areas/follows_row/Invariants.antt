use Rattle.std.proofs.Common.{ℕ}
use Rattle.sp_verify_effects.specs.declared.edges.Edge.{Edge}
use Rattle.sp_verify_effects.specs.FactClosure.{IsFollowed}
use Rattle.sp_verify_effects.proofs.AreaQueries.{HoldsBefore}
use Rattle.sp_verify_effects.proofs.asked_areas.follows_row.Given as goal

-- those of the edges so far are
abbrev pub invariant-loop-k : goal.invariant-loop-k
invariant-loop-k l = HoldsBefore (λ (j : ℕ) (e : Edge). IsFollowed l.asked l.m e) l.row l.k
