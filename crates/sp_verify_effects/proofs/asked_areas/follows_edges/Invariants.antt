use Rattle.std.proofs.Common.{ℕ, List}
use Rattle.sp_verify_effects.specs.declared.edges.Edge.{Edge}
use Rattle.sp_verify_effects.specs.FactClosure.{FollowsRow}
use Rattle.sp_verify_effects.proofs.AreaQueries.{HoldsBefore}
use Rattle.sp_verify_effects.proofs.asked_areas.follows_edges.Given as goal

-- those of the rows so far do
abbrev pub invariant-loop-m : goal.invariant-loop-m
invariant-loop-m l = HoldsBefore (λ (m : ℕ) (r : List Edge). FollowsRow l.asked m r) l.rows l.m
