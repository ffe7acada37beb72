use Rattle.std.proofs.Common.{ℕ}
use Rattle.sp_code.specs.declared.code.ChildTable.{ChildTable}
use Rattle.sp_verify_effects.specs.AskedAreas.{AsksBelow}
use Rattle.sp_verify_effects.proofs.AreaQueries.{HoldsBefore}
use Rattle.sp_verify_effects.proofs.asked_areas.asks_children.Given as goal

-- those so far are
abbrev pub invariant-loop-child : goal.invariant-loop-child
invariant-loop-child l =
    HoldsBefore (λ (j : ℕ) (t : ChildTable). AsksBelow l.bound l.asked t) l.children l.child-index
