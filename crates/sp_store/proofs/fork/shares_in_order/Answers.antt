use Rattle.std.proofs.Common.{◌∙◌, ◌++◌, List, ap, subst}
use Rattle.sp_cell.specs.declared.spot.Spot.{Spot}
use Rattle.sp_cell.specs.Spots.{In}
use Rattle.sp_cell.proofs.Sorting.{more_of_plan, permuted_of_plan}
use Rattle.sp_store.proofs.fork.shares_in_order.Goals as goal
use Rattle.sp_store.proofs.fork.shares_in_order.Goals.{then-not-ends_with+in-Ok, else-not-ends_with}
use Rattle.sp_store.proofs.fork.shares_in_order.Goals.{then-rises, else-rises}

pub loop-handing-preserved : goal.loop-handing-preserved
loop-handing-preserved c = elim c.if-not-ends_with.branch [
  | then-not-ends_with+in-Ok w ↦ λ q i. more_of_plan c.args.plan.now c.loop-handing.handing-index
      c.handing-item.result c.loop-handing-test.true c.handing-item.is c.loop-handing.spots.items
      c.loop-handing.invariant q (subst (In q) (ap (λ v. v.items) w.spots-is
      ∙ w.in-Ok.ensures.items ∙ ap (λ (l : List Spot). c.loop-handing.spots.items ++ l)
      w.items-then-not-ends_with.ensures) i)
  | else-not-ends_with w ↦ λ q i. c.loop-handing.invariant q (subst (In q) (ap (λ v. v.items) w.spots-is) i)
]

pub returns : goal.returns
returns c = permuted_of_plan c.args.plan.now c.if-rises.spots.items c.sort_unstable.new.self.items
    c.sort_unstable.ensures.permutation (elim c.if-rises.branch [
      | then-rises w ↦ λ q i. absurd (subst (In q) (ap (λ v. v.items) w.spots-is ∙ w.clear.ensures.items) i)
      | else-rises w ↦ λ q i. c.loop-handing.invariant q (subst (In q) (ap (λ v. v.items) w.spots-is) i)
    ])
