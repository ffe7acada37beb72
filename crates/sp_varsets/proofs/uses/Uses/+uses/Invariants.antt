use Rattle.std.proofs.Common.{map, drop}
use Rattle.sp_tree.specs.Bare.{bare_selectors, bare_actuals}
use Rattle.sp_tree.specs.CheckedOf.{selector_of, selectors, actual_of, actuals}
use Rattle.sp_tree.specs.Uses.{In_selectors, In_actuals}
use Rattle.sp_varsets.specs.declared.uses.Uses.{Uses}
use Rattle.sp_varsets.specs.AddedUses.{AddsUses}
use Rattle.sp_varsets.proofs.uses.Uses.+uses.Given as goal

abbrev pub invariant-actuals-loop-a : goal.invariant-actuals-loop-a
invariant-actuals-loop-a l = (z : Uses) → AddsUses l.self z
    (In_actuals (bare_actuals (actuals (map actual_of (drop l.a-index l.args)))))
    → AddsUses l.fn.self z (In_actuals (bare_actuals (actuals (map actual_of l.args))))

abbrev pub invariant-selectors-loop-s : goal.invariant-selectors-loop-s
invariant-selectors-loop-s l = (z : Uses) → AddsUses l.self z
    (In_selectors (bare_selectors (selectors (map selector_of (drop l.s-index l.ss)))))
    → AddsUses l.fn.self z (In_selectors (bare_selectors (selectors (map selector_of l.ss))))
