use Rattle.std.proofs.Common.{◌+◌, map, drop}
use Rattle.sp_base.specs.declared.place.Place.{Place}
use Rattle.sp_tree.specs.Bare.{bare_expression}
use Rattle.sp_tree.specs.CheckedOf.{expression_of, sends}
use Rattle.sp_tree.specs.Uses.{In_expr}
use Rattle.sp_varsets.specs.declared.uses.Uses.{Uses}
use Rattle.sp_varsets.specs.declared.walk.Walk.{Walk}
use Rattle.sp_varsets.specs.AddedUses.{AddsUses, AreEmpty}
use Rattle.sp_varsets.specs.Walks.{WalksStatements}
use Rattle.sp_varsets.proofs.walk.Walk.sends.Given as goal

abbrev pub invariant-loop-i : goal.invariant-loop-i
invariant-loop-i l = (at : Place) (v : Walk) (z : Uses) (start : Uses) → AreEmpty start
    → AddsUses start l.through (In_expr (bare_expression (expression_of l.fn.channel)))
    → WalksStatements l.self v l.into z (sends (l.number + l.i) at (expression_of l.fn.channel)
    (map expression_of (drop l.i l.values)))
    → WalksStatements l.fn.self v l.fn.into z (sends l.number at (expression_of l.fn.channel)
    (map expression_of l.values))
