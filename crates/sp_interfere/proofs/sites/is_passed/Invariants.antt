use Rattle.std.proofs.Common.{◌≡◌, ◌==◌, map, drop}
use Rattle.std.specs.List.{list_any}
use Rattle.sp_tree.specs.CheckedOf.{actuals, actual_of}
use Rattle.sp_interfere.specs.Rules.{references}
use Rattle.sp_interfere.proofs.sites.is_passed.Given as goal

abbrev pub invariant-loop-a : goal.invariant-loop-a
invariant-loop-a l = list_any (λ x. l.y == x) (references (actuals (map actual_of (drop l.a-index l.earlier))))
    ≡ list_any (λ x. l.y == x) (references (actuals (map actual_of l.earlier)))
