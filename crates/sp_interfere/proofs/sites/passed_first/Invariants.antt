use Rattle.std.proofs.Common.{◌≡◌, map, drop}
use Rattle.sp_tree.specs.CheckedOf.{actuals, actual_of}
use Rattle.sp_interfere.specs.Rules.{passed_first}
use Rattle.sp_interfere.proofs.sites.passed_first.Given as goal

abbrev pub invariant-loop-a : goal.invariant-loop-a
invariant-loop-a l = passed_first l.s l.f (actuals (map actual_of (drop l.a-index l.args))) l.first
    ≡ passed_first l.s l.f (actuals (map actual_of l.args)) l.fn.first
