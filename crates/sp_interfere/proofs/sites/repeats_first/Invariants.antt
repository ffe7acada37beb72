use Rattle.std.proofs.Common.{◌≡◌, [], map, drop, take}
use Rattle.sp_tree.specs.CheckedOf.{actuals, actual_of}
use Rattle.sp_interfere.specs.Rules.{repeats_first, references}
use Rattle.sp_interfere.proofs.sites.repeats_first.Given as goal

abbrev pub invariant-each : goal.invariant-each
invariant-each l = repeats_first l.s (references (actuals (map actual_of (take l.i l.args))))
    (actuals (map actual_of (drop l.i l.args))) l.first
    ≡ repeats_first l.s [] (actuals (map actual_of l.args)) l.fn.first
