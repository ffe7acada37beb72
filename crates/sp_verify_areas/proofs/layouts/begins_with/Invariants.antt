use Rattle.std.proofs.Common.{◌≡◌, ◌++◌, drop}
use Rattle.sp_verify_rules.specs.NameRules.{answer_cells, begins_with, formals_cells}
use Rattle.sp_verify_areas.proofs.layouts.begins_with.Given as goal

-- it is as from here on
abbrev pub invariant-loop-k : goal.invariant-loop-k
invariant-loop-k l = begins_with (formals_cells (drop l.k l.formals)
    ++ answer_cells l.answer) (drop l.k l.sizes) ≡ begins_with (formals_cells l.formals
    ++ answer_cells l.answer) l.sizes
