use Rattle.std.proofs.Common.{◌≡◌, drop}
use Rattle.sp_verify_rules.specs.Areas.{Area, homes}
use Rattle.sp_verify_rules.specs.NameRules.{some_has}
use Rattle.sp_verify_areas.specs.Only.{LiesOnlyIn}
use Rattle.sp_verify_areas.proofs.unknown.is_around.Given as goal

-- one of the rest has it, if one does
abbrev pub invariant-loop-up : goal.invariant-loop-up
invariant-loop-up l = (a : Area) → LiesOnlyIn l.code l.q a
    → some_has l.code.layouts l.x (homes l.code a) ≡ some_has l.code.layouts l.x (drop l.up (homes l.code a))
