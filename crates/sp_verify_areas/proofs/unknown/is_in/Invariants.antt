use Rattle.std.proofs.Common.{◌≡◌, drop}
use Rattle.sp_verify_rules.specs.NameRules.{is_in}
use Rattle.sp_verify_areas.proofs.unknown.is_in.Given as goal

-- it is among the rest, if it is there
abbrev pub invariant-loop-y : goal.invariant-loop-y
invariant-loop-y l = is_in l.x l.xs ≡ is_in l.x (drop l.y-index l.xs)
