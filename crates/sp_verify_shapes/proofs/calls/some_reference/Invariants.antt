use Rattle.std.proofs.Common.{◌≡◌, drop}
use Rattle.sp_verify_rules.specs.Rules.{some_reference}
use Rattle.sp_verify_shapes.proofs.calls.some_reference.Given as goal

-- there is one where there is one among those that are left
abbrev pub invariant-loop-f : goal.invariant-loop-f
invariant-loop-f l = some_reference (drop l.f-index l.formals) ≡ some_reference l.formals
