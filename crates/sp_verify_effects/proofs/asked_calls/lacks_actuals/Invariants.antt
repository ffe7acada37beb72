use Rattle.std.proofs.Common.{◌≡◌, drop}
use Rattle.sp_verify_effects.specs.AskedCalls.{lacks_actuals}
use Rattle.sp_verify_effects.proofs.asked_calls.lacks_actuals.Given as goal

-- none of those so far does
abbrev pub invariant-loop-x : goal.invariant-loop-x
invariant-loop-x l = lacks_actuals l.asked l.own.keys l.entry
    (drop l.x-index l.xs) ≡ lacks_actuals l.asked l.own.keys l.entry l.xs
