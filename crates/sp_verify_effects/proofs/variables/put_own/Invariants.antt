use Rattle.std.proofs.Common.{take}
use Rattle.sp_verify_effects.specs.Variables.{AddsPairs, IsOwnOf}
use Rattle.sp_verify_effects.proofs.variables.put_own.Given as goal

-- the variables so far are put
abbrev pub invariant-loop-i : goal.invariant-loop-i
invariant-loop-i l = AddsPairs l.fn.own.keys l.own.keys (IsOwnOf l.entry (take l.i l.variables))
