use Rattle.std.proofs.Common.{◌≡◌, subst, true}
use Rattle.sp_verify_effects.specs.declared.allowance.Allowance.{Allowance}
use Rattle.sp_verify_effects.specs.Allowances.{allows}
use Rattle.sp_verify_effects.proofs.allowance.is_same_or_within.Goals as goal

pub returns-then-same : goal.returns-then-same
returns-then-same c = λ t d h. subst (λ (w : Allowance). allows w d ≡ true) (c.requires c.if-same.true) h

pub returns-else-same : goal.returns-else-same
returns-else-same c = c.is_within.ensures
