use Rattle.std.proofs.Common.{Option, Some, ap, subst, ◌∙◌}
use Rattle.sp_verify_effects.specs.declared.allowance.Allowance.{Allowance}
use Rattle.sp_verify_effects.specs.AskedAreas.{allowance_at, target}
use Rattle.sp_verify_effects.specs.FactClosure.{Passes}
use Rattle.sp_verify_effects.proofs.asked_areas.may_pass.Goals as goal

pub returns-in-Some-allowance : goal.returns-in-Some-allowance
returns-in-Some-allowance c = λ t.
    let k = c.args.asked.now in
    let e = c.args.edge in
    subst (λ (o : Option Allowance). Passes o (allowance_at k (target e)) e) c.in-Some.ensures
    (subst (λ (o : Option Allowance). Passes (Some c.in-Some.one.now) o e) (c.in-Some-allowance.ensures
    ∙ ap (allowance_at k) c.target-to.ensures) (c.passes_within.ensures t))
