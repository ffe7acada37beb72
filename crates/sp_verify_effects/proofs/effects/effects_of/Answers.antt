use Rattle.std.proofs.Common.{◌≡◌, ap, ◌∙◌, subst, length}
use Rattle.sp_code.specs.declared.code.Parts.{Parts}
use Rattle.sp_verify_effects.specs.Effects.{AreRows}
use Rattle.sp_verify_effects.proofs.Rows.{are_found}
use Rattle.sp_verify_effects.proofs.effects.effects_of.Goals as goal

pub returns-clause-found : goal.returns-clause-found
returns-clause-found c =
    let code = c.args.g.now.code.now in
    let fs = c.in-Ok.value in
    let m : c.len.result ≡ length code.instrs = c.len.ensures
    ∙ ap (λ (z : Parts). length z.instrs) c.parts.ensures.same in
    are_found code c.requires.known.kept c.args.asked fs c.in-Ok.ensures c.in-Ok-rows_of.value
    (subst (λ n. AreRows fs (length fs) n c.in-Ok-rows_of.value) m c.in-Ok-rows_of.ensures) c.args.own
    c.requires.own
