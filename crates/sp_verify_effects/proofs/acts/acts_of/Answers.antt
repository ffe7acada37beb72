use Rattle.std.proofs.Common.{◌≡◌, ◌∙◌, ap, subst, length, false, arith}
use Rattle.std.proofs.lemmas.List.{length-replicate}
use Rattle.sp_code.specs.declared.code.Parts.{Parts}
use Rattle.sp_verify_effects.specs.Acts.{AreActsOf}
use Rattle.sp_verify_effects.proofs.ActLaws.{no_acts}
use Rattle.sp_verify_effects.proofs.acts.acts_of.Goals as goal

pub loop-p-init : goal.loop-p-init
loop-p-init c =
    let code = c.args.g.now.code.now in
    let m : c.len-count.result ≡ length code.instrs = c.len-count.ensures
    ∙ ap (λ (z : Parts). length z.instrs) c.parts.ensures.same in
    (ap length c.in-Ok.ensures ∙ length-replicate c.len-count.result false ∙ m, no_acts code c.in-Ok.value)

pub loop-p-preserved : goal.loop-p-preserved
loop-p-preserved c = (c.put_act.ensures.size, c.put_act.ensures.before)

pub returns : goal.returns
returns c =
    let code = c.args.g.now.code.now in
    let m : c.len-count.result ≡ length code.instrs = c.len-count.ensures
    ∙ ap (λ (z : Parts). length z.instrs) c.parts.ensures.same in
    let e : c.loop-p.p ≡ c.len-count.result = omega arith in
    subst (λ n. AreActsOf code n c.loop-p.flags) (e ∙ m) c.loop-p.invariant.1
