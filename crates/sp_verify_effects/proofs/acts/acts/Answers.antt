use Rattle.std.proofs.Common.{sym, ◌∙◌, Some}
use Rattle.sp_verify_effects.proofs.ActLaws.{no_act, none_done}
use Rattle.sp_verify_effects.proofs.acts.acts.Goals as goal

pub returns-in-Some-instr : goal.returns-in-Some-instr
returns-in-Some-instr c = λ e.
    let code = c.args.code.now in
    let p = c.args.p in
    let none = c.touches.ensures e in
    no_act code p (sym c.in-None.ensures) (sym c.called_block-block.ensures ∙ c.in-None-block.is)
    (none_done code p (Some c.in-Some-instr.instr) (sym c.instr.ensures ∙ c.in-Some-instr.is)
    (λ a ss. (none code a ss).0) (λ a ss. (none code a ss).1))
