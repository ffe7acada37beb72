use Rattle.std.proofs.Common.{◌≡◌, ◌∙◌, ap, sym, subst, Some}
use Rattle.std.specs.Option.{is_some}
use Rattle.sp_code.specs.declared.instr.Instr.{Instr}
use Rattle.sp_verify_rules.specs.NameRules.{names_there}
use Rattle.sp_verify_areas.proofs.BlockLaws.{has_layout}
use Rattle.sp_verify_areas.proofs.names.names_there.Goals as goal

pub returns-in-Call : goal.returns-in-Call
returns-in-Call c =
    let e = c.has.ensures ∙ ap is_some (c.requires c.in-Call.block)
    ∙ has_layout 0 c.args.parts.now.layouts c.in-Call.block in
    subst (λ (o : Instr). c.has.result ≡ names_there c.args.parts.now (Some o)) (sym c.in-Call.is) e
