use Rattle.std.proofs.Common.{◌∙◌, ◌+◌, Option, ap, sym, subst}
use Rattle.std.proofs.lemmas.Option.{none-some}
use Rattle.sp_code.specs.declared.instr.Instr.{Instr}
use Rattle.sp_verify_rules.specs.Areas.{table_named}
use Rattle.sp_verify_rules.specs.NameRules.{Names}
use Rattle.sp_verify_areas.specs.Namers.{AreNamers}
use Rattle.sp_verify_areas.proofs.NamedTables.{named_none, named_one}
use Rattle.sp_verify_areas.proofs.table_names.visit.Goals as goal

pub returns-in-None : goal.returns-in-None
returns-in-None c =
    let code = c.args.code.now in
    let p = c.args.p in
    named_none code p c.args.namers.now
    (λ t m. none-some t (sym (ap (λ (z : Option Instr). table_named z) c.instr_of.ensures ∙ sym c.table_named.ensures
    ∙ c.in-None.is) ∙ m))
    c.requires.known

pub returns-in-Some : goal.returns-in-Some
returns-in-Some c =
    let code = c.args.code.now in
    let p = c.args.p in
    let t = c.in-Some.t in
    let is : Names code t p = ap (λ (z : Option Instr). table_named z) c.instr_of.ensures ∙ sym c.table_named.ensures
    ∙ c.in-Some.is in
    subst (AreNamers code (p + 1)) (sym c.note.ensures) (named_one code p t c.args.namers.now is c.requires.known)
