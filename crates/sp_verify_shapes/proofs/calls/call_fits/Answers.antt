use Rattle.std.proofs.Common.{sym, ap, ◌∙◌, Some}
use Rattle.sp_code.specs.declared.instr.Instr.{Instr}
use Rattle.sp_verify_areas.proofs.BlockLaws.{place_none, place_some}
use Rattle.sp_verify_rules.specs.Rules.{call_fits}
use Rattle.sp_verify_shapes.specs.Fits.{layout_fits}
use Rattle.sp_verify_shapes.specs.Stacks.{list_of}
use Rattle.sp_verify_shapes.proofs.calls.call_fits.Goals as goal

pub returns-in-None-clause-fit : goal.returns-in-None-clause-fit
returns-in-None-clause-fit c =
    let parts = c.args.parts.now in
    let b = c.in-Call.block in
    let ss = list_of c.args.shapes.now.stacks c.args.n in
    let none = place_none 0 parts.layouts b (sym (c.requires.blocks b) ∙ sym c.place.ensures ∙ c.in-None.is) in
    sym (ap (λ (o : Instr). call_fits parts (Some o) ss) c.in-Call.is ∙ ap (λ o. layout_fits o ss) none)

pub returns-in-Some-clause-fit : goal.returns-in-Some-clause-fit
returns-in-Some-clause-fit c =
    let parts = c.args.parts.now in
    let b = c.in-Call.block in
    let ss = list_of c.args.shapes.now.stacks c.args.n in
    let there = place_some parts.layouts b c.in-Some.place
    (sym (c.requires.blocks b) ∙ sym c.place.ensures ∙ c.in-Some.is) in
    c.layout_fits.ensures.fit ∙ ap (λ o. layout_fits o ss) there
    ∙ sym (ap (λ (o : Instr). call_fits parts (Some o) ss) c.in-Call.is)
