use Rattle.std.proofs.Common.{◌∙◌, subst, sym, ap, length, List}
use Rattle.sp_code.specs.declared.code.Layout.{Layout}
use Rattle.sp_code.specs.declared.code.Parts.{Parts}
use Rattle.sp_verify_areas.specs.Alone.{LayoutFails}
use Rattle.sp_verify_areas.specs.LeastPlaces.{IsLeast, Upto}
use Rattle.sp_verify_rules.specs.Rules.{BreaksV5}
use Rattle.sp_verify_shapes.specs.ReachRules.{answers_by_reference}
use Rattle.sp_verify_shapes.proofs.ReachLaws.{least_unfit}
use Rattle.sp_verify_shapes.proofs.calls.first_unfit.Goals as goal

pub returns : goal.returns
returns c =
    let e = c.items.ensures ∙ ap (λ (x : Parts). x.layouts) c.parts.ensures.same in
    let n = c.first_answering-answering.result in
    subst (IsLeast (BreaksV5 c.args.code.now)) (sym c.least.ensures)
    (least_unfit c.args.code.now c.args.shapes.now c.requires.shapes c.first_misfit-misfit.result n
    c.first_misfit-misfit.ensures
    (subst (λ (ls : List Layout). IsLeast (Upto (LayoutFails answers_by_reference ls) (length ls)) n) e
    c.first_answering-answering.ensures))
