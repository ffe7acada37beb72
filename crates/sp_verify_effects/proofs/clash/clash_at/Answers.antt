use Rattle.std.proofs.Common.{◌≡◌, ap, sym, ◌∙◌, subst, ℕ, Some, true}
use Rattle.std.proofs.lemmas.Option.{none-some}
use Rattle.sp_code.specs.declared.code.Parts.{Parts}
use Rattle.sp_code.specs.Machine.{layout_of}
use Rattle.sp_verify_rules.specs.Verdict.{BreaksV7}
use Rattle.sp_verify_areas.specs.LeastPlaces.{IsLeast}
use Rattle.sp_verify_effects.proofs.ClashLaws.{fact_clashes}
use Rattle.sp_verify_effects.proofs.clash.clash_at.Goals as goal

pub returns-in-None : goal.returns-in-None
returns-in-None c = λ q e. absurd (none-some q e)

pub returns-in-None-called_block : goal.returns-in-None-called_block
returns-in-None-called_block c = λ q e. absurd (none-some q e)

pub returns-in-None-find : goal.returns-in-None-find
returns-in-None-find c = λ q e. absurd (none-some q e)

pub returns : goal.returns
returns c = λ q e.
    let g = c.args.g.now in
    let code = g.code.now in
    let known = c.requires.known in
    let b = c.in-Some-called_block.block in
    let l = c.in-Some-find.l.now in
    let is : layout_of code.layouts b ≡ Some l = ap (λ (z : Parts). layout_of z.layouts b)
    (sym c.parts-parts.ensures.same) ∙ sym c.in-Some-find.ensures in
    let ((at, h), _) = subst (IsLeast (λ (q : ℕ). (c.args.p ≡ q) × (c.in-Ok.value ≡ true))) e c.place_if.ensures in
    subst (BreaksV7 code) at
    (fact_clashes code known.kept g.owners.now known.owners g.shapes.now known.shapes c.args.own.now.keys
    c.requires.own c.args.p c.in-Some.stack b l c.args.fact (sym c.reached.ensures ∙ c.in-Some.is)
    (sym c.called_block.ensures ∙ c.in-Some-called_block.is) is c.requires.done (c.in-Ok.ensures h))
