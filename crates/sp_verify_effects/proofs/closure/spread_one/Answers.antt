use Rattle.std.proofs.Common.{ap, sym, ◌∙◌, subst, List}
use Rattle.std.specs.Prelude.{◌≡◌}
use Rattle.std.proofs.lemmas.Option.{same_Some}
use Rattle.sp_base.proofs.Facts.{not_true_and_false, on_map as ok_on}
use Rattle.sp_verify_effects.specs.declared.facts.Fact.{Fact}
use Rattle.sp_verify_effects.specs.AskedAreas.{is_asked}
use Rattle.sp_verify_effects.specs.Facts.{Tells, with_fact}
use Rattle.sp_verify_effects.specs.FactClosure.{GoesAlong, fact_along}
use Rattle.sp_verify_effects.proofs.FactEdges.{carried_told, not_carried}
use Rattle.sp_verify_effects.proofs.closure.spread_one.Goals as goal

pub returns-then-asks : goal.returns-then-asks
returns-then-asks c =
    let fs = c.args.facts.now in
    let k = c.args.asked.now in
    let g = c.in-Some.fact in
    let o = fact_along c.args.edge c.args.own c.args.effect in
    ok_on c.add.result (c.add.new.self ≡ with_fact fs g) (Tells fs c.add.new.self
    (GoesAlong k c.args.edge c.args.own c.args.effect))
    (λ v. subst (λ (x : List Fact). Tells fs x (GoesAlong k c.args.edge c.args.own c.args.effect)) (sym v)
    (carried_told fs k o g (sym c.fact_along.ensures ∙ c.in-Some.is) (sym c.asks.ensures ∙ c.if-asks.true)))
    c.add.ensures

pub returns-else-asks : goal.returns-else-asks
returns-else-asks c =
    let k = c.args.asked.now in
    let o = fact_along c.args.edge c.args.own c.args.effect in
    not_carried c.args.facts.now k o
    (λ g e h. not_true_and_false (is_asked k g.area g.effect) h
    (ap (λ (z : Fact). is_asked k z.area z.effect)
    (same_Some g c.in-Some.fact (sym e ∙ (sym c.fact_along.ensures ∙ c.in-Some.is)))
    ∙ (sym c.asks.ensures ∙ c.if-asks.false)))
