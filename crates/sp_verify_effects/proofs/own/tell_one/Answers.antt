use Rattle.std.proofs.Common.{◌≡◌, List, sym, ◌∙◌, subst}
use Rattle.sp_base.proofs.Facts.{on_map as ok_on}
use Rattle.sp_verify_effects.specs.declared.facts.Fact.{Fact}
use Rattle.sp_verify_effects.specs.Facts.{fact, with_fact}
use Rattle.sp_verify_effects.specs.Own.{TellsAsked}
use Rattle.sp_verify_effects.proofs.Owns.{one_asked, one_unasked}
use Rattle.sp_verify_effects.proofs.own.tell_one.Goals as goal

pub returns-then-asks : goal.returns-then-asks
returns-then-asks c =
    let k = c.args.asked.now in
    let fs = c.args.facts.now in
    let g : Fact = fact c.args.area c.args.effect in
    ok_on c.add.result (c.add.new.self ≡ with_fact fs g) (TellsAsked k fs c.add.new.self (λ f. f ≡ g))
    (λ v. subst (λ (x : List Fact). TellsAsked k fs x (λ f. f ≡ g)) (sym v)
    (one_asked k fs c.args.area c.args.effect (sym c.asks.ensures ∙ c.if-asks.true)))
    c.add.ensures

pub returns-else-asks : goal.returns-else-asks
returns-else-asks c = one_unasked c.args.asked.now c.args.facts.now c.args.area c.args.effect
    (sym c.asks.ensures ∙ c.if-asks.false)
