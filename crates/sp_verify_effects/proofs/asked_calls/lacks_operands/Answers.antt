use Rattle.std.proofs.Common.{sym, ap, ◌∙◌, subst, false}
use Rattle.sp_verify_shapes.specs.Stacks.{list_of}
use Rattle.sp_verify_effects.specs.AskedCalls.{lacks_actual, lacks_actuals}
use Rattle.sp_verify_effects.specs.Walks.{NoneOfTop}
use Rattle.sp_verify_effects.proofs.CallTests.{none_found}
use Rattle.sp_verify_effects.proofs.asked_calls.lacks_operands.Goals as goal

pub returns-then-lacks_actuals : goal.returns-then-lacks_actuals
returns-then-lacks_actuals c = λ t. absurd (cc t)

pub returns : goal.returns
returns c = λ t.
    let k = c.args.asked.now in
    let ks = c.args.own.now.keys in
    let P = lacks_actual k ks in
    let l = c.args.l.now in
    let ss = list_of c.args.g.now.shapes.now.stacks c.args.stack in
    let none = ap (lacks_actuals k ks l.entry) (sym c.items.ensures) ∙ sym c.lacks_actuals.ensures
    ∙ c.if-lacks_actuals.false in
    let top = c.in-Ok.ensures P c.requires.walks none in (
      c.in-Ok-put_walk.ensures P c.requires.walks top,
      none_found P l.entry l ss (subst (λ n. NoneOfTop P l.entry n ss) c.len-count.ensures top),
    )
