use Rattle.std.proofs.Common.{arith, ◌≤◌, ◌+◌, length, subst, sym}
use Rattle.sp_scan.specs.Finds.{FindsSign}
use Rattle.sp_scan.proofs.Tokens.{better_none, better_new, better_more, better_keep}
use Rattle.sp_scan.proofs.token.better.Goals as goal

pub returns-in-None : goal.returns-in-None
returns-in-None c = better_none c.args.bytes.now c.args.n c.sign_text.result.now c.sign_text.ensures c.args.best
    c.requires.best c.in-None.ensures

pub returns-in-None-best : goal.returns-in-None-best
returns-in-None-best c = better_new c.args.bytes.now c.args.n c.sign_text.result.now c.sign_text.ensures c.in-Some.rest
    c.in-Some.ensures (subst (λ o. FindsSign c.args.n c.args.bytes.now o) c.in-None-best.is c.requires.best)

pub returns-in-Some-best : goal.returns-in-Some-best
returns-in-Some-best c = better_more c.args.bytes.now c.args.n c.sign_text.result.now c.sign_text.ensures c.in-Some.rest
    c.in-Some-best.other c.in-Some.ensures c.if-rest-other.true
    (subst (λ o. FindsSign c.args.n c.args.bytes.now o) c.in-Some-best.is c.requires.best).1

pub returns-in_default : goal.returns-in_default
returns-in_default c =
    let l : length c.in-Some-best.other.now ≤ length c.in-Some.rest.now = omega (arith, c.if-rest-other.false) in
    subst (λ o. FindsSign (c.args.n + 1) c.args.bytes.now o) (sym c.in-Some-best.is)
    (better_keep c.args.bytes.now c.args.n c.sign_text.result.now c.sign_text.ensures c.in-Some.rest
    (c.in-Some-best.field-0-0, c.in-Some-best.other) c.in-Some.ensures l
    (subst (λ o. FindsSign c.args.n c.args.bytes.now o) c.in-Some-best.is c.requires.best))
