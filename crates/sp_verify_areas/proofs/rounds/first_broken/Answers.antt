use Rattle.std.proofs.Common.{◌≡◌, ◌<◌, length, ⊎_elim, ap, ◌∙◌, subst, arith}
use Rattle.sp_base.proofs.Facts.{below_or_last, not_true_and_false}
use Rattle.sp_code.specs.declared.code.Parts.{Parts}
use Rattle.sp_verify_rules.specs.Rules.{BreaksV9}
use Rattle.sp_verify_areas.proofs.CycleFreedom.{lies_back}
use Rattle.sp_verify_areas.proofs.rounds.first_broken.Goals as goal

pub returns-then-broken : goal.returns-then-broken
returns-then-broken c = (c.in-Ok.ensures.0 c.if-broken.true, c.loop-p.invariant)

pub loop-p-preserved : goal.loop-p-preserved
loop-p-preserved c = λ k l b.
    let p = c.loop-p.p in
    ⊎_elim (λ (y : k < p). c.loop-p.invariant k y b)
    (λ (e : k ≡ p). not_true_and_false c.in-Ok.value
    (c.in-Ok.ensures.1 (subst (BreaksV9 c.args.code.now) e b)) c.if-broken.false)
    (below_or_last k p l)

pub returns : goal.returns
returns c = λ p b.
    let code = c.args.code.now in
    let m : c.len-count.result ≡ length code.instrs = c.len-count.ensures
    ∙ ap (λ (z : Parts). length z.instrs) c.parts.ensures.same in
    let l : p < length code.instrs = (lies_back code p b).0 in
    let s : p < c.loop-p.p = omega (arith, m, l) in
    c.loop-p.invariant p s b
