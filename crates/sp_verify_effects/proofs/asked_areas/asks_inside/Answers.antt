use Rattle.std.proofs.Common.{◌≡◌, ◌<◌, ◌∙◌, length, ⊎_elim, ap, sym, subst, arith}
use Rattle.sp_base.proofs.Facts.{below_or_last}
use Rattle.sp_code.specs.declared.code.Parts.{Parts}
use Rattle.sp_verify_effects.specs.AskedAreas.{AsksInsideAt}
use Rattle.sp_verify_effects.proofs.AreaQueries.{inside_within}
use Rattle.sp_verify_effects.proofs.asked_areas.asks_inside.Goals as goal

pub loop-p-preserved : goal.loop-p-preserved
loop-p-preserved c = λ q l.
    let code = c.args.g.now.code.now in
    let k = c.args.asked.now in
    let p = c.loop-p.p in
    ⊎_elim (λ (y : q < p). c.loop-p.invariant q y)
    (λ (z : q ≡ p). subst (λ n. AsksInsideAt code k n) (sym z)
    (c.asks_inside_at.ensures c.if-not-asks_inside_at.false))
    (below_or_last q p l)

pub returns-then-not-asks_inside_at : goal.returns-then-not-asks_inside_at
returns-then-not-asks_inside_at c = λ t. absurd (cc t)

pub returns : goal.returns
returns c = λ t q a n lies e.
    let code = c.args.g.now.code.now in
    let m : c.len-p-end.result ≡ length code.instrs = c.len-p-end.ensures
    ∙ ap (λ (z : Parts). length z.instrs) c.parts.ensures.same in
    let l = inside_within code a q n e in
    let b : q < c.loop-p.p = omega (arith, m, l) in
    c.loop-p.invariant q b a n lies e
