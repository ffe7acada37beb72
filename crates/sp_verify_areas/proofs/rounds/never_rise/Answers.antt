use Rattle.std.proofs.Common.{◌≡◌, ◌<◌, length, ⊎_elim, ap, sym, ◌∙◌, subst, arith}
use Rattle.sp_base.proofs.Facts.{below_or_last, not_true_and_false}
use Rattle.sp_code.specs.declared.code.Parts.{Parts}
use Rattle.sp_verify_rules.specs.NameRules.{LiesIn}
use Rattle.sp_verify_areas.specs.Rounds.{FallsFrom, has_owner}
use Rattle.sp_verify_areas.proofs.CycleFreedom.{has_there, leads_within}
use Rattle.sp_verify_areas.proofs.rounds.never_rise.Goals.{else-has_owner-via-then-has_owner+else-not-falls_from}
use Rattle.sp_verify_areas.proofs.rounds.never_rise.Goals.{else-has_owner-via-else-has_owner}
use Rattle.sp_verify_areas.proofs.rounds.never_rise.Goals as goal

pub loop-p-preserved : goal.loop-p-preserved
loop-p-preserved c = λ k l a h.
    let code = c.args.code.now in
    let os = c.args.owners.now in
    let ns = c.args.numbers.now in
    let p = c.loop-p.p in
    let m : c.len-count.result ≡ length code.instrs = c.len-count.ensures
    ∙ ap (λ (z : Parts). length z.instrs) c.parts.ensures.same in
    let lt : p < length code.instrs = subst (λ n. p < n) m c.loop-p-test.true in
    let here : LiesIn code p a → FallsFrom code ns 0 p = λ (lies : LiesIn code p a). elim c.else-has_owner.branch [
      | else-has_owner-via-then-has_owner+else-not-falls_from w ↦ w.falls_from.ensures w.if-not-falls_from.false
      | else-has_owner-via-else-has_owner w ↦ absurd (not_true_and_false (has_owner os p)
          (has_there code os c.requires p a lies lt) (sym c.has_owner.ensures ∙ w.if-has_owner.false))
    ] in
    ⊎_elim (λ (y : k < p). c.loop-p.invariant k y a h)
    (λ (e : k ≡ p). subst (λ i. FallsFrom code ns 0 i) (sym e) (here (subst (λ i. LiesIn code i a) e h)))
    (below_or_last k p l)

pub returns : goal.returns
returns c = λ t p a h q i.
    let code = c.args.code.now in
    let m : c.len-count.result ≡ length code.instrs = c.len-count.ensures
    ∙ ap (λ (z : Parts). length z.instrs) c.parts.ensures.same in
    let l : p < length code.instrs = leads_within code p q i in
    let s : p < c.loop-p.p = omega (arith, m, l) in
    c.loop-p.invariant p s a h q i
