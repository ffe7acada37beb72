use Rattle.std.proofs.Common.{◌≡◌, ◌<◌, length, true, inl, inr, ⊎_elim, ap, sym, ◌∙◌, subst, arith}
use Rattle.sp_base.proofs.Facts.{below_or_last, not_true_and_false}
use Rattle.sp_code.specs.declared.code.Parts.{Parts}
use Rattle.sp_verify_areas.specs.Alone.{flag_at}
use Rattle.sp_verify_areas.specs.Rounds.{IsAt, AreFlagged}
use Rattle.sp_verify_areas.proofs.CycleFreedom.{free_path_from, leads_within}
use Rattle.sp_verify_areas.proofs.rounds.open_end.Goals.{then-p-start+in-None, then-p-start-via-then-p-start}
use Rattle.sp_verify_areas.proofs.rounds.open_end.Goals.{then-p-start-via-else-p-start+then-flag_at}
use Rattle.sp_verify_areas.proofs.rounds.open_end.Goals.{else-p-start+else-flag_at}
use Rattle.sp_verify_areas.proofs.rounds.open_end.Goals as goal

pub returns-in-Some : goal.returns-in-Some
returns-in-Some c =
    let code = c.args.code.now in
    let fs = c.args.flags.now in
    let p = c.loop-p.p in
    let at : IsAt c.args.start fs p = elim c.then-p-start.branch [
      | then-p-start-via-then-p-start w ↦ inl w.if-p-start.true
      | then-p-start-via-else-p-start+then-flag_at w ↦ inr (sym w.flag_at.ensures ∙ w.if-flag_at.true)
    ] in
    let found = c.in-Some.ensures in
    (free_path_from code c.args.start fs p c.in-Some.q c.requires at found.0, found.1, found.2)

pub loop-p-preserved : goal.loop-p-preserved
loop-p-preserved c = λ k l at.
    let code = c.args.code.now in
    let fs = c.args.flags.now in
    let p = c.loop-p.p in
    let here : IsAt c.args.start fs p → AreFlagged code fs p =
    λ (at : IsAt c.args.start fs p). elim c.if-p-start.branch [
      | then-p-start+in-None w ↦ w.in-None.ensures
      | else-p-start+else-flag_at w ↦ absurd (⊎_elim (λ (e : p ≡ c.args.start). w.if-p-start.false e)
          (λ (e : flag_at fs p ≡ true). not_true_and_false (flag_at fs p) e
          (sym w.flag_at.ensures ∙ w.if-flag_at.false)) at)
    ] in
    ⊎_elim (λ (y : k < p). c.loop-p.invariant k y at)
    (λ (e : k ≡ p). subst (λ i. AreFlagged code fs i) (sym e) (here (subst (λ i. IsAt c.args.start fs i) e at)))
    (below_or_last k p l)

pub returns : goal.returns
returns c = λ p at q i.
    let code = c.args.code.now in
    let m : c.len-count.result ≡ length code.instrs = c.len-count.ensures
    ∙ ap (λ (z : Parts). length z.instrs) c.parts.ensures.same in
    let l : p < length code.instrs = leads_within code p q i in
    let s : p < c.loop-p.p = omega (arith, m, l) in
    c.loop-p.invariant p s at q i
