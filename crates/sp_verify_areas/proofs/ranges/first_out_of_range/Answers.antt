use Rattle.std.proofs.Common.{◌≡◌, ◌<◌, length, ⊎_elim, ap, ◌∙◌, subst, arith}
use Rattle.sp_base.proofs.Facts.{below_or_last}
use Rattle.sp_code.specs.declared.code.Parts.{Parts}
use Rattle.sp_verify_areas.specs.WrongNames.{MisnamesOnly}
use Rattle.sp_verify_areas.proofs.WrongNames.{misnames_within}
use Rattle.sp_verify_areas.proofs.ranges.first_out_of_range.Goals as goal

pub loop-p-preserved : goal.loop-p-preserved
loop-p-preserved c = λ k l h.
    ⊎_elim (λ (y : k < c.loop-p.p). c.loop-p.invariant k y h)
    (λ (e : k ≡ c.loop-p.p). c.misnames.ensures.no c.if-misnames.false (subst (MisnamesOnly c.args.code.now) e h))
    (below_or_last k c.loop-p.p l)

pub returns : goal.returns
returns c = λ q h.
    let code = c.args.code.now in
    let m : c.len-count.result ≡ length code.instrs = c.len-count.ensures
    ∙ ap (λ (z : Parts). length z.instrs) c.parts.ensures.same in
    let l : q < length code.instrs = misnames_within code q h in
    let s : q < c.loop-p.p = omega (arith, m, l) in
    c.loop-p.invariant q s h
