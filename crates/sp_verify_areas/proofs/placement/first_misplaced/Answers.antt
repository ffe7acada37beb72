use Rattle.std.proofs.Common.{◌≡◌, ◌<◌, length, Option, ⊎_elim, true, ap, sym, ◌∙◌, subst, arith}
use Rattle.sp_base.proofs.Facts.{below_or_last, not_true_and_false}
use Rattle.sp_code.specs.declared.instr.Instr.{Instr}
use Rattle.sp_code.specs.declared.code.Parts.{Parts}
use Rattle.sp_verify_rules.specs.Areas.{instr_at}
use Rattle.sp_verify_areas.specs.Placement.{IsMisplaced, fails_placed}
use Rattle.sp_verify_areas.proofs.PlaceLaws.{is_misplaced, misplaced_is}
use Rattle.sp_verify_areas.proofs.placement.first_misplaced.Goals as goal

pub returns-then-fails : goal.returns-then-fails
returns-then-fails c =
    let code = c.args.code.now in
    let p = c.loop-p.p in
    let o = c.owner_at-o.result in
    let m : c.len-count.result ≡ length code.instrs = c.len-count.ensures
    ∙ ap (λ (z : Parts). length z.instrs) c.parts.ensures.same in
    let lt : p < length code.instrs = subst (λ n. p < n) m c.loop-p-test.true in
    let test : fails_placed (length code.instrs) p (instr_at code p) o ≡ true =
    ap (λ n. fails_placed n p (instr_at code p) o) (sym m)
    ∙ ap (λ (z : Option Instr). fails_placed c.len-count.result p z o) c.instr_of-instr.ensures
    ∙ sym c.fails.ensures ∙ c.if-fails.true in
    ((lt, is_misplaced code p o (c.requires.1 p o c.owner_at-o.ensures) test), c.loop-p.invariant)

pub loop-p-preserved : goal.loop-p-preserved
loop-p-preserved c = λ k l h.
    let code = c.args.code.now in
    let p = c.loop-p.p in
    let o = c.owner_at-o.result in
    let m : c.len-count.result ≡ length code.instrs = c.len-count.ensures
    ∙ ap (λ (z : Parts). length z.instrs) c.parts.ensures.same in
    let test = ap (λ n. fails_placed n p (instr_at code p) o) (sym m)
    ∙ ap (λ (z : Option Instr). fails_placed c.len-count.result p z o) c.instr_of-instr.ensures
    ∙ sym c.fails.ensures ∙ c.if-fails.false in
    ⊎_elim (λ (y : k < p). c.loop-p.invariant k y h)
    (λ (e : k ≡ p). let g : IsMisplaced code p = subst (IsMisplaced code) e h in
    not_true_and_false (fails_placed (length code.instrs) p (instr_at code p) o)
    (misplaced_is code p o (c.requires.1 p o c.owner_at-o.ensures) g.1) test)
    (below_or_last k p l)

pub returns : goal.returns
returns c = λ q h.
    let code = c.args.code.now in
    let m : c.len-count.result ≡ length code.instrs = c.len-count.ensures
    ∙ ap (λ (z : Parts). length z.instrs) c.parts.ensures.same in
    let l : q < length code.instrs = h.0 in
    let s : q < c.loop-p.p = omega (arith, m, l) in
    c.loop-p.invariant q s h
