use Rattle.std.proofs.Common.{◌≡◌, ◌≤◌, sym, ◌∙◌, ap, length, subst, arith}
use Rattle.std.specs.Prelude.{not}
use Rattle.std.proofs.lemmas.Bool.{and_parts}
use Rattle.sp_code.specs.declared.code.Parts.{Parts}
use Rattle.sp_verify_rules.specs.Rules.{call_fits}
use Rattle.sp_verify_areas.specs.Alone.{flag_at}
use Rattle.sp_verify_shapes.specs.ReachRules.{fails_at}
use Rattle.sp_verify_shapes.proofs.ReachLaws.{first_one, no_one}
use Rattle.sp_verify_shapes.proofs.CallRepeats.{fails_again, not_here, none_more}
use Rattle.sp_verify_shapes.proofs.calls.first_misfit.Goals as goal

pub loop-p-init : goal.loop-p-init
loop-p-init c = (λ k l. absurd (omega (arith, l)), c.new-seen.ensures c.args.code.now.layouts c.args.shapes.now.stacks)

pub returns-then-misfits : goal.returns-then-misfits
returns-then-misfits c =
    let code = c.args.code.now in
    let s = c.args.shapes.now in
    let p = c.loop-p.p in
    first_one (fails_at (call_fits code) code s) p
    (and_parts (not (flag_at c.args.repeats.now p)) (fails_at (call_fits code) code s p)
    (sym c.misfits.ensures.fails ∙ c.if-misfits.true)).1
    c.loop-p.invariant.0

pub loop-p-preserved : goal.loop-p-preserved
loop-p-preserved c =
    let code = c.args.code.now in
    let s = c.args.shapes.now in
    let p = c.loop-p.p in
    let P = fails_at (call_fits code) code s in (
      none_more P p (not_here P (flag_at c.args.repeats.now p) p
          (λ e. let r = c.requires.repeats.1 p e in
          (r.0, r.1.earlier, fails_again code s c.requires.repeats.0 p r.0 r.1))
          c.loop-p.invariant.0 (sym c.misfits.ensures.fails ∙ c.if-misfits.false))
          c.loop-p.invariant.0,
      c.misfits.ensures.known c.if-misfits.false,
    )

pub returns : goal.returns
returns c =
    let code = c.args.code.now in
    let s = c.args.shapes.now in
    let size : c.len-p-end.result ≡ length code.instrs = c.len-p-end.ensures
    ∙ ap (λ (x : Parts). length x.instrs) c.parts.ensures.same in
    no_one code s c.requires.shapes (call_fits code) c.loop-p.p (subst (λ n. n ≤ c.loop-p.p) size c.loop-p-test.false)
    c.loop-p.invariant.0
