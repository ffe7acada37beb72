use Rattle.std.proofs.Common.{◌≡◌, ◌≤◌, sym, ◌∙◌, ap, length, Some, None, subst}
use Rattle.sp_code.specs.declared.code.Parts.{Parts}
use Rattle.sp_verify_rules.specs.Shapes.{stays_within}
use Rattle.sp_verify_shapes.specs.ReachRules.{fails_at}
use Rattle.sp_verify_shapes.proofs.ReachLaws.{first_one, no_one, least_passing}
use Rattle.sp_verify_shapes.proofs.cells.first_passing.Goals as goal

pub returns-then-passes : goal.returns-then-passes
returns-then-passes c =
    let code = c.args.code.now in
    let s = c.args.shapes.now in
    least_passing code s c.requires (Some c.loop-p.p)
    (first_one (fails_at stays_within code s) c.loop-p.p (sym c.passes.ensures ∙ c.if-passes.true)
    c.loop-p.invariant)

pub returns : goal.returns
returns c =
    let code = c.args.code.now in
    let s = c.args.shapes.now in
    let size : c.len-p-end.result ≡ length code.instrs = c.len-p-end.ensures
    ∙ ap (λ (x : Parts). length x.instrs) c.parts.ensures.same in
    least_passing code s c.requires None
    (no_one code s c.requires stays_within c.loop-p.p (subst (λ n. n ≤ c.loop-p.p) size c.loop-p-test.false)
    c.loop-p.invariant)
