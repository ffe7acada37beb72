use Rattle.std.proofs.Common.{◌+◌, ◌≤◌, sym, ◌∙◌, subst, ℕ}
use Rattle.sp_verify_shapes.specs.Lengths.{AreLengths}
use Rattle.sp_verify_shapes.proofs.MessageLengths.{past_greatest, past_none}
use Rattle.sp_verify_shapes.proofs.messages.greatest.Goals.{in-Some+in-Ok, in_default}
use Rattle.sp_verify_shapes.proofs.messages.greatest.Goals as goal

pub loop-p-preserved : goal.loop-p-preserved
loop-p-preserved c =
    let code = c.args.code.now in
    let s = c.args.shapes.now in
    let R : ℕ → ℕ → Type 0 = λ m n. m ≤ n in
    let old = c.loop-p.lengths in
    elim c.match-sent.branch [
      | in-Some+in-Ok w ↦
          subst (AreLengths R code s (c.loop-p.p + 1)) (sym w.lengths-is)
          (past_greatest code s c.loop-p.p old w.put_greatest.new.lengths w.in-Some.w c.loop-p.invariant
          (sym w.in-Some.ensures) w.in-Ok.ensures)
      | in_default w ↦
          subst (AreLengths R code s (c.loop-p.p + 1)) (sym w.lengths-is)
          (past_none R code s c.loop-p.p old c.loop-p.invariant (sym c.sent.ensures ∙ w.in_default.is))
    ]
