use Rattle.std.proofs.Common.{◌≡◌, ◌+◌, ◌≤◌, sym, ◌∙◌, ap, length, subst, ℕ}
use Rattle.sp_code.specs.declared.code.Parts.{Parts}
use Rattle.sp_verify_shapes.specs.Lengths.{AreLengths}
use Rattle.sp_verify_shapes.proofs.MessageLengths.{first_differs, none_differs, past_first, past_kept, past_none}
use Rattle.sp_verify_shapes.proofs.messages.first_other.Goals.{in-Some+in-None+in-Ok}
use Rattle.sp_verify_shapes.proofs.messages.first_other.Goals.{in-Some+in-Some-copied+else-cells-w, in_default}
use Rattle.sp_verify_shapes.proofs.messages.first_other.Goals as goal

pub returns-then-cells-w : goal.returns-then-cells-w
returns-then-cells-w c =
    first_differs c.args.code.now c.args.shapes.now c.loop-p.p c.loop-p.lengths c.in-Some.w c.in-Some-copied.cells
    c.loop-p.invariant (sym c.in-Some.ensures)
    (sym c.get.ensures.value ∙ sym c.copied.ensures ∙ c.in-Some-copied.is) c.if-cells-w.true

pub loop-p-preserved : goal.loop-p-preserved
loop-p-preserved c =
    let code = c.args.code.now in
    let s = c.args.shapes.now in
    let R : ℕ → ℕ → Type 0 = λ m n. m ≡ n in
    let old = c.loop-p.lengths in
    elim c.match-sent.branch [
      | in-Some+in-None+in-Ok w ↦
          subst (AreLengths R code s (c.loop-p.p + 1)) (sym w.lengths-is)
          (past_first code s c.loop-p.p old w.put.new.lengths w.in-Some.w c.loop-p.invariant (sym w.in-Some.ensures)
          (sym w.get.ensures.value ∙ sym w.copied.ensures ∙ w.in-None.is) w.in-Ok.ensures)
      | in-Some+in-Some-copied+else-cells-w w ↦
          subst (AreLengths R code s (c.loop-p.p + 1)) (sym w.lengths-is)
          (past_kept R code s c.loop-p.p old w.in-Some.w w.in-Some-copied.cells c.loop-p.invariant
          (sym w.in-Some.ensures)
          (sym w.get.ensures.value ∙ sym w.copied.ensures ∙ w.in-Some-copied.is) (sym w.if-cells-w.false))
      | in_default w ↦
          subst (AreLengths R code s (c.loop-p.p + 1)) (sym w.lengths-is)
          (past_none R code s c.loop-p.p old c.loop-p.invariant (sym c.sent.ensures ∙ w.in_default.is))
    ]

pub returns : goal.returns
returns c =
    let code = c.args.code.now in
    let size : c.len-p-end.result ≡ length code.instrs = c.len-p-end.ensures
    ∙ ap (λ (x : Parts). length x.instrs) c.parts.ensures.same in
    none_differs code c.args.shapes.now c.requires c.loop-p.p c.loop-p.lengths c.loop-p.invariant
    (subst (λ n. n ≤ c.loop-p.p) size c.loop-p-test.false)
