use Rattle.sp_verify_shapes.proofs.seen.Seen.new.Goals as goal

pub returns : goal.returns
returns c = λ ls st. (
  λ p l at. (λ k n e. absurd (c.new.ensures p k n e), λ k r e. absurd (c.new-2.ensures p k r e)),
  c.new-3.ensures st,
)
