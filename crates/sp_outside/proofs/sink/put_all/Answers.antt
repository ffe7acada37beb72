use Rattle.std.proofs.Common.{◌≡◌, ◌∙◌, ℕ, ◌+◌, ◌++◌, List, Option, take, drop, arith, ap, subst, sym}
use Rattle.std.proofs.Math.Seq.{take-add}
use Rattle.sp_outside.specs.Visible.{Grows, grows_none, grows_more}
use Rattle.sp_outside.proofs.sink.put_all.Goals as goal

-- n bytes more of what is left
next_piece : (a b d : Option (List ℕ)) (bytes rest : List ℕ) (done n : ℕ) → rest ≡ drop done bytes
    → Grows a b (take done bytes) → Grows b d (take n rest) → Grows a d (take (done + n) bytes)
next_piece a b d bytes rest done n e g h =
    let Got : List ℕ → Type 0 = λ v. Grows a d v in
    subst Got (ap (λ r. take done bytes ++ take n r) e ∙ sym (take-add done n bytes)) (grows_more a b d _ _ g h)

pub loop-done-init : goal.loop-done-init
loop-done-init g c = (omega arith, grows_none (g.S.Sink.written c.args.sink.now), omega arith)

pub loop-done-preserved : goal.loop-done-preserved
loop-done-preserved g c =
    let before = c.loop-done.invariant in
    let taken = c.in_ok-done.ensures in
    let back = c.split_at.ensures in (
      omega (arith, taken.within, back.back_len),
      next_piece _ _ _ _ _ _ _ back.back before.1 taken.ok,
      omega (arith, before.2, taken.counted),
    )
