use Rattle.std.proofs.Common.{◌≡◌, ◌∙◌, ℕ, ◌+◌, ◌≤◌, ◌++◌, List, take, drop, length, arith, ap, sym, length-take}
use Rattle.std.proofs.lemmas.List.{take-append-drop, drop-drop, take_at}
use Rattle.sp_outside.proofs.input_buffer.InputBuffer.give.Goals as goal

-- n bytes of what is left stand in front of the buffer, and the others are left
given_on : (items buf got left : List ℕ) (given n : ℕ) → left ≡ drop given items → got ≡ take n left → n ≤ length left
    → drop given items ≡ take n (got ++ buf) ++ drop (given + n) items
given_on items buf got left given n is front fits =
    let long : length got ≡ n = ap length front ∙ grind (arith, length-take) in
    sym is ∙ sym (take-append-drop n left) ∙ ap (λ u. u ++ drop n left) (sym front ∙ sym (take_at got buf n long))
    ∙ ap (λ v. take n (got ++ buf) ++ v) (ap (λ u. drop n u) is ∙ drop-drop n given items)

pub returns-clause-moved : goal.returns-clause-moved
returns-clause-moved c =
    let given = c.args.self.now.given in
    given_on _ _ _ _ _ _ (c.split_at.ensures.back ∙ ap (λ v. drop given v) c.as_slice.ensures.value)
    c.copy_from_slice.ensures.after (omega (arith, c.min-count.ensures))
