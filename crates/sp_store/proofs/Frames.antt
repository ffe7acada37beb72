-- Frame numbers as the calls find them: the last own one is the greatest.
use Rattle.std.proofs.Common.{◌≡◌, ℕ, ◌+◌, ◌-◌, ◌<◌, List, length, get_or, arith, ap, ◌∙◌, sym}
use Rattle.std.proofs.lemmas.Grind.{get_or_default_zero}
use Rattle.sp_cell.specs.Frame.{least_above, IsRising}
use Rattle.sp_cell.proofs.FrameLaws.{above_newest}

-- the number read at the last place is the greatest
pub newest_read : (ns : List ℕ) (x n : ℕ) → IsRising ns → n ≡ length ns → 0 < n → x ≡ get_or ns (n - 1) x
    → least_above ns ≡ x + 1
newest_read ns x n r e b is =
    let last : n - 1 ≡ length ns - 1 = omega arith in
    let same : get_or ns (length ns - 1) 0 ≡ x = sym (get_or_default_zero ns (length ns - 1) x (omega arith))
    ∙ ap (λ k. get_or ns k x) (sym last) ∙ sym is in
    above_newest ns r (omega arith) ∙ ap (λ k. k + 1) same
