-- A list that grew keeps what stood at its front.
use Rattle.std.proofs.Common.{◌≡◌, List, ◌++◌, length, take, drop, sym, ap, ◌∙◌, append_assoc, take-append-drop}
use Rattle.std.proofs.Math.Seq.{take-append_seam}

-- what keeps a list keeps a front of it
pub kept_through : {X : Type 0} (old text mid new : List X) → mid ≡ old ++ text → take (length mid) new ≡ mid
    → take (length old) new ≡ old
kept_through old text mid new e k =
    let rest = drop (length mid) new in
    ap (take (length old)) (sym (take-append-drop (length mid) new) ∙ ap (λ x. x ++ rest) (k ∙ e)
    ∙ append_assoc old text rest) ∙ take-append_seam old (text ++ rest)
