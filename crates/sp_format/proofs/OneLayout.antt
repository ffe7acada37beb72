-- A text has at most one canonical text or one rule for which it has none, and never both.
use Rattle.std.proofs.Common.{◌≡◌, inl, inr, ℕ, List, length, sym, ◌∙◌, ap, arith}
use Rattle.sp_base.specs.declared.halt.Refusal.{Refusal}
use Rattle.sp_tree.proofs.OneList.{one_verdict, not_both}
use Rattle.sp_format.specs.Layout.{canonical_text}
use Rattle.sp_format.specs.Formats.{HasLayout, HasNoLayout, IsCanonical, IsLong}
use Rattle.sp_format.proofs.ItemLists.{one_items, one_text}

-- a text that is too long when it is laid out has no canonical text
long_or_short : {text out : List ℕ} {r : Refusal} → IsCanonical text out → IsLong text r → ⊥
long_or_short {out = out} x y =
    let same : length out ≡ length (canonical_text y.items) =
    ap length (x.text_is ∙ ap canonical_text (one_items x.has y.has)) in
    absurd (omega (arith, same, x.short, y.long))

pub one_layout : (text a b : List ℕ) → HasLayout text a → HasLayout text b → a ≡ b
one_layout text a b x y = one_text x.1 y.1

pub one_refusal : (text : List ℕ) (a b : Refusal) → HasNoLayout text a → HasNoLayout text b → a ≡ b
one_refusal text a b (inl x) (inl y) = one_verdict text a b x y
one_refusal text a b (inl x) (inr ((program, is_tree), _)) = absurd (not_both text program a is_tree x)
one_refusal text a b (inr ((program, is_tree), _)) (inl y) = absurd (not_both text program b is_tree y)
one_refusal text a b (inr x) (inr y) = x.1.refusal_is ∙ sym y.1.refusal_is

pub layout_or_refusal : (text out : List ℕ) (r : Refusal) → HasLayout text out → HasNoLayout text r → ⊥
layout_or_refusal text out r ((program, is_tree), _) (inl y) = not_both text program r is_tree y
layout_or_refusal text out r x (inr y) = long_or_short x.1 y.1
