-- Variables of operands, put one after the other.
use Rattle.std.proofs.Common.{◌≡◌, refl, ap, sym, ◌∙◌, ℕ, suc, ◌+◌, ◌-◌, ◌<◌, List, [], ◌∷◌, ◌++◌, arith}
use Rattle.std.proofs.lemmas.List.{append_assoc}
use Rattle.sp_verify_rules.specs.Shapes.{Shape}
use Rattle.sp_verify_rules.specs.Touches.{topmost_variable, addresses}
use Rattle.sp_verify_shapes.specs.declared.stacks.Shape.{Shape as Kept}
use Rattle.sp_verify_shapes.specs.declared.stacks.Shape.TheVariants as kept
use Rattle.sp_verify_shapes.specs.Stacks.{shape_of}

one_address : (n : ℕ) (s : Kept) (ss : List Shape) → addresses (suc n) (shape_of s ∷ ss)
    ≡ topmost_variable (shape_of s ∷ [])
    ++ addresses n ss
one_address n kept.Ordinal ss = refl
one_address n kept.Channel ss = refl
one_address n (kept.Cells k) ss = refl
one_address n (kept.Address x k) ss = refl

pub passed_more : (now new all : List ℕ) (n k : ℕ) (s : Kept) (at rest : List Shape) → k < n → at ≡ shape_of s ∷ rest
    → new ≡ now ++ topmost_variable (shape_of s ∷ []) → now ++ addresses (n - k) at ≡ all
    → new ++ addresses (n - (k + 1)) rest ≡ all
passed_more now new all n k s at rest l e f h =
    let m : n - k ≡ suc (n - (k + 1)) = omega (arith, l) in
    ap (λ (xs : List ℕ). xs ++ addresses (n - (k + 1)) rest) f ∙
    append_assoc now (topmost_variable (shape_of s ∷ [])) (addresses (n - (k + 1)) rest) ∙
    ap (λ (xs : List ℕ). now ++ xs) (sym (one_address (n - (k + 1)) s rest)) ∙
    ap (λ (xs : List Shape). now ++ addresses (suc (n - (k + 1))) xs) (sym e) ∙
    ap (λ j. now ++ addresses j at) (sym m) ∙ h
