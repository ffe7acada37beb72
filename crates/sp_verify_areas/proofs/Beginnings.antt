-- Sizes that end before the formals do.
use Rattle.std.proofs.Common.{◌≡◌, refl, ap, ◌∙◌, ℕ, zero, suc, ◌<◌, ◌≤◌, List, [], ◌∷◌, ◌++◌, length, drop, false}
use Rattle.std.proofs.Common.{arith}
use Rattle.std.proofs.lemmas.List.{drop_all}
use Rattle.sp_code.specs.declared.code.Formal.{Formal}
use Rattle.sp_verify_rules.specs.NameRules.{begins_with, formals_cells}

first_of : (k : ℕ) (fs : List Formal) → k < length fs → (f : Formal) × (gs : List Formal) × (drop k fs ≡ f ∷ gs)
first_of k [] h = absurd (omega (arith, h))
first_of zero (f ∷ fs) h = (f, fs, refl)
first_of (suc k) (f ∷ fs) h = first_of k fs (omega (arith, h))

pub ends_before : (k : ℕ) (fs : List Formal) (more ns : List ℕ) → k < length fs → length ns ≤ k
    → begins_with (formals_cells (drop k fs) ++ more) (drop k ns) ≡ false
ends_before k fs more ns h l =
    let d = first_of k fs h in
    ap (λ (z : List ℕ). begins_with (formals_cells (drop k fs) ++ more) z) (drop_all k ns l)
    ∙ ap (λ (z : List Formal). begins_with (formals_cells z ++ more) []) d.2
