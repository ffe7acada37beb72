-- What is wrong with a code file is one thing, and nothing where sound code comes of it.
use Rattle.std.proofs.Common.{◌≡◌, ◌⊎◌, inl, inr, ℕ, zero, suc, ◌<◌, ◌≤◌, List, length, refl, sym, ap, ◌∙◌, subst}
use Rattle.std.proofs.Common.{arith}
use Rattle.std.proofs.lemmas.Bool.{cases_order}
use Rattle.sp_code.specs.declared.code.Parts.{Parts}
use Rattle.sp_codefile.specs.CodeText.{IsFirstBad, IsTextOf}
use Rattle.sp_verify_rules.specs.Verdict.{Rule, V1, V2, V3, V4, V5, V6, V7, V8, V9, IsRejected, IsVerified, number}
use Rattle.superpascal.specs.Texts.{IsSoundFile}
use Rattle.superpascal.proofs.Laws.{Laws}

-- ---- one rejection

-- the rule of a number
rule_at : ℕ → Rule
rule_at zero = V1
rule_at (suc zero) = V1
rule_at (suc (suc zero)) = V2
rule_at (suc (suc (suc zero))) = V3
rule_at (suc (suc (suc (suc zero)))) = V4
rule_at (suc (suc (suc (suc (suc zero))))) = V5
rule_at (suc (suc (suc (suc (suc (suc zero)))))) = V6
rule_at (suc (suc (suc (suc (suc (suc (suc zero))))))) = V7
rule_at (suc (suc (suc (suc (suc (suc (suc (suc zero)))))))) = V8
rule_at (suc (suc (suc (suc (suc (suc (suc (suc (suc n))))))))) = V9

numbered_back : (r : Rule) → rule_at (number r) ≡ r
unfolding rule_at
numbered_back V1 = refl
numbered_back V2 = refl
numbered_back V3 = refl
numbered_back V4 = refl
numbered_back V5 = refl
numbered_back V6 = refl
numbered_back V7 = refl
numbered_back V8 = refl
numbered_back V9 = refl

one_number : (r s : Rule) → number r ≡ number s → r ≡ s
one_number r s h = sym (numbered_back r) ∙ (ap rule_at h ∙ numbered_back s)

module _ (c : Parts) where
  -- code is rejected for one rule
  pub one_rule : (r s : Rule) (i j : ℕ) → IsRejected c r i → IsRejected c s j → r ≡ s
  one_rule r s i j h k = by (cases_order (number r) (number s))
    where
      by : (number r ≡ number s) ⊎ ((number r < number s) ⊎ (number s < number r)) → r ≡ s
      by (inl e) = one_number r s e
      by (inr (inl less)) = absurd (k.first r i less h.broken)
      by (inr (inr more)) = absurd (h.first s j more k.broken)

  -- at one instruction
  least_of : (r : Rule) (i j : ℕ) → IsRejected c r i → IsRejected c r j → i ≡ j
  least_of r i j h k = by (cases_order i j)
    where
      by : (i ≡ j) ⊎ ((i < j) ⊎ (j < i)) → i ≡ j
      by (inl e) = e
      by (inr (inl less)) = absurd (k.least i less h.broken)
      by (inr (inr more)) = absurd (h.least j more k.broken)

  pub one_place : (r s : Rule) (i j : ℕ) → IsRejected c r i → IsRejected c s j → i ≡ j
  one_place r s i j h k = least_of r i j h (subst (λ (x : Rule). IsRejected c x j) (sym (one_rule r s i j h k)) k)

-- ---- a file of which sound code comes

not_longer : (n : ℕ) → n ≤ 67108864 → 67108864 < n → ⊥
not_longer n h k = omega arith

pub not_long : (bytes : List ℕ) → IsSoundFile bytes → 67108864 < length bytes → ⊥
not_long bytes h long = not_longer (length bytes) h.1.short long

pub not_bad : (bytes : List ℕ) (n : ℕ) → IsSoundFile bytes → IsFirstBad n bytes → ⊥
not_bad bytes n h bad = bad.whole (h.0, h.1.text)

pub not_rejected : (l : Laws) (code : Parts) (bytes : List ℕ) → IsSoundFile bytes → IsTextOf code bytes
    → (r : Rule) (n : ℕ) → IsRejected code r n → ⊥
not_rejected l code bytes h text r n rejected =
    let verified : IsVerified code = subst (λ (x : Parts). IsVerified x)
    (l.code h.0 code bytes h.1.text text) h.1.verified in
    verified r n rejected.broken
