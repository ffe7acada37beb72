-- Maps as functions: look-ups after an update, and updates at different keys.
use Rattle.std.proofs.Common.{◌≡◌, ◌≢◌, ◌⊎◌, ⊎_elim, inl, inr, Bool, true, false, refl, sym}
use Rattle.std.proofs.Math.Path.{fun_ext}
use Rattle.sp_meaning.specs.Maps.{IsTest, at_key}

module _ {K : Type 0} {same : K → K → Bool} (test : IsTest same) where
  pub same_or_not : (j k : K) → (j ≡ k) ⊎ (j ≢ k)
  same_or_not j k = elim (same j k) as (λ b. same j k ≡ b → (j ≡ k) ⊎ (j ≢ k)) [
    | true ↦ λ e. inl ((test j k).0 e)
    | false ↦ λ e. inr (λ is. let h : same j k ≡ true = (test j k).1 is in absurd (cc (h, e)))
  ] refl

  pub differs : (j k : K) → j ≢ k → same j k ≡ false
  differs j k apart = elim (same j k) as (λ b. same j k ≡ b → same j k ≡ false) [
    | true ↦ λ e. absurd (apart ((test j k).0 e))
    | false ↦ λ e. e
  ] refl

  pub itself : (k : K) → same k k ≡ true
  itself k = (test k k).1 refl

module _ {K X : Type 0} {same : K → K → Bool} (test : IsTest same) where
  -- lookup after update
  pub at_same : (m : K → X) (k : K) (v : X) → at_key same k v m k ≡ v
  at_same m k v = rw (itself test k)

  pub at_other : (m : K → X) (k q : K) (v : X) → k ≢ q → at_key same k v m q ≡ m q
  at_other m k q v apart = rw (differs test k q apart)

  -- updates at different keys
  pub at_apart : (m : K → X) (j k : K) (v w : X) → j ≢ k
      → at_key same j v (at_key same k w m) ≡ at_key same k w (at_key same j v m)
  at_apart m j k v w apart = fun_ext (λ q. ⊎_elim
      (λ (is : j ≡ q). rw (← is) (rw (itself test j) (rw (differs test k j (λ e. apart (sym e))) refl)))
      (λ (other : j ≢ q). rw (differs test j q other) refl)
      (same_or_not test j q))
