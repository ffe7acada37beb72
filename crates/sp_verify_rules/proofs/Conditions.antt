-- The conditions of all processes as a function: what is put at one number, and put again.
use Rattle.std.proofs.Common.{◌≡◌, ◌≢◌, ◌⊎◌, inl, inr, ℕ, ◌==◌, cond}
use Rattle.std.proofs.Common.{Option, Bool, true, false, refl, subst}
use Rattle.sp_cell.specs.Map.{Plain}
use Rattle.sp_journal.specs.Maps.{at_key}
use Rattle.sp_journal.specs.declared.entry.Birth.{Birth}
use Rattle.sp_code.specs.System.{Condition}
use Rattle.sp_code.proofs.Queues.{number_or, at_same, at_other}
use Rattle.sp_verify_rules.specs.Apart.{AreApart}

-- only what each condition is matters
pub alike : (f h : ℕ → Condition Plain) (birth : ℕ → Option Birth) → ((r : ℕ) → f r ≡ h r) → AreApart f birth
    → AreApart h birth
alike f h birth same p = subst (λ (z : ℕ → Condition Plain). AreApart z birth) (λ i. λ r. same r i) p

-- a later condition stands
pub twice : (f : ℕ → Condition Plain) (q : ℕ) (x y : Condition Plain) (r : ℕ)
    → at_key ◌==◌ q y (at_key ◌==◌ q x f) r ≡ at_key ◌==◌ q y f r
twice f q x y r = go (q == r)
  where
    go : (t : Bool) → cond t y (cond t x (f r)) ≡ cond t y (f r)
    go true = refl
    go false = refl

pub same_put : (f : ℕ → Condition Plain) (q r : ℕ) → at_key ◌==◌ q (f q) f r ≡ f r
same_put f q r = go (number_or q r)
  where
    go : (q ≡ r) ⊎ ((q ≢ r) × ((q == r) ≡ false)) → at_key ◌==◌ q (f q) f r ≡ f r
    go (inl e) = subst (λ z. at_key ◌==◌ q (f q) f z ≡ f z) e (at_same f q (f q))
    go (inr d) = at_other f q r (f q) d.0
