-- Numbers, names and channels are told apart by their tests.
use Rattle.std.proofs.Common.{◌≡◌, true, ◌==◌, refl, ap, subst, eqb-true, eq-eqb, ◌≢◌, ◌⊎◌, inl, inr, ℕ}
use Rattle.std.proofs.Common.{Bool, false, sym, ◌∙◌}
use Rattle.std.proofs.lemmas.Bool.{and_from}
use Rattle.sp_base.proofs.Facts.{first_true, second_true}
use Rattle.sp_journal.proofs.NameLaws.{name_is, name_itself}
use Rattle.sp_meaning.specs.Maps.{IsTest}
use Rattle.sp_meaning.specs.Model.{Name, Channel, same_name, same_channel}

pub number_or : (a b : ℕ) → (a ≡ b) ⊎ (a ≢ b)
number_or a b = go (a == b) refl
  where
    go : (c : Bool) → a == b ≡ c → (a ≡ b) ⊎ (a ≢ b)
    go true e = inl (eqb-true a b e)
    go false e = inr (λ f. let x : false ≡ true = sym e ∙ eq-eqb a b f in absurd (cc x))

pub name_test : IsTest same_name
name_test p q = (name_is p q, name_same p q)
  where
    name_same : (p q : Name) → p ≡ q → same_name p q ≡ true
    name_same p q e = subst (λ z. same_name p z ≡ true) e (name_itself p)

pub channel_test : IsTest same_channel
channel_test a b = (
  λ h. let o : a.owner ≡ b.owner = (name_test a.owner b.owner).0
      (first_true (same_name a.owner b.owner) (a.nth == b.nth) h) in
      let n : a.nth ≡ b.nth = eqb-true a.nth b.nth (second_true (same_name a.owner b.owner) (a.nth == b.nth) h) in
      λ i. record { owner = o i; nth = n i },
  λ e. and_from (same_name a.owner b.owner) (a.nth == b.nth)
      ((name_test a.owner b.owner).1 (ap (λ (c : Channel). c.owner) e))
      (eq-eqb a.nth b.nth (ap (λ (c : Channel). c.nth) e)),
)
