-- What is found from what was found before, and what is broken on the way: it is the first of all these.
use Rattle.std.proofs.Common.{◌≡◌, ◌⊎◌, inl, inr, Bool, true, false, Some, None, refl, sym}
use Rattle.std.proofs.Common.{ap, ◌∙◌, subst, if◌then◌else◌}
use Rattle.std.specs.Ordering.{ordering_reverse, is_lt, is_gt}
use Rattle.std.specs.declared.cmp.Ordering.{Ordering}
use Rattle.std.specs.declared.cmp.Ordering.TheVariants.{Less, Equal, Greater}
use Rattle.std.proofs.lemmas.Cmp.{upto, tied_itself}
use Rattle.std.proofs.lemmas.Option.{same_Some}
use Rattle.sp_base.specs.declared.halt.Refusal.{Refusal}
use Rattle.sp_tree.specs.First.{refusal_cmp, refusal_before}
use Rattle.sp_tree.specs.PhaseResults.{FirstRefusal, earlier_refusal}
use Rattle.sp_tree.proofs.RefusalOrder.{refusal_total}

turned : (o : Ordering) → is_lt o ≡ is_gt (ordering_reverse o)
turned Less = refl
turned Equal = refl
turned Greater = refl

-- x is not before y where y is not behind x
behind : (x y : Refusal) → refusal_before x y ≡ is_gt (refusal_cmp y x)
behind x y = turned (refusal_cmp x y) ∙ ap is_gt (sym (refusal_total.antisymm y x))

pub not_itself : (x : Refusal) → refusal_before x x ≡ false
not_itself x = ap is_lt (tied_itself refusal_total x)

pub not_before : (x y z : Refusal) → refusal_before x y ≡ false → refusal_before y z ≡ false
    → refusal_before x z ≡ false
not_before x y z p q = behind x z ∙ upto refusal_total z y x (sym (behind y z) ∙ q) (sym (behind x y) ∙ p)

not_both : (o : Ordering) → is_lt o ≡ true → is_lt (ordering_reverse o) ≡ false
not_both Less p = refl
not_both Equal p = absurd (cc p)
not_both Greater p = absurd (cc p)

pub not_back : (x y : Refusal) → refusal_before x y ≡ true → refusal_before y x ≡ false
not_back x y p = ap is_lt (refusal_total.antisymm y x) ∙ not_both (refusal_cmp x y) p

-- f finds the first of what was found before and of all P
pub record Finds (f : FirstRefusal → FirstRefusal) (P : Refusal → Type 0) : Type 0 where
  pub among : (g : FirstRefusal) (r : Refusal) → f g ≡ Some r → (g ≡ Some r) ⊎ P r
  pub least : (g : FirstRefusal) (x : Refusal) → (g ≡ Some x) ⊎ P x → (r : Refusal) × (f g ≡ Some r)
      × (refusal_before x r ≡ false)

pub finds_none : Finds (λ g. g) (λ r. ⊥)
finds_none = record {
  among = λ g r e. inl e;
  least = λ g x h. go g x h;
}
  where
    go : (g : FirstRefusal) (x : Refusal) → (g ≡ Some x) ⊎ ⊥ → (r : Refusal) × (g ≡ Some r)
        × (refusal_before x r ≡ false)
    go g x (inl e) = (x, e, not_itself x)
    go g x (inr h) = absurd h

pub finds_both : {f h : FirstRefusal → FirstRefusal} {P Q : Refusal → Type 0} → Finds f P → Finds h Q
    → Finds (λ g. h (f g)) (λ r. P r ⊎ Q r)
finds_both {f = f} {h = h} {P = P} {Q = Q} a b = record {
  among = λ g r e. first g r (b.among (f g) r e);
  least = λ g x e. last g x e;
}
  where
    first : (g : FirstRefusal) (r : Refusal) → (f g ≡ Some r) ⊎ Q r → (g ≡ Some r) ⊎ (P r ⊎ Q r)
    first g r (inl e) = go (a.among g r e)
      where
        go : (g ≡ Some r) ⊎ P r → (g ≡ Some r) ⊎ (P r ⊎ Q r)
        go (inl e) = inl e
        go (inr p) = inr (inl p)
    first g r (inr q) = inr (inr q)

    through : (g : FirstRefusal) (x : Refusal) → (r : Refusal) × (f g ≡ Some r) × (refusal_before x r ≡ false)
        → (r : Refusal)
        × (h (f g) ≡ Some r) × (refusal_before x r ≡ false)
    through g x (r, e, n) = let s = b.least (f g) r (inl e) in (s.0, s.1, not_before x r s.0 n s.2)

    last : (g : FirstRefusal) (x : Refusal) → (g ≡ Some x) ⊎ (P x ⊎ Q x) → (r : Refusal) × (h (f g) ≡ Some r)
        × (refusal_before x r ≡ false)
    last g x (inl e) = through g x (a.least g x (inl e))
    last g x (inr (inl p)) = through g x (a.least g x (inr p))
    last g x (inr (inr q)) = b.least (f g) x (inr q)

-- the same of what means the same
pub finds_as : {f h : FirstRefusal → FirstRefusal} {P Q : Refusal → Type 0} → ((g : FirstRefusal) → h g ≡ f g)
    → ((r : Refusal) → P r → Q r)
    → ((r : Refusal) → Q r → P r) → Finds f P → Finds h Q
finds_as {f = f} {h = h} {P = P} {Q = Q} same to from a = record {
  among = λ g r e. first g r (a.among g r (sym (same g) ∙ e));
  least = λ g x e. let s = a.least g x (back g x e) in (s.0, same g ∙ s.1, s.2);
}
  where
    first : (g : FirstRefusal) (r : Refusal) → (g ≡ Some r) ⊎ P r → (g ≡ Some r) ⊎ Q r
    first g r (inl e) = inl e
    first g r (inr p) = inr (to r p)

    back : (g : FirstRefusal) (x : Refusal) → (g ≡ Some x) ⊎ Q x → (g ≡ Some x) ⊎ P x
    back g x (inl e) = inl e
    back g x (inr q) = inr (from x q)

-- at one node
pub finds_one : (found : FirstRefusal) → Finds (λ g. earlier_refusal g found) (λ r. found ≡ Some r)
finds_one None = record {
  among = λ g r e. inl (sym (plain g) ∙ e);
  least = λ g x h. go g x h;
}
  where
    plain : (g : FirstRefusal) → earlier_refusal g None ≡ g
    plain None = refl
    plain (Some x) = refl

    go : (g : FirstRefusal) (x : Refusal) → (g ≡ Some x) ⊎ (None ≡ Some x) → (r : Refusal)
        × (earlier_refusal g None ≡ Some r)
        × (refusal_before x r ≡ false)
    go g x (inl e) = (x, plain g ∙ e, not_itself x)
    go g x (inr e) = absurd (cc e)
finds_one (Some y) = record {
  among = λ g r e. first g r e;
  least = λ g x h. last g x h;
}
  where
    by : (z r : Refusal) (b : Bool) → (if b then Some y else Some z) ≡ Some r → (Some z ≡ Some r) ⊎ (Some y ≡ Some r)
    by z r true e = inr e
    by z r false e = inl e

    first : (g : FirstRefusal) (r : Refusal) → earlier_refusal g (Some y) ≡ Some r → (g ≡ Some r) ⊎ (Some y ≡ Some r)
    first None r e = inr e
    first (Some z) r e = by z r (refusal_before y z) e

    pick : (z x : Refusal) (b : Bool) → refusal_before y z ≡ b → (Some z ≡ Some x) ⊎ (Some y ≡ Some x) → (r : Refusal)
        × ((if b then Some y else Some z) ≡ Some r) × (refusal_before x r ≡ false)
    pick z x true e (inl h) = (y, refl, subst (λ w. refusal_before w y ≡ false) (same_Some z x h) (not_back y z e))
    pick z x true e (inr h) = (y, refl, subst (λ w. refusal_before w y ≡ false) (same_Some y x h) (not_itself y))
    pick z x false e (inl h) = (z, refl, subst (λ w. refusal_before w z ≡ false) (same_Some z x h) (not_itself z))
    pick z x false e (inr h) = (z, refl, subst (λ w. refusal_before w z ≡ false) (same_Some y x h) e)

    last : (g : FirstRefusal) (x : Refusal) → (g ≡ Some x) ⊎ (Some y ≡ Some x) → (r : Refusal)
        × (earlier_refusal g (Some y) ≡ Some r)
        × (refusal_before x r ≡ false)
    last None x (inl h) = absurd (cc h)
    last None x (inr h) = (y, refl, subst (λ w. refusal_before w y ≡ false) (same_Some y x h) (not_itself y))
    last (Some z) x h = pick z x (refusal_before y z) refl h
