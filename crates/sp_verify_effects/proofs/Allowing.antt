-- Allowances: what is within another one, what a child is handed, and what goes along an edge.
use Rattle.std.proofs.Common.{◌≡◌, ◌⊎◌, inl, inr, ⊎_elim, refl, ap, sym, ◌∙◌, subst, ℕ, ◌==◌, List, []}
use Rattle.std.proofs.Common.{Option, Some, None}
use Rattle.std.proofs.Common.{Bool, true, false, if◌then◌else◌, eqb-true}
use Rattle.std.specs.Prelude.{not}
use Rattle.std.specs.BTreeSet.{BTreeSet, IsSubset}
use Rattle.std.specs.Ordering.{nat_cmp}
use Rattle.std.proofs.lemmas.Bool.{not-true, or_cases}
use Rattle.std.proofs.lemmas.Option.{none-some, same_Some}
use Rattle.sp_base.proofs.Facts.{not_true_and_false}
use Rattle.sp_tree.specs.Interference.{IsMember}
use Rattle.sp_tree.proofs.Members.{member_front, member_back}
use Rattle.sp_code.specs.declared.code.ChildTable.{ChildTable}
use Rattle.sp_code.specs.declared.code.Layout.{Layout}
use Rattle.sp_verify_effects.specs.declared.allowance.Allowance.{Allowance}
use Rattle.sp_verify_effects.specs.declared.edges.Edge.{Edge}
use Rattle.sp_verify_effects.specs.declared.edges.Edge.TheVariants as edge
use Rattle.sp_verify_effects.specs.declared.facts.Fact.{Fact}
use Rattle.sp_verify_effects.specs.declared.facts.Effect.{Effect}
use Rattle.sp_verify_effects.specs.declared.facts.Effect.TheVariants as effect
use Rattle.sp_verify_effects.specs.Allowances.{Fits, FitsBlock, IsWithin, LetsAll, allows, is_let, loads_within}
use Rattle.sp_verify_effects.specs.Allowances.{stops_within, stores_within}
use Rattle.sp_verify_effects.specs.FactClosure.{Passes, fact_along, is_index}
use Rattle.sp_verify_effects.specs.Facts.{fact}
use Rattle.sp_verify_effects.specs.Sets.{has, with_all}
use Rattle.sp_verify_effects.proofs.Members.{all_in}

-- if the one is so, the other is
implied : (a b : Bool) → (not a ≡ true) ⊎ (b ≡ true) → a ≡ true → b ≡ true
implied a b (inl h) e = absurd (not_true_and_false a e (not-true a h))
implied a b (inr h) e = h

pub within_sets : (w v : Allowance) → stops_within w v ≡ true
    → LetsAll w.complement w.stored.keys v.complement v.stored.keys
    → LetsAll w.complement w.loaded.keys v.complement v.loaded.keys → IsWithin w v
within_sets w v t s l (effect.Stores x) h = s x h
within_sets w v t s l (effect.Loads x) h = l x h
within_sets w v t s l effect.Stops h = implied w.stops v.stops (or_cases (not w.stops) v.stops t) h

-- a set that is no complement has what it lets
set_has : (p : Bool) (ks : List ℕ) (x : ℕ) → p ≡ false → is_let p ks x ≡ true → has ks x ≡ true
set_has p ks x e h = sym (ap (λ (b : Bool). is_let b ks x) e) ∙ h

-- ---- a child

module _ (w : Allowance) (t : ChildTable) (m b : BTreeSet ℕ) (em : m.keys ≡ with_all [] t.moved)
    (eb : b.keys ≡ with_all m.keys t.shared) (plain : w.complement ≡ false) (stores : IsSubset nat_cmp w.stored m)
    (loads : IsSubset nat_cmp w.loaded b) where
  moved : (x : ℕ) → has m.keys x ≡ true → IsMember x t.moved
  moved x h = ⊎_elim (λ z. absurd (cc z)) (λ z. z) (all_in [] t.moved x (subst (λ ks. has ks x ≡ true) em h))

  pub fits_handed : Fits (Some w) t
  fits_handed (effect.Stores x) h = moved x (stores x (set_has w.complement w.stored.keys x plain h))
  fits_handed (effect.Loads x) h =
      ⊎_elim (λ z. member_front x t.moved t.shared (moved x z)) (λ z. member_back x t.moved t.shared z)
      (all_in m.keys t.shared x (subst (λ ks. has ks x ≡ true) eb
      (loads x (set_has w.complement w.loaded.keys x plain h))))
  fits_handed effect.Stops h = tt

-- ---- a block

module _ (w : Allowance) (l : Layout) (b : BTreeSet ℕ) (eb : b.keys ≡ with_all [] l.variables)
    (plain : w.complement ≡ false) (stops : w.stops ≡ false) (stores : IsSubset nat_cmp w.stored b)
    (loads : IsSubset nat_cmp w.loaded b) where
  among_own : (x : ℕ) → has b.keys x ≡ true → IsMember x l.variables
  among_own x h = ⊎_elim (λ z. absurd (cc z)) (λ z. z) (all_in [] l.variables x (subst (λ ks. has ks x ≡ true) eb h))

  pub fits_variables : FitsBlock (Some w) l
  fits_variables (effect.Stores x) h = among_own x (stores x (set_has w.complement w.stored.keys x plain h))
  fits_variables (effect.Loads x) h = among_own x (loads x (set_has w.complement w.loaded.keys x plain h))
  fits_variables effect.Stops h = not_true_and_false w.stops h stops

-- ---- an edge

-- what is done stays the same from a child to the area that starts it, and from a block to one that calls it
started_same : (n : ℕ) (index : Option ℕ) (own : Bool) (d : Effect) (g : Fact)
    → fact_along (edge.Started n index) own d ≡ Some g → g.effect ≡ d
started_same n index own (effect.Stores x) g h = ap (λ (z : Fact). z.effect) (sym
    (same_Some (fact n (effect.Stores x)) g h))
started_same n index own (effect.Loads x) g h = go (is_index index x) h
  where
    go : (b : Bool) → (if b then None else Some (fact n (effect.Loads x))) ≡ Some g → g.effect ≡ effect.Loads x
    go true z = absurd (none-some g z)
    go false z = ap (λ (y : Fact). y.effect) (sym (same_Some (fact n (effect.Loads x)) g z))
started_same n index own effect.Stops g h = ap (λ (z : Fact). z.effect) (sym (same_Some (fact n effect.Stops) g h))

called_same : (n : ℕ) (own : Bool) (d : Effect) (g : Fact) → fact_along (edge.Called n) own d ≡ Some g → g.effect ≡ d
called_same n true (effect.Stores x) g h = absurd (none-some g h)
called_same n false (effect.Stores x) g h = ap (λ (z : Fact). z.effect) (sym
    (same_Some (fact n (effect.Stores x)) g h))
called_same n true (effect.Loads x) g h = absurd (none-some g h)
called_same n false (effect.Loads x) g h = ap (λ (z : Fact). z.effect) (sym
    (same_Some (fact n (effect.Loads x)) g h))
called_same n own effect.Stops g h = ap (λ (z : Fact). z.effect) (sym (same_Some (fact n effect.Stops) g h))

module _ (w v : Allowance) where
  pub passes_started : {n : ℕ} {index : Option ℕ} (e : Edge) → e ≡ edge.Started n index → IsWithin w v
      → Passes (Some w) (Some v) e
  passes_started {n} {index} e is i = subst (Passes (Some w) (Some v)) (sym is)
      (λ own d g s h. subst (λ x. allows v x ≡ true) (sym (started_same n index own d g s)) (i d h))

  pub passes_called : {n : ℕ} (e : Edge) → e ≡ edge.Called n → IsWithin w v → Passes (Some w) (Some v) e
  passes_called {n} e is i = subst (Passes (Some w) (Some v)) (sym is)
      (λ own d g s h. subst (λ x. allows v x ≡ true) (sym (called_same n own d g s)) (i d h))

  passed : (n y x : ℕ) → stores_within w v y x ≡ true → loads_within w v y x ≡ true
      → Passes (Some w) (Some v) (edge.Passed n y x)
  passed n y x s l own (effect.Stores z) g e h = go (z == y) refl e
    where
      go : (b : Bool) → (z == y) ≡ b → (if b then Some (fact n (effect.Stores x)) else None) ≡ Some g
          → allows v g.effect ≡ true
      go true q e = subst (λ (f : Fact). allows v f.effect ≡ true) (same_Some (fact n (effect.Stores x)) g e)
          (implied (is_let w.complement w.stored.keys y) (is_let v.complement v.stored.keys x)
          (or_cases (not (is_let w.complement w.stored.keys y)) (is_let v.complement v.stored.keys x) s)
          (subst (λ k. is_let w.complement w.stored.keys k ≡ true) (eqb-true z y q) h))
      go false q e = absurd (none-some g e)
  passed n y x s l own (effect.Loads z) g e h = go (z == y) refl e
    where
      go : (b : Bool) → (z == y) ≡ b → (if b then Some (fact n (effect.Loads x)) else None) ≡ Some g
          → allows v g.effect ≡ true
      go true q e = subst (λ (f : Fact). allows v f.effect ≡ true) (same_Some (fact n (effect.Loads x)) g e)
          (implied (is_let w.complement w.loaded.keys y) (is_let v.complement v.loaded.keys x)
          (or_cases (not (is_let w.complement w.loaded.keys y)) (is_let v.complement v.loaded.keys x) l)
          (subst (λ k. is_let w.complement w.loaded.keys k ≡ true) (eqb-true z y q) h))
      go false q e = absurd (none-some g e)
  passed n y x s l own effect.Stops g e h = absurd (none-some g e)

  pub passes_passed : {n y x : ℕ} (e : Edge) → e ≡ edge.Passed n y x → stores_within w v y x ≡ true
      → loads_within w v y x ≡ true → Passes (Some w) (Some v) e
  passes_passed {n} {y} {x} e is s l = subst (Passes (Some w) (Some v)) (sym is) (passed n y x s l)
