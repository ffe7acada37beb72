-- What is among the variables of blocks, and what goes out of them.
use Rattle.std.proofs.Common.{◌≡◌, ◌≢◌, ◌⊎◌, inl, inr, ⊎_elim, refl, sym, ap, subst, ◌∙◌, ℕ, zero, suc, ◌≤◌, ◌==◌}
use Rattle.std.proofs.Common.{List, [], ◌∷◌, Option, Some, Bool, true, false, ◌&&◌, if◌then◌else◌, arith, eqb-true}
use Rattle.std.specs.Prelude.{not, nat_le, slice_get}
use Rattle.std.proofs.lemmas.Bool.{le-leb, eq-eqb, and_from, and_parts, cases_eq, false_from_ne_true, not-true}
use Rattle.std.proofs.lemmas.Bool.{not_from_false, or_cases, or_left, or_right}
use Rattle.std.proofs.lemmas.Option.{none-some, same_Some}
use Rattle.sp_base.proofs.Facts.{not_true_and_false}
use Rattle.sp_tree.specs.Interference.{IsMember}
use Rattle.sp_code.specs.declared.code.Layout.{Layout}
use Rattle.sp_code.specs.declared.code.Parts.{Parts}
use Rattle.sp_code.specs.Machine.{layout_of}
use Rattle.sp_verify_rules.specs.Areas.{Area, Body, entry, entry_of_layout}
use Rattle.sp_verify_rules.specs.NameRules.{BreaksV1, BlocksApart, InTwo, LiesIn}
use Rattle.sp_verify_rules.specs.Reach.{IsArea}
use Rattle.sp_verify_areas.specs.LeastPlaces.{IsLeast}
use Rattle.sp_verify_areas.proofs.Leasts.{least_of_same}
use Rattle.sp_verify_areas.proofs.OwnerClosure.{layout_in}
use Rattle.sp_verify_effects.specs.Variables.{AreOwn, LayoutDoes, goes_out, owns}

-- ---- layouts

-- the place of a layout, if it does something
pub one_layout : (Does : ℕ → Layout → Type 0) (ls : List Layout) (j : ℕ) (l : Layout) (b : Bool) (o : Option ℕ)
    → slice_get ls j ≡ Some l
    → (b ≡ true → Does j l) → (Does j l → b ≡ true) → IsLeast (λ p. (l.entry ≡ p) × (b ≡ true)) o
    → IsLeast (LayoutDoes Does ls j) o
one_layout Does ls j l b o is f g = least_of_same (λ p. (l.entry ≡ p)
    × (b ≡ true)) (LayoutDoes Does ls j) o (λ p h. (l, is, h.0, f h.1)) back
  where
    at : (p : ℕ) (m : Layout) → m ≡ l → m.entry ≡ p → Does j m → (l.entry ≡ p) × (b ≡ true)
    at p m i h d = (sym (ap (λ (z : Layout). z.entry) i) ∙ h, g (subst (Does j) i d))

    back : (p : ℕ) → LayoutDoes Does ls j p → (l.entry ≡ p) × (b ≡ true)
    back p (m, k, h, d) = at p m (same_Some m l (sym k ∙ is)) h d

-- the first layout of a block
first_of : (ls : List Layout) (j : ℕ) (l : Layout) → slice_get ls j ≡ Some l → (k : ℕ) × (m : Layout)
    × (slice_get ls k ≡ Some m) × (m.block ≡ l.block) × (layout_of ls l.block ≡ Some m)
first_of [] j l e = absurd (none-some l e)
first_of (m ∷ ls) zero l e = go (same_Some m l e)
  where
    go : m ≡ l → (k : ℕ) × (n : Layout) × (slice_get (m ∷ ls) k ≡ Some n) × (n.block ≡ l.block)
        × (layout_of (m ∷ ls) l.block ≡ Some n)
    go s = (
      zero,
      m,
      refl,
      ap (λ (z : Layout). z.block) s,
      ap (λ b. if b then Some m else layout_of ls l.block)
          (eq-eqb m.block l.block (ap (λ (z : Layout). z.block) s)),
    )
first_of (m ∷ ls) (suc j) l e = go (m.block == l.block) refl (first_of ls j l e)
  where
    go : (b : Bool) → m.block == l.block ≡ b → (k : ℕ) × (n : Layout) × (slice_get ls k ≡ Some n) × (n.block ≡ l.block)
        × (layout_of ls l.block ≡ Some n)
        → (k : ℕ) × (n : Layout) × (slice_get (m ∷ ls) k ≡ Some n) × (n.block ≡ l.block)
        × (layout_of (m ∷ ls) l.block ≡ Some n)
    go true t r = (zero, m, refl, eqb-true m.block l.block t, ap (λ b. if b then Some m else layout_of ls l.block) t)
    go false t r =
        let (k, n, there, same_block, found) = r in
        (suc k, n, there, same_block, ap (λ b. if b then Some m else layout_of ls l.block) t ∙ found)

module _ (c : Parts) (kept : (p : ℕ) → BreaksV1 c p → ⊥) where
  -- where blocks differ, it is that layout
  pub layout_here : (j : ℕ) (l : Layout) → slice_get c.layouts j ≡ Some l → layout_of c.layouts l.block ≡ Some l
  layout_here j l e = go (first_of c.layouts j l e)
    where
      go : (k : ℕ) × (m : Layout) × (slice_get c.layouts k ≡ Some m) × (m.block ≡ l.block)
          × (layout_of c.layouts l.block ≡ Some m) → layout_of c.layouts l.block ≡ Some l
      go (k, m, is, b, f) = at (k == j) refl
        where
          at : (t : Bool) → k == j ≡ t → layout_of c.layouts l.block ≡ Some l
          at true t = f ∙ sym (sym e ∙ ap (slice_get c.layouts) (sym (eqb-true k j t)) ∙ is)
          at false t = absurd (kept l.entry
              (BlocksApart (j, l, e, refl, inl (k, m, is, (λ s. not_true_and_false (k == j) (eq-eqb k j s) t), b))))

  pub begins : (a : Area) → IsArea c a → LiesIn c (entry c a) a
  begins a i = (i, record { steps = 0; way = refl })

  -- two layouts that begin at one instruction are one
  same_layout : (f j : ℕ) (l m : Layout) → layout_of c.layouts f ≡ Some l → slice_get c.layouts j ≡ Some m
      → l.entry ≡ m.entry → m ≡ l
  same_layout f j l m e g s = go (cases_eq m.block f)
    where
      first : layout_of c.layouts m.block ≡ Some m
      first = layout_here j m g

      here : entry c (Body m.block) ≡ entry c (Body f)
      here = ap entry_of_layout first ∙ sym s ∙ sym (ap entry_of_layout e)

      go : (m.block ≡ f) ⊎ (m.block ≢ f) → m ≡ l
      go (inl b) = same_Some m l (sym first ∙ ap (layout_of c.layouts) b ∙ e)
      go (inr d) = absurd (kept (entry c (Body f)) (InTwo (
        Body m.block,
        subst (λ p. LiesIn c p (Body m.block)) here (begins (Body m.block) (m, first)),
        inl (Body f, begins (Body f) (l, e), (λ (z : Body m.block ≡ Body f). let b : m.block ≡ f = cc (z) in d b)),
      )))

  -- ---- the variables of a block

  module _ (ks : List (ℕ × ℕ)) (own : AreOwn c ks) (f : ℕ) (l : Layout) (is : layout_of c.layouts f ≡ Some l) where
    pub own_in : (x : ℕ) → owns ks l.entry x ≡ true → IsMember x l.variables
    own_in x h =
        let (j, m, there, (same_entry, among)) = (own (l.entry, x)).0 h in
        subst (λ (z : Layout). IsMember x z.variables) (same_layout f j l m is there same_entry) among

    pub in_own : (x : ℕ) → IsMember x l.variables → owns ks l.entry x ≡ true
    in_own x h = let j = layout_in c.layouts f l is in (own (l.entry, x)).1
        (j.0, l, j.1, (refl, h))

    -- what goes out, from a number on
    pub out_is : (n : ℕ) (xs : List ℕ) → goes_out ks l.entry n xs ≡ true → (x : ℕ) × IsMember x xs × (n ≤ x)
        × (IsMember x l.variables → ⊥)
    out_is n [] e = absurd (cc e)
    out_is n (x ∷ xs) e =
        ⊎_elim
        (λ h. let b = and_parts (nat_le n x) (not (owns ks l.entry x)) h in (
          x,
          inl refl,
          (let g = b.0 in Prim.grind (arith, g)),
          λ m. not_true_and_false (owns ks l.entry x) (in_own x m) (not-true (owns ks l.entry x) b.1),
        ))
        (λ h. let (y, among, at_least, outside) = out_is n xs h in (y, inr among, at_least, outside))
        (or_cases (nat_le n x && not (owns ks l.entry x)) (goes_out ks l.entry n xs) e)

    pub out_from : (n : ℕ) (xs : List ℕ) (x : ℕ) → IsMember x xs → n ≤ x → (IsMember x l.variables → ⊥)
        → goes_out ks l.entry n xs ≡ true
    out_from n [] x h k g = absurd h
    out_from n (y ∷ ys) x (inl i) k g =
        or_left (nat_le n y && not (owns ks l.entry y)) (goes_out ks l.entry n ys)
        (subst (λ z. (nat_le n z && not (owns ks l.entry z)) ≡ true) i
        (and_from (nat_le n x) (not (owns ks l.entry x)) (le-leb n x k)
        (not_from_false (owns ks l.entry x) (false_from_ne_true (owns ks l.entry x) (λ e. g (own_in x e))))))
    out_from n (y ∷ ys) x (inr h) k g = or_right (nat_le n y && not (owns ks l.entry y)) (goes_out ks l.entry n ys)
        (out_from n ys x h k g)
