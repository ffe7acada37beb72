-- Declarations one after the other: what is known before each one, and how noting it leads to the next.
use Rattle.std.proofs.Common.{◌≡◌, ◌⊎◌, inl, inr, ⊎_elim, refl, ap, sym, ◌∙◌, subst, ℕ, ◌+◌, ◌<◌, ◌≤◌, [], length}
use Rattle.std.proofs.Common.{Option, Some, None, Bool, true, false, cond, arith, eqb-true}
use Rattle.std.specs.Prelude.{slice_get, nat_lt}
use Rattle.std.specs.List.{list_any}
use Rattle.std.specs.Ordering.{nat_cmp, is_eq}
use Rattle.std.specs.BTreeSet.{BTreeSet, contains}
use Rattle.std.proofs.lemmas.Bool.{eq-eqb, lt-ltb, ltb-true, or_cases, or_left, or_right}
use Rattle.std.proofs.lemmas.Option.{slice_get_within, none-some, same_Some}
use Rattle.sp_base.proofs.Facts.{less_same_or_more, tie_is_equal}
use Rattle.sp_code.specs.declared.code.Layout.{Layout}
use Rattle.sp_code.specs.declared.code.ChildTable.{ChildTable}
use Rattle.sp_code.specs.declared.code.ForkTable.{ForkTable}
use Rattle.sp_code.specs.declared.code.Parts.{Parts}
use Rattle.sp_verify_rules.specs.Areas.{on_option, child_of}
use Rattle.sp_verify_rules.specs.NameRules.{Declared, InLayout, OfChild, IsBefore, declaration_at, declared_in}
use Rattle.sp_verify_rules.specs.NameRules.{declared_by}
use Rattle.sp_verify_rules.specs.NameRules.{DeclaredTwice, IsChild}
use Rattle.sp_verify_areas.specs.LeastPlaces.{IsLeast, earlier_of}
use Rattle.sp_verify_areas.specs.Twice.{IsDeclaredBefore, IsLate, IsLateBefore, SeenBefore, NotesVariable, is_late}
use Rattle.sp_verify_areas.proofs.Leasts.{least_of_same, both}

-- a variable is in the set after another one is put in, if it is that one or was in it
added_split : (a b : Bool) → cond a true b ≡ true → (a ≡ true) ⊎ (b ≡ true)
added_split true b e = inl refl
added_split false b e = inr e

added_left : (a b : Bool) → a ≡ true → cond a true b ≡ true
added_left true b e = refl
added_left false b e = absurd (cc e)

added_right : (a b : Bool) → b ≡ true → cond a true b ≡ true
added_right true b e = refl
added_right false b e = e

module _ (c : Parts) where
  -- what is declared before the one is declared before the other
  abbrev Precedes : Declared → Declared → Type 0
  Precedes d n = (f : Declared) (x q : ℕ) → declaration_at c f ≡ Some (x, q) → IsBefore f d → IsBefore f n

  -- nothing is declared from the one to the other
  pub moves : (d n : Declared) (s : BTreeSet ℕ) (o : Option ℕ) → Precedes d n → Precedes n d → SeenBefore c d s o
      → SeenBefore c n s o
  moves d n s o to back k = record {
    has = has;
    just = just;
    lowest = least_of_same (IsLateBefore c d) (IsLateBefore c n) o up
        down k.lowest;
  }
    where
      has : (x : ℕ) → IsDeclaredBefore c n x → contains nat_cmp s x ≡ true
      has x (e, q, b, h) = k.has x (e, q, back e x q h b, h)

      just : (x : ℕ) → contains nat_cmp s x ≡ true → IsDeclaredBefore c n x
      just x i = let (e, q, earlier, declares) = k.just x i in (e, q, to e x q declares earlier, declares)

      up : (p : ℕ) → IsLateBefore c d p → IsLateBefore c n p
      up p (e, b, l) = (e, to e l.0 p l.1 b, l)

      down : (p : ℕ) → IsLateBefore c n p → IsLateBefore c d p
      down p (e, b, l) = (e, back e l.0 p l.1 b, l)

  -- one is the next one
  pub record IsNextDeclared (d n : Declared) : Type 0 where
    pub split : (f : Declared) → IsBefore f n → IsBefore f d ⊎ (f ≡ d)
    pub before : (f : Declared) → IsBefore f d → IsBefore f n
    pub itself : IsBefore d n

  pub next_layout : (j k : ℕ) → IsNextDeclared (InLayout j k) (InLayout j (k + 1))
  next_layout j k = record { split = split; before = before; itself = inr (refl, omega arith) }
    where
      at : (a b : ℕ) → a ≡ j → b < k + 1 → IsBefore (InLayout a b) (InLayout j k) ⊎ (InLayout a b ≡ InLayout j k)
      at a b e l = ⊎_elim (λ h. inl (inr (e, h))) (λ z. ⊎_elim (λ s. inr (λ i. InLayout (e i) (s i)))
          (λ h. absurd (omega (arith, h, l))) z) (less_same_or_more b k)

      split : (f : Declared) → IsBefore f (InLayout j (k + 1)) → IsBefore f (InLayout j k) ⊎ (f ≡ InLayout j k)
      split (InLayout a b) (inl h) = inl (inl h)
      split (InLayout a b) (inr h) = at a b h.0 h.1
      split (OfChild t b) h = absurd h

      before : (f : Declared) → IsBefore f (InLayout j k) → IsBefore f (InLayout j (k + 1))
      before (InLayout a b) (inl h) = inl h
      before (InLayout a b) (inr h) = inr (h.0, (let l = h.1 in omega (arith, l)))
      before (OfChild t b) h = absurd h

  pub next_child : (t k : ℕ) → IsNextDeclared (OfChild t k) (OfChild t (k + 1))
  next_child t k = record { split = split; before = before; itself = inr (refl, omega arith) }
    where
      at : (a b : ℕ) → a ≡ t → b < k + 1 → IsBefore (OfChild a b) (OfChild t k) ⊎ (OfChild a b ≡ OfChild t k)
      at a b e l = ⊎_elim (λ h. inl (inr (e, h))) (λ z. ⊎_elim (λ s. inr (λ i. OfChild (e i) (s i)))
          (λ h. absurd (omega (arith, h, l))) z) (less_same_or_more b k)

      split : (f : Declared) → IsBefore f (OfChild t (k + 1)) → IsBefore f (OfChild t k) ⊎ (f ≡ OfChild t k)
      split (InLayout a b) h = inl tt
      split (OfChild a b) (inl h) = inl (inl h)
      split (OfChild a b) (inr h) = at a b h.0 h.1

      before : (f : Declared) → IsBefore f (OfChild t k) → IsBefore f (OfChild t (k + 1))
      before (InLayout a b) h = tt
      before (OfChild a b) (inl h) = inl h
      before (OfChild a b) (inr h) = inr (h.0, (let l = h.1 in omega (arith, l)))

  -- one that declares nothing is passed
  pub passes : (d n : Declared) (s : BTreeSet ℕ) (o : Option ℕ) → IsNextDeclared d n → declaration_at c d ≡ None
      → SeenBefore c d s o
      → SeenBefore c n s o
  passes d n s o next e k = moves d n s o (λ f x q h b. next.before f b) back k
    where
      back : Precedes n d
      back f x q h b = ⊎_elim (λ z. z)
          (λ (z : f ≡ d). absurd (none-some (x, q) (sym e ∙ ap (declaration_at c) (sym z) ∙ h)))
          (next.split f b)

  -- and one that declares a variable is noted
  module _ (d n : Declared) (next : IsNextDeclared d n) (s t : BTreeSet ℕ) (o w : Option ℕ) (x p : ℕ)
      (is : declaration_at c d ≡ Some
      (x, p)) (k : SeenBefore c d s o) (note : NotesVariable s t o w x p) where
    is_number : (y q : ℕ) → declaration_at c d ≡ Some (y, q) → x ≡ y
    is_number y q h = ap (λ (z : ℕ × ℕ). z.0) (same_Some (x, p) (y, q) (sym is ∙ h))

    is_place : (y q : ℕ) → declaration_at c d ≡ Some (y, q) → p ≡ q
    is_place y q h = ap (λ (z : ℕ × ℕ). z.1) (same_Some (x, p) (y, q) (sym is ∙ h))

    has : (y : ℕ) → IsDeclaredBefore c n y → contains nat_cmp t y ≡ true
    has y (e, q, b, h) = ⊎_elim
        (λ z. note.added y ∙ added_right (is_eq (nat_cmp x y)) (contains nat_cmp s y) (k.has y (e, q, z, h)))
        (λ (z : e ≡ d). note.added y ∙ added_left (is_eq (nat_cmp x y)) (contains nat_cmp s y) (tie_is_equal x y
        ∙ eq-eqb y x (sym (is_number y q (ap (declaration_at c) (sym z) ∙ h)))))
        (next.split e b)

    just : (y : ℕ) → contains nat_cmp t y ≡ true → IsDeclaredBefore c n y
    just y i = ⊎_elim
        (λ z. let u : y ≡ x = eqb-true y x (sym (tie_is_equal x y) ∙ z) in (
          d,
          p,
          next.itself,
          is ∙ ap (λ v. Some (v, p))
              (sym u),
        ))
        (λ z. let (e, q, earlier, declares) = k.just y z in (e, q, next.before e earlier, declares))
        (added_split (is_eq (nat_cmp x y)) (contains nat_cmp s y) (sym (note.added y) ∙ i))

    is_so : (q : ℕ) → (p ≡ q) × (is_late s x ≡ true) → IsLate c d q
    is_so q h = (
      x,
      is ∙ ap (λ v. Some (x, v)) h.0,
      ⊎_elim (λ z. inl (ltb-true x 2 z)) (λ z. inr (k.just x z))
          (or_cases (nat_lt x 2) (contains nat_cmp s x) h.1),
    )

    so_is : (q : ℕ) → IsLate c d q → (p ≡ q) × (is_late s x ≡ true)
    so_is q (y, h, z) = (
      is_place y q h,
      ⊎_elim
          (λ (l : y < 2). or_left (nat_lt x 2) (contains nat_cmp s x) (lt-ltb x 2 (subst (λ v. v < 2)
          (sym (is_number y q h)) l)))
          (λ (b : IsDeclaredBefore c d y). or_right (nat_lt x 2) (contains nat_cmp s x)
          (k.has x (subst (IsDeclaredBefore c d) (sym (is_number y q h)) b)))
          z,
    )

    up : (q : ℕ) → IsLateBefore c d q ⊎ ((p ≡ q) × (is_late s x ≡ true)) → IsLateBefore c n q
    up q (inl h) = (h.0, next.before h.0 h.1, h.2)
    up q (inr h) = (d, next.itself, is_so q h)

    down : (q : ℕ) → IsLateBefore c n q → IsLateBefore c d q ⊎ ((p ≡ q) × (is_late s x ≡ true))
    down q (e, b, l) = ⊎_elim (λ z. inl (e, z, l)) (λ (z : e ≡ d). inr (so_is q (subst (λ f. IsLate c f q) z l)))
        (next.split e b)

    pub noted : SeenBefore c n t w
    noted = record {
      has = has;
      just = just;
      lowest = subst (IsLeast (IsLateBefore c n)) (sym note.now_is)
          (least_of_same (λ q. IsLateBefore c d q ⊎ ((p ≡ q) × (is_late s x ≡ true))) (IsLateBefore c n)
          (earlier_of o note.here) up
          down
          (both (IsLateBefore c d) (λ q. (p ≡ q) × (is_late s x ≡ true)) o note.here k.lowest note.late));
    }

  -- ---- from one layout or table to the next, and at the end

  in_layout : (j k x q : ℕ) (l : Layout) → slice_get c.layouts j ≡ Some l → declaration_at c (InLayout j k)
      ≡ Some (x, q)
      → k < length l.variables
  in_layout j k x q l e h = go (slice_get l.variables k) refl (sym (ap (λ (o : Option Layout). declared_in o k) e) ∙ h)
    where
      go : (o : Option ℕ) → slice_get l.variables k ≡ o → on_option {B = Option (ℕ × ℕ)} None o
          (λ y. Some (y, l.entry)) ≡
          Some (x, q) → k < length l.variables
      go None s z = absurd (none-some (x, q) z)
      go (Some y) s z = slice_get_within l.variables k y s

  a_layout : (j k x q : ℕ) → declaration_at c (InLayout j k) ≡ Some (x, q) → j < length c.layouts
  a_layout j k x q h = go (slice_get c.layouts j) refl h
    where
      go : (o : Option Layout) → slice_get c.layouts j ≡ o → declared_in o k ≡ Some (x, q) → j < length c.layouts
      go None s z = absurd (none-some (x, q) z)
      go (Some l) s z = slice_get_within c.layouts j l s

  in_table : (t k x q : ℕ) (tb : ForkTable) → slice_get c.forks t ≡ Some tb → declaration_at c (OfChild t k)
      ≡ Some (x, q)
      → k < length tb.children
  in_table t k x q tb e h = go (slice_get tb.children k) refl (sym (ap (λ (o : Option ForkTable). declared_by
      (child_of o k)) e) ∙ h)
    where
      go : (o : Option ChildTable) → slice_get tb.children k ≡ o → declared_by o ≡ Some (x, q) → k < length tb.children
      go None s z = absurd (none-some (x, q) z)
      go (Some ch) s z = slice_get_within tb.children k ch s

  a_table : (t k x q : ℕ) → declaration_at c (OfChild t k) ≡ Some (x, q) → t < length c.forks
  a_table t k x q h = go (slice_get c.forks t) refl h
    where
      go : (o : Option ForkTable) → slice_get c.forks t ≡ o → declared_by (child_of o k) ≡ Some (x, q)
          → t < length c.forks
      go None s z = absurd (none-some (x, q) z)
      go (Some tb) s z = slice_get_within c.forks t tb s

  pub layout_ends : (j k : ℕ) (l : Layout) (s : BTreeSet ℕ) (o : Option ℕ) → slice_get c.layouts j ≡ Some l
      → length l.variables ≤ k → SeenBefore c (InLayout j k) s o → SeenBefore c (InLayout (j + 1) 0) s o
  layout_ends j k l s o e h = moves (InLayout j k) (InLayout (j + 1) 0) s o to back
    where
      to : Precedes (InLayout j k) (InLayout (j + 1) 0)
      to (InLayout a b) x q d (inl z) = inl (omega (arith, z))
      to (InLayout a b) x q d (inr z) = inl (let u = z.0 in omega (arith, u))
      to (OfChild t b) x q d z = absurd z

      back : Precedes (InLayout (j + 1) 0) (InLayout j k)
      back (InLayout a b) x q d (inl z) = ⊎_elim (λ y. inl y)
          (λ y. ⊎_elim (λ (u : a ≡ j). inr (
            u,
            (let i = in_layout j b x q l e (subst (λ v. declaration_at c (InLayout v b) ≡
                Some (x, q)) u d) in omega (arith, i, h)),
          )) (λ y. absurd (omega (arith, y, z))) y) (less_same_or_more a j)
      back (InLayout a b) x q d (inr z) = absurd (let u = z.1 in omega (arith, u))
      back (OfChild t b) x q d z = absurd z

  pub layouts_end : (n : ℕ) (s : BTreeSet ℕ) (o : Option ℕ) → length c.layouts ≤ n → SeenBefore c (InLayout n 0) s o
      → SeenBefore c (OfChild 0 0) s o
  layouts_end n s o h = moves (InLayout n 0) (OfChild 0 0) s o to back
    where
      to : Precedes (InLayout n 0) (OfChild 0 0)
      to (InLayout a b) x q d z = tt
      to (OfChild t b) x q d z = absurd z

      back : Precedes (OfChild 0 0) (InLayout n 0)
      back (InLayout a b) x q d z = inl (let i = a_layout a b x q d in omega (arith, i, h))
      back (OfChild t b) x q d (inl z) = absurd (omega (arith, z))
      back (OfChild t b) x q d (inr z) = absurd (let u = z.1 in omega (arith, u))

  pub table_ends : (t k : ℕ) (tb : ForkTable) (s : BTreeSet ℕ) (o : Option ℕ) → slice_get c.forks t ≡ Some tb
      → length tb.children ≤ k → SeenBefore c (OfChild t k) s o → SeenBefore c (OfChild (t + 1) 0) s o
  table_ends t k tb s o e h = moves (OfChild t k) (OfChild (t + 1) 0) s o to back
    where
      to : Precedes (OfChild t k) (OfChild (t + 1) 0)
      to (InLayout a b) x q d z = tt
      to (OfChild a b) x q d (inl z) = inl (omega (arith, z))
      to (OfChild a b) x q d (inr z) = inl (let u = z.0 in omega (arith, u))

      back : Precedes (OfChild (t + 1) 0) (OfChild t k)
      back (InLayout a b) x q d z = tt
      back (OfChild a b) x q d (inl z) = ⊎_elim (λ y. inl y)
          (λ y. ⊎_elim (λ (u : a ≡ t). inr (
            u,
            (let i = in_table t b x q tb e (subst (λ v. declaration_at c (OfChild v b) ≡
                Some (x, q)) u d) in omega (arith, i, h)),
          )) (λ y. absurd (omega (arith, y, z))) y) (less_same_or_more a t)
      back (OfChild a b) x q d (inr z) = absurd (let u = z.1 in omega (arith, u))

  -- before the first one nothing is known
  pub begins : (s : BTreeSet ℕ) → s.keys ≡ [] → SeenBefore c (InLayout 0 0) s None
  begins s e = record {
    has = λ x h. absurd (nothing h.0 h.2);
    just = λ x i. absurd (empty x i);
    lowest = λ p h. nothing
        h.0 h.1;
  }
    where
      nothing : (f : Declared) → IsBefore f (InLayout 0 0) → ⊥
      nothing (InLayout a b) (inl z) = omega (arith, z)
      nothing (InLayout a b) (inr z) = let u = z.1 in omega (arith, u)
      nothing (OfChild t b) z = z

      empty : (x : ℕ) → contains nat_cmp s x ≡ true → ⊥
      empty x i = let z = sym (ap (list_any (λ j. is_eq (nat_cmp x j))) e) ∙ i in cc (z)

  -- behind the last one all is known
  pub ends : (n : ℕ) (s : BTreeSet ℕ) (o : Option ℕ) → length c.forks ≤ n → SeenBefore c (OfChild n 0) s o
      → IsLeast (DeclaredTwice c) o
  ends n s o h k = least_of_same (IsLateBefore c (OfChild n 0)) (DeclaredTwice c) o
      (λ p (d, _, (x, declares, late)). (d, x, declares, late)) down
      k.lowest
    where
      before : (d : Declared) (x q : ℕ) → declaration_at c d ≡ Some (x, q) → IsBefore d (OfChild n 0)
      before (InLayout a b) x q e = tt
      before (OfChild a b) x q e = inl (let i = a_table a b x q e in omega (arith, i, h))

      down : (p : ℕ) → DeclaredTwice c p → IsLateBefore c (OfChild n 0) p
      down p (d, x, declares, late) = (d, before d x p declares, (x, declares, late))

  -- ---- what the code of a pass gives

  pub variable_of : (j k x : ℕ) (l : Layout) → slice_get c.layouts j ≡ Some l → slice_get l.variables k ≡ Some x
      → declaration_at c (InLayout j k) ≡ Some (x, l.entry)
  variable_of j k x l e h = ap (λ (o : Option Layout). declared_in o k) e ∙ ap (λ (o : Option ℕ). on_option {B = Option
      (ℕ × ℕ)} None o (λ y. Some (y, l.entry))) h

  pub index_of : (t k : ℕ) (ch : ChildTable) (o : Option ℕ) → IsChild c t k ch → ch.index ≡ o
      → declaration_at c (OfChild t k)
      ≡ on_option {B = Option (ℕ × ℕ)} None o (λ x. Some (x, ch.entry))
  index_of t k ch o e h = ap declared_by e ∙ ap (λ (z : Option ℕ). on_option {B = Option (ℕ × ℕ)} None z
      (λ x. Some (x, ch.entry))) h
