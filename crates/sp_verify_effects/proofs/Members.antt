-- What is in ordered sets of variables.
use Rattle.std.proofs.Common.{◌≡◌, ◌⊎◌, inl, inr, ⊎_elim, refl, sym, ap, subst, ◌∙◌, ℕ, ◌+◌, ◌<◌, List, [], ◌∷◌, Option}
use Rattle.std.proofs.Common.{Some, None, Bool, true, false, ◌&&◌, ◌||◌, length, drop, get_or, arith}
use Rattle.std.specs.Prelude.{not}
use Rattle.std.specs.declared.cmp.Ordering.{Ordering}
use Rattle.std.specs.declared.cmp.Ordering.TheVariants.{Less, Equal, Greater}
use Rattle.std.specs.List.{list_any}
use Rattle.std.specs.Ordering.{nat_cmp, is_eq, match_ordering}
use Rattle.std.specs.BTreeMap.{is_at}
use Rattle.std.specs.BTreeSet.{insert_key}
use Rattle.std.proofs.lemmas.List.{at_drop_more}
use Rattle.std.proofs.lemmas.Bool.{cases_Bool, false_from_ne_true, not-true, not_from_false, or_cases, or_left}
use Rattle.std.proofs.lemmas.Bool.{or_right}
use Rattle.sp_base.proofs.Facts.{not_true_and_false}
use Rattle.sp_tree.specs.Interference.{IsMember, AllDifferent}
use Rattle.sp_verify_effects.specs.Sets.{has, with_one, with_all, with_index, all_new, meets, goes_beyond}

-- ---- going over a list

pub meets_on : (ks xs : List ℕ) (i : ℕ) → i < length xs → has ks (get_or xs i 0) ≡ false
    → meets ks (drop i xs) ≡ meets ks xs → meets ks (drop (i + 1) xs) ≡ meets ks xs
meets_on ks xs i h f e = sym (at_drop_more (meets ks) xs i 0 h ∙ ap (λ b. b || meets ks (drop (i + 1) xs)) f) ∙ e

pub meets_here : (ks xs : List ℕ) (i : ℕ) → i < length xs → has ks (get_or xs i 0) ≡ true
    → meets ks (drop i xs) ≡ meets ks xs → true ≡ meets ks xs
meets_here ks xs i h f e = sym (at_drop_more (meets ks) xs i 0 h ∙ ap (λ b. b || meets ks (drop (i + 1) xs)) f) ∙ e

pub beyond_on : (ks xs : List ℕ) (i : ℕ) → i < length xs → has ks (get_or xs i 0) ≡ true
    → goes_beyond ks (drop i xs) ≡ goes_beyond ks xs
    → goes_beyond ks (drop (i + 1) xs) ≡ goes_beyond ks xs
beyond_on ks xs i h f e = sym (at_drop_more (goes_beyond ks) xs i 0 h
    ∙ ap (λ b. not b || goes_beyond ks (drop (i + 1) xs)) f) ∙ e

pub beyond_here : (ks xs : List ℕ) (i : ℕ) → i < length xs → has ks (get_or xs i 0) ≡ false
    → goes_beyond ks (drop i xs) ≡ goes_beyond ks xs
    → true ≡ goes_beyond ks xs
beyond_here ks xs i h f e = sym (at_drop_more (goes_beyond ks) xs i 0 h
    ∙ ap (λ b. not b || goes_beyond ks (drop (i + 1) xs)) f) ∙ e

-- ---- tests

-- ---- one more key, in any order by which equal keys are one

module _ {K : Type 0} (cmp : K → K → Ordering) (exact : (x y : K) → is_eq (cmp x y) ≡ true → x ≡ y) (same : (x : K)
    → is_eq (cmp x x) ≡ true) where
  abbrev pub is_key : List K → K → Bool
  is_key ks q = list_any (is_at (cmp q)) ks

  pub key_in : (ks : List K) (k q : K) → is_key (insert_key cmp ks k) q ≡ true → (q ≡ k) ⊎ (is_key ks q ≡ true)
  key_in [] k q e = ⊎_elim (λ h. inl (exact q k h)) (λ h. absurd (cc h)) (or_cases (is_eq (cmp q k)) false e)
  key_in (x ∷ xs) k q e = go (cmp k x) e (key_in xs k q)
    where
      go : (o : Ordering) → is_key (match_ordering o (k ∷ x ∷ xs) (x ∷ xs) (x ∷ insert_key cmp xs k)) q ≡ true
          → (is_key (insert_key cmp xs k) q ≡ true → (q ≡ k) ⊎ (is_key xs q ≡ true)) → (q ≡ k)
          ⊎ (is_key (x ∷ xs) q ≡ true)
      go Less e on = ⊎_elim (λ h. inl (exact q k h)) (λ h. inr h) (or_cases (is_eq (cmp q k)) (is_key (x ∷ xs) q) e)
      go Equal e on = inr e
      go Greater e on =
          ⊎_elim (λ h. inr (or_left (is_eq (cmp q x)) (is_key xs q) h))
          (λ h. ⊎_elim (λ i. inl i) (λ i. inr (or_right (is_eq (cmp q x)) (is_key xs q) i)) (on h))
          (or_cases (is_eq (cmp q x)) (is_key (insert_key cmp xs k) q) e)

  pub key_kept : (ks : List K) (k q : K) → is_key ks q ≡ true → is_key (insert_key cmp ks k) q ≡ true
  key_kept [] k q e = absurd (cc e)
  key_kept (x ∷ xs) k q e = go (cmp k x) (key_kept xs k q)
    where
      go : (o : Ordering) → (is_key xs q ≡ true → is_key (insert_key cmp xs k) q ≡ true)
          → is_key (match_ordering o (k ∷ x ∷ xs) (x ∷ xs) (x ∷ insert_key cmp xs k)) q ≡ true
      go Less on = or_right (is_eq (cmp q k)) (is_key (x ∷ xs) q) e
      go Equal on = e
      go Greater on =
          ⊎_elim (λ h. or_left (is_eq (cmp q x)) (is_key (insert_key cmp xs k) q) h)
          (λ h. or_right (is_eq (cmp q x)) (is_key (insert_key cmp xs k) q) (on h))
          (or_cases (is_eq (cmp q x)) (is_key xs q) e)

  pub key_here : (ks : List K) (k : K) → is_key (insert_key cmp ks k) k ≡ true
  key_here [] k = or_left (is_eq (cmp k k)) false (same k)
  key_here (x ∷ xs) k = go (cmp k x) refl (key_here xs k)
    where
      go : (o : Ordering) → cmp k x ≡ o → is_key (insert_key cmp xs k) k ≡ true
          → is_key (match_ordering o (k ∷ x ∷ xs) (x ∷ xs) (x ∷ insert_key cmp xs k)) k ≡ true
      go Less e on = or_left (is_eq (cmp k k)) (is_key (x ∷ xs) k) (same k)
      go Equal e on = or_left (is_eq (cmp k x)) (is_key xs k) (ap is_eq e)
      go Greater e on = or_right (is_eq (cmp k x)) (is_key (insert_key cmp xs k) k) on

-- ---- numbers

pub nat_exact : (x y : ℕ) → is_eq (nat_cmp x y) ≡ true → x ≡ y
nat_exact x y e = Prim.grind (arith, e)

pub nat_same : (x : ℕ) → is_eq (nat_cmp x x) ≡ true
nat_same x = Prim.grind arith

pub one_in : (ks : List ℕ) (k q : ℕ) → has (with_one ks k) q ≡ true → (q ≡ k) ⊎ (has ks q ≡ true)
one_in = key_in nat_cmp nat_exact nat_same

pub one_kept : (ks : List ℕ) (k q : ℕ) → has ks q ≡ true → has (with_one ks k) q ≡ true
one_kept = key_kept nat_cmp nat_exact nat_same

pub one_here : (ks : List ℕ) (k : ℕ) → has (with_one ks k) k ≡ true
one_here = key_here nat_cmp nat_exact nat_same

pub one_other : (ks : List ℕ) (k q : ℕ) → has (with_one ks k) q ≡ false → has ks q ≡ false
one_other ks k q e = false_from_ne_true (has ks q)
    (λ h. not_true_and_false (has (with_one ks k) q) (one_kept ks k q h) e)

-- ---- all of a list

pub all_in : (ks xs : List ℕ) (q : ℕ) → has (with_all ks xs) q ≡ true → (has ks q ≡ true) ⊎ IsMember q xs
all_in ks [] q e = inl e
all_in ks (x ∷ xs) q e = ⊎_elim (λ h. ⊎_elim (λ i. inr (inl i)) (λ i. inl i) (one_in ks x q h)) (λ h. inr (inr h))
    (all_in (with_one ks x) xs q e)

pub all_kept : (ks xs : List ℕ) (q : ℕ) → has ks q ≡ true → has (with_all ks xs) q ≡ true
all_kept ks [] q e = e
all_kept ks (x ∷ xs) q e = all_kept (with_one ks x) xs q (one_kept ks x q e)

pub all_here : (ks xs : List ℕ) (q : ℕ) → IsMember q xs → has (with_all ks xs) q ≡ true
all_here ks [] q h = absurd h
all_here ks (x ∷ xs) q (inl e) = all_kept (with_one ks x) xs q
    (subst (λ z. has (with_one ks x) z ≡ true) (sym e) (one_here ks x))
all_here ks (x ∷ xs) q (inr h) = all_here (with_one ks x) xs q h

pub index_in : (ks : List ℕ) (o : Option ℕ) (q : ℕ) → has (with_index ks o) q ≡ true → (has ks q ≡ true) ⊎ (o ≡ Some q)
index_in ks None q e = inl e
index_in ks (Some x) q e = ⊎_elim (λ h. inr (ap Some (sym h))) (λ h. inl h) (one_in ks x q e)

pub index_kept : (ks : List ℕ) (o : Option ℕ) (q : ℕ) → has ks q ≡ true → has (with_index ks o) q ≡ true
index_kept ks None q e = e
index_kept ks (Some x) q e = one_kept ks x q e

-- ---- tests of lists

pub meets_is : (ks xs : List ℕ) → meets ks xs ≡ true → (x : ℕ) × IsMember x xs × (has ks x ≡ true)
meets_is ks [] e = absurd (cc e)
meets_is ks (x ∷ xs) e = ⊎_elim (λ h. (x, inl refl, h)) (λ h. let r = meets_is ks xs h in (r.0, inr r.1, r.2))
    (or_cases (has ks x) (meets ks xs) e)

pub meets_from : (ks xs : List ℕ) (x : ℕ) → IsMember x xs → has ks x ≡ true → meets ks xs ≡ true
meets_from ks [] x h e = absurd h
meets_from ks (y ∷ ys) x (inl i) e = or_left (has ks y) (meets ks ys) (subst (λ z. has ks z ≡ true) i e)
meets_from ks (y ∷ ys) x (inr h) e = or_right (has ks y) (meets ks ys) (meets_from ks ys x h e)

pub beyond_is : (ks xs : List ℕ) → goes_beyond ks xs ≡ true → (x : ℕ) × IsMember x xs × (has ks x ≡ false)
beyond_is ks [] e = absurd (cc e)
beyond_is ks (x ∷ xs) e =
    ⊎_elim (λ h. (x, inl refl, not-true (has ks x) h)) (λ h. let r = beyond_is ks xs h in (r.0, inr r.1, r.2))
    (or_cases (not (has ks x)) (goes_beyond ks xs) e)

pub beyond_from : (ks xs : List ℕ) (x : ℕ) → IsMember x xs → has ks x ≡ false → goes_beyond ks xs ≡ true
beyond_from ks [] x h e = absurd h
beyond_from ks (y ∷ ys) x (inl i) e = or_left (not (has ks y)) (goes_beyond ks ys)
    (not_from_false (has ks y) (subst (λ z. has ks z ≡ false) i e))
beyond_from ks (y ∷ ys) x (inr h) e = or_right (not (has ks y)) (goes_beyond ks ys) (beyond_from ks ys x h e)

-- all are new: they differ, and none was there
pub new_is : (ks xs : List ℕ) → all_new ks xs ≡ true → AllDifferent xs × ((x : ℕ) → IsMember x xs → has ks x ≡ false)
new_is ks [] e = (tt, λ x h. absurd h)
new_is ks (x ∷ xs) e = go (cases_Bool (has ks x)) (new_is (with_one ks x) xs)
  where
    go : (has ks x ≡ true) ⊎ (has ks x ≡ false)
        → (all_new (with_one ks x) xs ≡ true → AllDifferent xs
        × ((y : ℕ) → IsMember y xs → has (with_one ks x) y ≡ false))
        → AllDifferent (x ∷ xs) × ((y : ℕ) → IsMember y (x ∷ xs) → has ks y ≡ false)
    go (inl h) on = absurd (cc (sym (ap (λ b. not b && all_new (with_one ks x) xs) h) ∙ e))
    go (inr h) on =
        let r = on (sym (ap (λ b. not b && all_new (with_one ks x) xs) h) ∙ e) in (
          (λ m. not_true_and_false (has (with_one ks x) x) (one_here ks x) (r.1 x m), r.0),
          λ y m. ⊎_elim (λ i. subst (λ z. has ks z ≡ false) (sym i) h) (λ n. one_other ks x y (r.1 y n)) m,
        )

pub new_from : (ks xs : List ℕ) → AllDifferent xs → ((x : ℕ) → IsMember x xs → has ks x ≡ false) → all_new ks xs ≡ true
new_from ks [] d h = refl
new_from ks (x ∷ xs) d h =
    ap (λ b. not b && all_new (with_one ks x) xs) (h x (inl refl))
    ∙ new_from (with_one ks x) xs d.1
    (λ y m. false_from_ne_true (has (with_one ks x) y)
    (λ k. ⊎_elim (λ i. d.0 (subst (λ z. IsMember z xs) i m)) (λ i. not_true_and_false (has ks y) i (h y (inr m)))
    (one_in ks x y k)))
