-- What the handings of a fork are: which spots move and which are shared, and that none comes twice where the
-- children's variables differ.
use Rattle.std.proofs.Common.{◌≡◌, ◌⊎◌, inl, inr, ⊎_elim, ℕ, zero, suc, ◌+◌, ◌<◌, ℤ, List, [], ◌∷◌, ◌++◌, Option, Some}
use Rattle.std.proofs.Common.{None, refl, sym, ap, ◌∙◌, subst, arith}
use Rattle.std.proofs.Common.{add-zero, zero-add}
use Rattle.std.specs.Prelude.{IsSome}
use Rattle.sp_base.proofs.Facts.{is_plus_none, next_goes_left, next_goes_right}
use Rattle.sp_tree.specs.Interference.{IsMember, AllDifferent}
use Rattle.sp_cell.specs.declared.spot.Spot.{Spot}
use Rattle.sp_cell.specs.declared.spot.Handing.{Handing}
use Rattle.sp_cell.specs.Fork.{moved_of, shared_of, HasIndex}
use Rattle.sp_cell.proofs.Plan.{in_or, in_front, in_back, in_either}
use Rattle.sp_cell.specs.Spots.{In, NotIn, IsDistinct}
use Rattle.sp_code.specs.declared.code.ForkTable.{ForkTable}
use Rattle.sp_code.specs.declared.code.Layout.{Layout}
use Rattle.sp_code.specs.Memory as mem
use Rattle.sp_code.specs.Tables.{child_at}
use Rattle.sp_code.specs.System.{with_spot, spots_of, spot_of, handing_of, plan_from, child_or}

in_with : (q : Spot) (o : Option Spot) (ss : List Spot) → In q ss → In q (with_spot o ss)
in_with q None ss h = h
in_with q (Some s) ss h = inr h

pub in_spots : (ls : List Layout) (fs : List mem.Frame) (xs : List ℕ) (x : ℕ) (q : Spot) → IsMember x xs
    → spot_of ls fs x ≡ Some q → In q (spots_of ls fs xs)
in_spots ls fs [] x q h e = absurd h
in_spots ls fs (y ∷ xs) x q (inl i) e = subst (λ z. In q (with_spot z (spots_of ls fs xs)))
    (sym (ap (λ z. spot_of ls fs z) (sym i) ∙ e)) (inl refl)
in_spots ls fs (y ∷ xs) x q (inr i) e = in_with q (spot_of ls fs y) (spots_of ls fs xs) (in_spots ls fs xs x q i e)

pub spots_from : (ls : List Layout) (fs : List mem.Frame) (xs : List ℕ) (q : Spot) → In q (spots_of ls fs xs) → (x : ℕ)
    × IsMember x xs × (spot_of ls fs x ≡ Some q)
spots_from ls fs [] q h = absurd h
spots_from ls fs (y ∷ xs) q h = go (λ i. later (spots_from ls fs xs q i)) (spot_of ls fs y) refl h
  where
    later : (x : ℕ) × IsMember x xs × (spot_of ls fs x ≡ Some q) → (x : ℕ) × IsMember x (y ∷ xs)
        × (spot_of ls fs x ≡ Some q)
    later a = (a.0, inr a.1, a.2)

    go : (In q (spots_of ls fs xs) → (x : ℕ) × IsMember x (y ∷ xs) × (spot_of ls fs x ≡ Some q)) → (o : Option Spot)
        → spot_of ls fs y ≡ o → In q (with_spot o (spots_of ls fs xs)) → (x : ℕ) × IsMember x (y ∷ xs)
        × (spot_of ls fs x ≡ Some q)
    go ih None e i = ih i
    go ih (Some s) e (inl a) = (y, inl refl, e ∙ ap Some (sym a))
    go ih (Some s) e (inr i) = ih i

-- what is in none of a list
pub out_of : (a : Spot) (ss : List Spot) → (In a ss → ⊥) → NotIn a ss
out_of a ss h = ⊎_elim (λ i. absurd (h i)) (λ d. d) (in_or a ss)

pub none_distinct : (ss : List Spot) → ((a : Spot) → In a ss → ⊥) → IsDistinct ss
none_distinct [] h = tt
none_distinct (s ∷ ss) h = absurd (h s (inl refl))

distinct_both : (xs ys : List Spot) → IsDistinct xs → IsDistinct ys → ((a : Spot) → In a xs → In a ys → ⊥)
    → IsDistinct (xs ++ ys)
distinct_both [] ys d e f = e
distinct_both (x ∷ xs) ys d e f = (
  out_of x (xs ++ ys)
      (λ i. ⊎_elim (λ j. once x xs d.0 j) (λ j. f x (inl refl) j) (in_either x xs ys i)),
  distinct_both xs ys d.1 e (λ a i j. f a (inr i) j),
)
  where
    once : (q : Spot) (ss : List Spot) → NotIn q ss → In q ss → ⊥
    once q [] n i = i
    once q (s ∷ ss) n (inl e) = n.0 (sym e)
    once q (s ∷ ss) n (inr i) = once q ss n.1 i

-- variables that differ, and differ in their spots
pub distinct_spots : (ls : List Layout) (fs : List mem.Frame) (xs : List ℕ) → AllDifferent xs
    → ((y z : ℕ) (a : Spot) → IsMember y xs → IsMember z xs → spot_of ls fs y ≡ Some a → spot_of ls fs z ≡ Some a
    → y ≡ z) → IsDistinct (spots_of ls fs xs)
distinct_spots ls fs [] d h = tt
distinct_spots ls fs (x ∷ xs) d h = go (distinct_spots ls fs xs d.1 (λ y z a i j. h y z a (inr i) (inr j)))
    (spot_of ls fs x) refl
  where
    go : IsDistinct (spots_of ls fs xs) → (o : Option Spot) → spot_of ls fs x ≡ o
        → IsDistinct (with_spot o (spots_of ls fs xs))
    go ih None e = ih
    go ih (Some s) e = (
      out_of s (spots_of ls fs xs)
          (λ i. (let w = spots_from ls fs xs s i in
          d.0 (subst (λ y. IsMember y xs) (sym (h x w.0 s (inl refl) (inr w.1) e w.2)) w.1))),
      ih,
    )

module _ (ls : List Layout) (fs : List mem.Frame) (t : ForkTable) (val : ℤ) where
  abbrev pub child_handing : ℕ → Handing
  child_handing j = handing_of ls fs val j (child_or (child_at t j))

  pub in_moved : (i n : ℕ) (a : Spot) → In a (moved_of (plan_from ls fs t val i n)) → (j : ℕ) × (j < n)
      × In a (child_handing (i + j)).moved
  in_moved i zero a h = absurd h
  in_moved i (suc n) a h = ⊎_elim (λ k. (0, omega arith, subst (λ z. In a (child_handing z).moved) (is_plus_none i) k))
      (λ k. (let w = in_moved (suc i) n a k in (
        suc w.0,
        (let b = w.1 in omega (arith, b)),
        subst (λ z. In a (child_handing z).moved)
            (next_goes_right i w.0) w.2,
      )))
      (in_either a (child_handing i).moved (moved_of (plan_from ls fs t val (suc i) n)) h)

  pub in_shared : (i n : ℕ) (a : Spot) → In a (shared_of (plan_from ls fs t val i n)) → (j : ℕ) × (j < n)
      × In a (child_handing (i + j)).shared
  in_shared i zero a h = absurd h
  in_shared i (suc n) a h =
      ⊎_elim (λ k. (0, omega arith, subst (λ z. In a (child_handing z).shared) (is_plus_none i) k))
      (λ k. (let w = in_shared (suc i) n a k in (
        suc w.0,
        (let b = w.1 in omega (arith, b)),
        subst (λ z. In a (child_handing z).shared)
            (next_goes_right i w.0) w.2,
      )))
      (in_either a (child_handing i).shared (shared_of (plan_from ls fs t val (suc i) n)) h)

  pub moved_by : (n : ℕ) (a : Spot) → In a (moved_of (plan_from ls fs t val 0 n)) → (j : ℕ) × (j < n)
      × In a (child_handing j).moved
  moved_by n a h = let w = in_moved 0 n a h in (w.0, w.1, subst (λ z. In a (child_handing z).moved) (zero-add w.0) w.2)

  pub shared_by : (n : ℕ) (a : Spot) → In a (shared_of (plan_from ls fs t val 0 n)) → (j : ℕ) × (j < n)
      × In a (child_handing j).shared
  shared_by n a h = let w = in_shared 0 n a h in
      (w.0, w.1, subst (λ z. In a (child_handing z).shared) (zero-add w.0) w.2)

  pub moved_back : (i n j : ℕ) (a : Spot) → j < n → In a (child_handing (i + j)).moved
      → In a (moved_of (plan_from ls fs t val i n))
  moved_back i zero j a lt h = absurd (omega (arith, lt))
  moved_back i (suc n) zero a lt h = in_front a (child_handing i).moved (moved_of (plan_from ls fs t val (suc i) n))
      (subst (λ z. In a (child_handing z).moved) (add-zero i) h)
  moved_back i (suc n) (suc j) a lt h = in_back a (child_handing i).moved (moved_of (plan_from ls fs t val (suc i) n))
      (moved_back (suc i) n j a (omega (arith, lt)) (subst (λ z. In a (child_handing z).moved) (next_goes_left i j) h))

  pub moved_in : (n j : ℕ) (a : Spot) → j < n → In a (child_handing j).moved
      → In a (moved_of (plan_from ls fs t val 0 n))
  moved_in n j a lt h = moved_back 0 n j a lt (subst (λ z. In a (child_handing z).moved) (sym (zero-add j)) h)

  distinct_at : (i n : ℕ) → ((j : ℕ) → j < n → IsDistinct (child_handing (i + j)).moved)
      → ((j k : ℕ) (a : Spot) → j < k → k < n → In a (child_handing (i + j)).moved
      → In a (child_handing (i + k)).moved → ⊥)
      → IsDistinct (moved_of (plan_from ls fs t val i n))
  distinct_at i zero each apart = tt
  distinct_at i (suc n) each apart = distinct_both (child_handing i).moved (moved_of (plan_from ls fs t val (suc i) n))
      (subst (λ z. IsDistinct (child_handing z).moved) (add-zero i) (each 0 (omega arith)))
      (distinct_at (suc i) n (λ j lt. subst (λ z. IsDistinct (child_handing z).moved) (next_goes_left i j)
      (each (suc j) (omega (arith, lt))))
      (λ j k a l lt f g. apart (suc j) (suc k) a (omega (arith, l)) (omega (arith, lt))
      (subst (λ z. In a (child_handing z).moved) (sym (next_goes_left i j)) f)
      (subst (λ z. In a (child_handing z).moved) (sym (next_goes_left i k)) g)))
      (λ a f g. (let w = in_moved (suc i) n a g in
      apart 0 (suc w.0) a (omega arith) (let b = w.1 in omega (arith, b))
      (subst (λ z. In a (child_handing z).moved) (sym (add-zero i)) f)
      (subst (λ z. In a (child_handing z).moved) (sym (next_goes_left i w.0)) w.2)))

  -- each child's spots differ, and those of two children
  pub distinct_plan : (n : ℕ) → ((j : ℕ) → j < n → IsDistinct (child_handing j).moved)
      → ((j k : ℕ) (a : Spot) → j < k → k < n → In a (child_handing j).moved → In a (child_handing k).moved → ⊥)
      → IsDistinct (moved_of (plan_from ls fs t val 0 n))
  distinct_plan n each apart = distinct_at 0 n
      (λ j lt. subst (λ z. IsDistinct (child_handing z).moved) (sym (zero-add j)) (each j lt))
      (λ j k a l lt f g. apart j k a l lt (subst (λ z. In a (child_handing z).moved) (zero-add j) f)
      (subst (λ z. In a (child_handing z).moved) (zero-add k) g))

  index_in : (i n : ℕ) → HasIndex (plan_from ls fs t val i n) → (j : ℕ) × (j < n) × IsSome (child_handing (i + j)).index
  index_in i zero h = absurd h
  index_in i (suc n) (inl h) = (0, omega arith, subst (λ z. IsSome (child_handing z).index) (is_plus_none i) h)
  index_in i (suc n) (inr h) = let w = index_in (suc i) n h in (
    suc w.0,
    (let b = w.1 in omega (arith, b)),
    subst (λ z. IsSome (child_handing z).index)
        (next_goes_right i w.0) w.2,
  )

  pub index_by : (n : ℕ) → HasIndex (plan_from ls fs t val 0 n) → (j : ℕ) × (j < n) × IsSome (child_handing j).index
  index_by n h = let w = index_in 0 n h in (w.0, w.1, subst (λ z. IsSome (child_handing z).index) (zero-add w.0) w.2)
