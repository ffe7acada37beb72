-- A clock while the pairs of another one are taken in.
use Rattle.std.proofs.Common.{◌≡◌, ◌≢◌, ⊎_elim, ℕ, Bool, true, false, cond, max, ◌==◌, List, [], ◌∷◌, Some}
use Rattle.std.proofs.Common.{is_some, filter, unwrap_or, refl, sym, ap, ◌∙◌, subst, eqb-true}
use Rattle.std.proofs.Common.{eq-eqb, length, arith}
use Rattle.std.specs.Ordering.{nat_cmp, eq_by_cmp, is_eq}
use Rattle.std.specs.Cmp.{nat_cmp_total, tied_itself}
use Rattle.std.specs.FinMap.{nat_cmp-IsAntisymmetric}
use Rattle.std.specs.BTreeMap.{is_at}
use Rattle.std.specs.Map.{lookup, keys_of}
use Rattle.std.specs.Option.{IsSome}
use Rattle.std.specs.List.{IsDistinct, AllByRecursion}
use Rattle.std.specs.List.Sorted.{IsStrictlySortedBy}
use Rattle.std.proofs.lemmas.Map.Keys.{IsDistinct-from_sorted}
use Rattle.std.proofs.lemmas.Bool.{cases_eq, true≢false}
use Rattle.std.proofs.Math.Nat.{max-zero}
use Rattle.sp_base.specs.Order.{tie_of}

abbrev pub count_in : List (ℕ × ℕ) → ℕ → ℕ
count_in es q = unwrap_or (lookup (is_at (nat_cmp q)) es) 0

-- who has no pair has no counts
pub none_counted : (es : List (ℕ × ℕ)) → length es ≡ 0 → (q : ℕ) → count_in es q ≡ 0
none_counted [] none q = refl
none_counted (e ∷ es) none q = absurd (omega arith)

-- each process has one pair
abbrev pub Single : List (ℕ × ℕ) → Type 0
Single [] = Unit {0}
Single (e ∷ es) = (count_in es e.0 ≡ 0) × Single es

same_test : (q : ℕ) → is_at (nat_cmp q) q ≡ true
same_test q = ap is_eq (tied_itself nat_cmp_total q)

other_test : (q k : ℕ) → q ≢ k → is_at (nat_cmp q) k ≡ false
other_test q k d = by (is_at (nat_cmp q) k) refl
  where
    by : (b : Bool) → is_at (nat_cmp q) k ≡ b → b ≡ false
    by true e = absurd (d (nat_cmp-IsAntisymmetric q k (tie_of (nat_cmp q k) e)))
    by false e = refl

no_pair : (q : ℕ) (es : List (ℕ × ℕ)) → AllByRecursion (λ k. eq_by_cmp nat_cmp q k ≡ false) (keys_of es)
    → count_in es q ≡ 0
no_pair q [] a = refl
no_pair q (e ∷ es) a = ap (λ b. unwrap_or (cond b (Some e.1) (lookup (is_at (nat_cmp q)) es)) 0) a.0 ∙ no_pair q es a.1

distinct_single : (es : List (ℕ × ℕ)) → IsDistinct (eq_by_cmp nat_cmp) (keys_of es) → Single es
unfolding IsDistinct
distinct_single [] d = tt
distinct_single (e ∷ es) d = (no_pair e.0 es d.0, distinct_single es d.1)

pub ordered_single : (es : List (ℕ × ℕ)) → IsStrictlySortedBy nat_cmp (keys_of es) → Single es
ordered_single es s = distinct_single es (IsDistinct-from_sorted nat_cmp (keys_of es) s)

-- one more pair was taken in
pub taken : (old new : ℕ → ℕ) (k v : ℕ) (es : List (ℕ × ℕ)) → count_in es k ≡ 0
    → ((q : ℕ) → new q ≡ cond (k == q) (max (old q) v) (old q)) → (q : ℕ)
    → max (new q) (count_in es q) ≡ max (old q) (count_in ((k, v) ∷ es) q)
taken old new k v es none is q = ⊎_elim here there (cases_eq k q)
  where
    here : k ≡ q → max (new q) (count_in es q) ≡ max (old q) (count_in ((k, v) ∷ es) q)
    here e =
        let a : new q ≡ max (old q) v = is q ∙ ap (λ b. cond b (max (old q) v) (old q)) (eq-eqb k q e) in
        let b : count_in es q ≡ 0 = subst (λ x. count_in es x ≡ 0) e none in
        let c : count_in ((k, v) ∷ es) q ≡ v =
        ap (λ b. unwrap_or (cond b (Some v) (lookup (is_at (nat_cmp q)) es)) 0)
        (subst (λ x. is_at (nat_cmp q) x ≡ true) (sym e) (same_test q)) in
        (λ i. max (a i) (b i)) ∙ max-zero (max (old q) v) ∙ ap (max (old q)) (sym c)

    there : k ≢ q → max (new q) (count_in es q) ≡ max (old q) (count_in ((k, v) ∷ es) q)
    there d =
        let a : new q ≡ old q = is q ∙ ap (λ b. cond b (max (old q) v) (old q)) (not_same (k == q) refl) in
        let c : count_in ((k, v) ∷ es) q ≡ count_in es q =
        ap (λ b. unwrap_or (cond b (Some v) (lookup (is_at (nat_cmp q)) es)) 0) (other_test q k (λ e. d (sym e))) in
        λ i. max (a i) (sym c i)
      where
        not_same : (b : Bool) → k == q ≡ b → b ≡ false
        not_same true e = absurd (d (eqb-true k q e))
        not_same false e = refl

-- a pair stays where one more is in front, and the first one is found
pub more_pairs : (q : ℕ) (e : ℕ × ℕ) (es : List (ℕ × ℕ)) → IsSome (lookup (is_at (nat_cmp q)) es)
    → IsSome (lookup (is_at (nat_cmp q)) (e ∷ es))
more_pairs q e es h = by (is_at (nat_cmp q) e.0)
  where
    by : (b : Bool) → IsSome (cond b (Some e.1) (lookup (is_at (nat_cmp q)) es))
    by true = refl
    by false = h

pub first_pair : (q : ℕ) (v : ℕ) (es : List (ℕ × ℕ)) → IsSome (lookup (is_at (nat_cmp q)) ((q, v) ∷ es))
first_pair q v es = ap (λ b. is_some (cond b (Some v) (lookup (is_at (nat_cmp q)) es))) (same_test q)

-- a row of pairs, of which those of this process were kept
pub kept_count : (p : ℕ × ℕ → Bool) (q : ℕ) → ((v : ℕ) → p (q, v) ≡ true) → (es : List (ℕ × ℕ))
    → count_in (filter p es) q ≡ count_in es q
kept_count p q keeps [] = refl
kept_count p q keeps (e ∷ es) = by (p e) refl (is_at (nat_cmp q) e.0) refl (kept_count p q keeps es)
  where
    same : is_at (nat_cmp q) e.0 ≡ true → q ≡ e.0
    same t = nat_cmp-IsAntisymmetric q e.0 (tie_of (nat_cmp q e.0) t)

    skip : (t : Bool) → is_at (nat_cmp q) e.0 ≡ t → t ≡ false → (xs : List (ℕ × ℕ))
        → count_in (e ∷ xs) q ≡ count_in xs q
    skip t is off xs = ap (λ b. unwrap_or (cond b (Some e.1) (lookup (is_at (nat_cmp q)) xs)) 0) (is ∙ off)

    by : (b : Bool) → p e ≡ b → (t : Bool) → is_at (nat_cmp q) e.0 ≡ t → count_in (filter p es) q ≡ count_in es q
        → count_in (cond b (e ∷ filter p es) (filter p es)) q ≡ count_in (e ∷ es) q
    by true k true t rest = ap (λ b. unwrap_or (cond b (Some e.1) (lookup (is_at (nat_cmp q)) (filter p es))) 0) t
        ∙ sym (ap (λ b. unwrap_or (cond b (Some e.1) (lookup (is_at (nat_cmp q)) es)) 0) t)
    by true k false t rest = skip false t refl (filter p es) ∙ rest ∙ sym (skip false t refl es)
    by false k true t rest = absurd (true≢false (sym (keeps e.1) ∙ ap (λ (x : ℕ). p (x, e.1)) (same t) ∙ k))
    by false k false t rest = rest ∙ sym (skip false t refl es)
