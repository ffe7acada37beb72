-- Lists of numbers: each, different, among.
use Rattle.std.proofs.Common.{◌≡◌, ◌≢◌, ◌⊎◌, ℕ, zero, suc, ◌+◌, ◌≤◌, ◌<◌, ◌==◌, inl, inr, Bool, true, false, cond, List}
use Rattle.std.proofs.Common.{[], ◌∷◌, ◌++◌, refl, subst, arith, length, ap}
use Rattle.std.proofs.lemmas.Bool.{eqb-false}
use borrow.Author.Tests.{eqb-true}
use Rattle.sp_base.proofs.Facts.{equals_itself}
use Rattle.sp_journal.specs.Maps.{at_key}
use Rattle.sp_journal.specs.Queue.{numbers}
use Rattle.sp_code.specs.Agreement.{EachNumber, Differ, Among}

pub each_of : (P Q : ℕ → Type 0) (xs : List ℕ) → ((q : ℕ) → P q → Q q) → EachNumber P xs → EachNumber Q xs
each_of P Q [] h e = tt {0}
each_of P Q (x ∷ xs) h e = (h x e.0, each_of P Q xs h e.1)

pub each_append : (P : ℕ → Type 0) (xs ys : List ℕ) → EachNumber P xs → EachNumber P ys → EachNumber P (xs ++ ys)
each_append P [] ys a b = b
each_append P (x ∷ xs) ys a b = (a.0, each_append P xs ys a.1 b)

pub differ_append : (xs ys : List ℕ) → Differ xs → Differ ys → EachNumber (λ x. EachNumber (λ y. y ≢ x) ys) xs
    → Differ (xs ++ ys)
differ_append [] ys a b c = b
differ_append (x ∷ xs) ys a b c = (each_append (λ y. y ≢ x) xs ys a.0 c.0, differ_append xs ys a.1 b c.1)

pub among_front : (q : ℕ) (xs ys : List ℕ) → Among q xs → Among q (xs ++ ys)
among_front q [] ys i = absurd i
among_front q (x ∷ xs) ys (inl e) = inl e
among_front q (x ∷ xs) ys (inr i) = inr (among_front q xs ys i)

pub among_back : (q : ℕ) (xs ys : List ℕ) → Among q ys → Among q (xs ++ ys)
among_back q [] ys i = i
among_back q (x ∷ xs) ys i = inr (among_back q xs ys i)

pub among_none : (q : ℕ) (xs : List ℕ) → length xs ≡ 0 → Among q xs → ⊥
among_none q [] e i = i
among_none q (x ∷ xs) e i = omega (arith, e)

pub numbers_length : (a n : ℕ) → length (numbers a n) ≡ n
numbers_length a zero = refl
numbers_length a (suc n) = ap suc (numbers_length (suc a) n)

pub numbers_from : (a n : ℕ) → EachNumber (λ q. a ≤ q) (numbers a n)
numbers_from a zero = tt {0}
numbers_from a (suc n) = (
  omega arith,
  each_of (λ q. suc a ≤ q) (λ q. a ≤ q) (numbers (suc a) n)
      (λ q h. omega (arith, h)) (numbers_from (suc a) n),
)

pub numbers_below : (a n : ℕ) → EachNumber (λ q. q < a + n) (numbers a n)
numbers_below a zero = tt {0}
numbers_below a (suc n) = (
  omega arith,
  each_of (λ q. q < suc a + n) (λ q. q < a + suc n) (numbers (suc a) n)
      (λ q h. omega (arith, h)) (numbers_below (suc a) n),
)

pub numbers_differ : (a n : ℕ) → Differ (numbers a n)
numbers_differ a zero = tt {0}
numbers_differ a (suc n) = (
  each_of (λ q. suc a ≤ q) (λ q. q ≢ a) (numbers (suc a) n) (λ q h e. omega (arith, h, e))
      (numbers_from (suc a) n),
  numbers_differ (suc a) n,
)

pub numbers_have : (a n q : ℕ) → a ≤ q → q < a + n → Among q (numbers a n)
numbers_have a zero q l h = absurd (omega (arith, l, h))
numbers_have a (suc n) q l h = elim (q == a) as (λ b. q == a ≡ b → Among q (numbers a (suc n))) [
  | true ↦ λ e. inl (eqb-true q a e)
  | false ↦ λ e. inr (numbers_have (suc a) n q (omega (arith, l, eqb-true q a, e, eqb-false q a e)) (omega (arith, h)))
] refl

-- ---- maps by numbers

pub number_or : (p q : ℕ) → (p ≡ q) ⊎ ((p ≢ q) × (p == q ≡ false))
number_or p q = elim (p == q) as (λ b. p == q ≡ b → (p ≡ q) ⊎ ((p ≢ q) × (p == q ≡ false))) [
  | true ↦ λ e. inl (eqb-true p q e)
  | false ↦ λ e. inr (
    (λ is. let t : p == q ≡ true = subst (λ n. p == n ≡ true) is (equals_itself p) in absurd (cc (e, t))),
    e,
  )
] refl

module _ {X : Type 0} where
  pub at_same : (m : ℕ → X) (p : ℕ) (v : X) → at_key ◌==◌ p v m p ≡ v
  at_same m p v = rw (equals_itself p)

  pub at_other : (m : ℕ → X) (p q : ℕ) (v : X) → p ≢ q → at_key ◌==◌ p v m q ≡ m q
  at_other m p q v apart = go (number_or p q)
    where
      go : (p ≡ q) ⊎ ((p ≢ q) × (p == q ≡ false)) → at_key ◌==◌ p v m q ≡ m q
      go (inl is) = absurd (apart is)
      go (inr n) = rw (n.1) refl

-- what is told of two maps alike is told of them alike after updates at one place
pub both_at : {A B C : Type 0} (f : A → C) (g : B → C) (p : ℕ) (a : A) (b : B) (m : ℕ → A) (n : ℕ → B) → f a ≡ g b
    → ((q : ℕ) → f (m q) ≡ g (n q)) → (q : ℕ) → f (at_key ◌==◌ p a m q) ≡ g (at_key ◌==◌ p b n q)
both_at f g p a b m n e h q = go (p == q)
  where
    go : (t : Bool) → f (cond t a (m q)) ≡ g (cond t b (n q))
    go true = e
    go false = h q
