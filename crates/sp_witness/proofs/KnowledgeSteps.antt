-- Who knows an entry once one learns, teaches its children or reports to its parent, and whose key it then is.
use Rattle.std.proofs.Common.{◌≡◌, ◌≢◌, ◌⊎◌, ⊎_elim, inl, inr, ℕ, zero, suc, ◌+◌, ◌<◌, ◌≤◌, Bool, true, false, cond}
use Rattle.std.proofs.Common.{◌||◌, ◌==◌, [], ◌∷◌, eqb-true, eq-eqb, refl, sym, ap, ◌∙◌, subst, arith}
use Rattle.std.proofs.lemmas.Bool.{or_cases, or_left, or_right}
use Rattle.sp_base.proofs.Facts.{false_is_not_true}
use Rattle.sp_journal.specs.Maps.{at_key}
use Rattle.sp_journal.specs.Names.{Name, same_name}
use Rattle.sp_journal.specs.Past.{learn, teach, report}
use Rattle.sp_journal.proofs.NameLaws.{name_itself, name_is}
use Rattle.sp_race.proofs.PrefixLaws.{teach_more, learn_here}
use Rattle.sp_witness.specs.NeededEntries.{any_child}

pub learn_is : (p : Name) (known : ℕ → Bool) (past : Name → ℕ → Bool) (q : Name) (i : ℕ) → learn p known past q i ≡ true
    → (past q i ≡ true) ⊎ ((p ≡ q) × (known i ≡ true))
learn_is p known past q i h = by (same_name p q) (name_is p q) h
  where
    by : (b : Bool) → (b ≡ true → p ≡ q) → cond b (past q i || known i) (past q i) ≡ true
        → (past q i ≡ true) ⊎ ((p ≡ q) × (known i ≡ true))
    by true f h = ⊎_elim (λ (x : past q i ≡ true). inl x) (λ (x : known i ≡ true). inr (f refl, x))
        (or_cases (past q i) (known i) h)
    by false f h = inl h

-- child k of the fork
abbrev pub IsChildAt : Name → ℕ → ℕ → ℕ → Name → Type 0
IsChildAt p fork x n q = (k : ℕ) × (x ≤ k) × (k < x + n) × (q ≡ (fork, k) ∷ p)

pub teach_is : (p : Name) (fork : ℕ) (known : ℕ → Bool) (x n : ℕ) (past : Name → ℕ → Bool) (q : Name) (i : ℕ)
    → teach p fork known x n past q i ≡ true → (past q i ≡ true) ⊎ (IsChildAt p fork x n q × (known i ≡ true))
teach_is p fork known x zero past q i h = inl h
teach_is p fork known x (suc n) past q i h = ⊎_elim
    (λ (y : learn ((fork, x) ∷ p) known past q i ≡ true). ⊎_elim (λ (z : past q i ≡ true). inl z)
    (λ (z : ((fork, x) ∷ p ≡ q) × (known i ≡ true)). inr ((x, omega arith, omega arith, sym z.0), z.1))
    (learn_is ((fork, x) ∷ p) known past q i y))
    (λ (y : IsChildAt p fork (suc x) n q × (known i ≡ true)). let ((child, from, below, child_is), knows) = y in
    inr ((child, omega (arith, from), omega (arith, below), child_is), knows))
    (teach_is p fork known (suc x) n (learn ((fork, x) ∷ p) known past) q i h)

pub teach_here : (p : Name) (fork : ℕ) (known : ℕ → Bool) (x n : ℕ) (past : Name → ℕ → Bool) (k i : ℕ) → x ≤ k
    → k < x + n
    → known i ≡ true → teach p fork known x n past ((fork, k) ∷ p) i ≡ true
teach_here p fork known x zero past k i le lt h = absurd (omega (arith, le, lt))
teach_here p fork known x (suc n) past k i le lt h =
    elim (x == k) as (λ b. x == k ≡ b
    → teach p fork known (suc x) n (learn ((fork, x) ∷ p) known past) ((fork, k) ∷ p) i ≡ true) [
      | true ↦ λ e. subst (λ z. teach p fork known (suc x) n (learn ((fork, x) ∷ p) known past) ((fork, z) ∷ p) i
          ≡ true)
          (eqb-true x k e)
          (teach_more p fork known (suc x) n (learn ((fork, x) ∷ p) known past) ((fork, x) ∷ p) i
          (learn_here ((fork, x) ∷ p) known past i h))
      | false ↦ λ e. let d : x ≢ k = λ f. false_is_not_true (sym e ∙ eq-eqb x k f) in
          teach_here p fork known (suc x) n (learn ((fork, x) ∷ p) known past) k i (omega (arith, le, d))
          (omega (arith, lt)) h
    ] refl

pub report_is : (p : Name) (known : ℕ → Bool) (past : Name → ℕ → Bool) (q : Name) (i : ℕ)
    → report p known past q i ≡ true
    → (past q i ≡ true) ⊎ ((a : ℕ × ℕ) × (p ≡ a ∷ q) × (known i ≡ true))
report_is [] known past q i h = inl h
report_is (a ∷ p) known past q i h =
    ⊎_elim (λ (x : past q i ≡ true). inl x) (λ (x : (p ≡ q) × (known i ≡ true)). inr (a, ap (λ z. a ∷ z) x.0, x.1))
    (learn_is p known past q i h)

pub report_here : (p : Name) (known : ℕ → Bool) (past : Name → ℕ → Bool) (a : ℕ × ℕ) (q : Name) (i : ℕ) → p ≡ a ∷ q
    → known i ≡ true → report p known past q i ≡ true
report_here p known past a q i e h = subst (λ z. report z known past q i ≡ true) (sym e) (learn_here q known past i h)

-- flags

pub any_is : (F : Name → Bool) (p : Name) (f m : ℕ) → any_child F p f m ≡ true
    → (k : ℕ) × (k < m) × (F ((f, k) ∷ p) ≡ true)
any_is F p f zero h = false_is_not_true h
any_is F p f (suc m) h = ⊎_elim
    (λ (x : F ((f, m) ∷ p) ≡ true). (m, omega arith, x))
    (λ (x : any_child F p f m ≡ true). let r = any_is F p f m x in let l = r.1 in (r.0, omega (arith, l), r.2))
    (or_cases (F ((f, m) ∷ p)) (any_child F p f m) h)

pub any_here : (F : Name → Bool) (p : Name) (f m k : ℕ) → k < m → F ((f, k) ∷ p) ≡ true → any_child F p f m ≡ true
any_here F p f zero k lt h = absurd (omega (arith, lt))
any_here F p f (suc m) k lt h = elim (m == k) as (λ b. m == k ≡ b → F ((f, m) ∷ p) || any_child F p f m ≡ true) [
  | true ↦ λ e. or_left (F ((f, m) ∷ p)) (any_child F p f m)
      (subst (λ z. F ((f, z) ∷ p) ≡ true) (sym (eqb-true m k e)) h)
  | false ↦ λ e. let d : m ≢ k = λ g. false_is_not_true (sym e ∙ eq-eqb m k g) in
      or_right (F ((f, m) ∷ p)) (any_child F p f m) (any_here F p f m k (omega (arith, lt, d)) h)
] refl

pub key_is : (p : Name) (b : Bool) (F : Name → Bool) (q : Name) → at_key same_name p b F q ≡ true
    → ((p ≡ q) × (b ≡ true)) ⊎ (F q ≡ true)
key_is p b F q h = by (same_name p q) (name_is p q) h
  where
    by : (c : Bool) → (c ≡ true → p ≡ q) → cond c b (F q) ≡ true → ((p ≡ q) × (b ≡ true)) ⊎ (F q ≡ true)
    by true f h = inl (f refl, h)
    by false f h = inr h

pub key_here : (p : Name) (b : Bool) (F : Name → Bool) → b ≡ true → at_key same_name p b F p ≡ true
key_here p b F h = ap (λ c. cond c b (F p)) (name_itself p) ∙ h

pub key_more : (p : Name) (b : Bool) (F : Name → Bool) (q : Name) → (F p ≡ true → b ≡ true) → F q ≡ true
    → at_key same_name p b F q ≡ true
key_more p b F q f h = by (same_name p q) (name_is p q)
  where
    by : (c : Bool) → (c ≡ true → p ≡ q) → cond c b (F q) ≡ true
    by true g = f (subst (λ z. F z ≡ true) (sym (g refl)) h)
    by false g = h
