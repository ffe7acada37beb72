-- Tests on sets of variables, and what they say.
use Rattle.std.proofs.Common.{◌≡◌, ◌≢◌, ◌↔◌, ◌⊎◌, inl, inr, ℕ, zero, suc, ◌*◌, ◌<◌, ◌≤◌, Bool, true, false, ◌||◌, ◌&&◌}
use Rattle.std.proofs.Common.{not, List, [], ◌∷◌, length, refl, subst, arith}
use Rattle.std.proofs.lemmas.Bool.{cases_eq, and_from, or_cases, or_left, or_right}
use Rattle.std.specs.List.{list_any}
use Rattle.sp_base.proofs.Facts.{first_true, same_if_both_follow, second_true}
use Rattle.sp_tree.specs.Interference.{IsMember}
use Rattle.sp_varsets.specs.declared.sets.Sets.{Sets}
use Rattle.sp_varsets.specs.declared.var_set.VarSet.{VarSet}
use Rattle.sp_varsets.specs.Members.{has}
use Rattle.sp_varsets.specs.AreSets.{targets_of, expressions_of}
use Rattle.sp_varsets.proofs.Words.{below_words}
use Rattle.sp_interfere.specs.Tests.{some_below, some_in, is_any, is_declared, meets, clash}

pub not_false : (a : Bool) → (a ≡ true → ⊥) → false ≡ a
not_false true h = absurd (h refl)
not_false false h = refl

below_from : (n : ℕ) (test : ℕ → Bool) → some_below n test ≡ true → (x : ℕ) × (test x ≡ true)
unfolding some_below
below_from zero test h = absurd (cc h)
below_from (suc n) test h = go (or_cases (test n) (some_below n test) h) (below_from n test)
  where
    go : (test n ≡ true) ⊎ (some_below n test ≡ true) → (some_below n test ≡ true → (x : ℕ) × (test x ≡ true)) → (x : ℕ)
        × (test x ≡ true)
    go (inl e) more = (n, e)
    go (inr e) more = more e

below_to : (n : ℕ) (test : ℕ → Bool) (x : ℕ) → x < n → test x ≡ true → some_below n test ≡ true
unfolding some_below
below_to zero test x l h = absurd (omega arith)
below_to (suc n) test x l h = go (cases_eq x n) (λ k. below_to n test x k h)
  where
    go : (x ≡ n) ⊎ (x ≢ n) → (x < n → some_below n test ≡ true) → test n || some_below n test ≡ true
    go (inl e) more = or_left (test n) (some_below n test) (subst (λ z. test z ≡ true) e h)
    go (inr e) more = or_right (test n) (some_below n test) (more (omega (arith, e)))

pub some_from : (a : VarSet) (test : ℕ → Bool) → some_in a test ≡ true → (x : ℕ) × (has a x ≡ true) × (test x ≡ true)
some_from a test h =
    let s = below_from (64 * length a.words) (λ x. has a x && test x) h in
    (s.0, first_true (has a s.0) (test s.0) s.1, second_true (has a s.0) (test s.0) s.1)

pub some_to : (a : VarSet) (test : ℕ → Bool) (x : ℕ) → has a x ≡ true → test x ≡ true → some_in a test ≡ true
some_to a test x h t = below_to (64 * length a.words) (λ x. has a x && test x) x (below_words a.words x h)
    (and_from (has a x) (test x) h t)

pub declared_from : (x : ℕ) → is_declared x ≡ true → 2 ≤ x
declared_from zero h = absurd (cc h)
declared_from (suc zero) h = absurd (cc h)
declared_from (suc (suc x)) h = omega arith

pub declared_to : (x : ℕ) → 2 ≤ x → is_declared x ≡ true
declared_to zero h = absurd (omega arith)
declared_to (suc zero) h = absurd (omega arith)
declared_to (suc (suc x)) h = refl

-- what the readers of sets answer
pub meets_is : (a b : VarSet) (r : Bool) → (r ≡ true) ↔ ((x : ℕ) × (has a x ≡ true) × (has b x ≡ true)) → r ≡ meets a b
meets_is a b r h = same_if_both_follow r (meets a b) (λ e. let s = h.0 e in some_to a (has b) s.0 s.1 s.2)
    (λ e. h.1 (some_from a (has b) e))

pub any_is : (a : VarSet) (r : Bool) → (r ≡ true) ↔ ((x : ℕ) → has a x ≡ false) → not r ≡ some_in a is_any
any_is a r h = same_if_both_follow (not r) (some_in a is_any) (there r h) (here r h)
  where
    here : (r : Bool) → (r ≡ true) ↔ ((x : ℕ) → has a x ≡ false) → some_in a is_any ≡ true → not r ≡ true
    here true h e = let s = some_from a is_any e in absurd (cc (h.0 refl s.0, s.1))
    here false h e = refl

    there : (r : Bool) → (r ≡ true) ↔ ((x : ℕ) → has a x ≡ false) → not r ≡ true → some_in a is_any ≡ true
    there true h e = absurd (cc e)
    there false h e = by (some_in a is_any) refl
      where
        none : some_in a is_any ≡ false → (x : ℕ) (b : Bool) → has a x ≡ b → b ≡ false
        none z x true k = absurd (let y = some_to a is_any x k refl in cc (y, z))
        none z x false k = refl

        by : (b : Bool) → some_in a is_any ≡ b → some_in a is_any ≡ true
        by true k = k
        by false k = absurd (let y = h.1 (λ x. none k x (has a x) refl) in cc y)

pub declared_is : (a : VarSet) (r : Bool) → (r ≡ true) ↔ ((x : ℕ) × (2 ≤ x) × (has a x ≡ true))
    → r ≡ some_in a is_declared
declared_is a r h =
    same_if_both_follow r (some_in a is_declared)
    (λ e. let s = h.0 e in some_to a is_declared s.0 s.2 (declared_to s.0 s.1))
    (λ e. let s = some_from a is_declared e in h.1 (s.0, declared_from s.0 s.2, s.1))

-- a test of lists
pub any_from : (test : ℕ → Bool) (xs : List ℕ) → list_any test xs ≡ true → (x : ℕ) × IsMember x xs × (test x ≡ true)
any_from test [] h = absurd (cc h)
any_from test (y ∷ ys) h = go (or_cases (test y) (list_any test ys) h) (any_from test ys)
  where
    go : (test y ≡ true) ⊎ (list_any test ys ≡ true)
        → (list_any test ys ≡ true → (x : ℕ) × IsMember x ys × (test x ≡ true)) → (x : ℕ) × IsMember x (y ∷ ys)
        × (test x ≡ true)
    go (inl e) more = (y, inl refl, e)
    go (inr e) more = let s = more e in (s.0, inr s.1, s.2)

pub any_to : (test : ℕ → Bool) (xs : List ℕ) (x : ℕ) → IsMember x xs → test x ≡ true → list_any test xs ≡ true
any_to test [] x i h = absurd i
any_to test (y ∷ ys) x (inl e) h = or_left (test y) (list_any test ys) (subst (λ z. test z ≡ true) e h)
any_to test (y ∷ ys) x (inr i) h = or_right (test y) (list_any test ys) (any_to test ys x i h)

-- of two statements, as sets of variables
module _ (s : Sets) where
  pub clash_from : (m n : ℕ) → clash s m n ≡ true → (x : ℕ)
      × (((has (targets_of s n) x ≡ true) × ((has (targets_of s m) x ≡ true) ⊎ (has (expressions_of s m) x ≡ true)))
      ⊎ ((has (expressions_of s n) x ≡ true) × (has (targets_of s m) x ≡ true)))
  clash_from m n h = go (or_cases (meets (targets_of s n) (targets_of s m)) _ h)
    where
      more : (meets (targets_of s n) (expressions_of s m) ≡ true) ⊎ (meets (expressions_of s n) (targets_of s m) ≡ true)
          → (x : ℕ) × (((has (targets_of s n) x ≡ true)
          × ((has (targets_of s m) x ≡ true) ⊎ (has (expressions_of s m) x ≡ true)))
          ⊎ ((has (expressions_of s n) x ≡ true) × (has (targets_of s m) x ≡ true)))
      more (inl e) = let a = some_from (targets_of s n) (has (expressions_of s m)) e in (a.0, inl (a.1, inr a.2))
      more (inr e) = let a = some_from (expressions_of s n) (has (targets_of s m)) e in (a.0, inr (a.1, a.2))

      go : (meets (targets_of s n) (targets_of s m) ≡ true)
          ⊎ (meets (targets_of s n) (expressions_of s m) || meets (expressions_of s n) (targets_of s m) ≡ true)
          → (x : ℕ) × (((has (targets_of s n) x ≡ true)
          × ((has (targets_of s m) x ≡ true) ⊎ (has (expressions_of s m) x ≡ true)))
          ⊎ ((has (expressions_of s n) x ≡ true) × (has (targets_of s m) x ≡ true)))
      go (inl e) = let a = some_from (targets_of s n) (has (targets_of s m)) e in (a.0, inl (a.1, inl a.2))
      go (inr e) = more (or_cases (meets (targets_of s n) (expressions_of s m))
          (meets (expressions_of s n) (targets_of s m)) e)

  pub clash_target : (m n x : ℕ) → has (targets_of s n) x ≡ true → (has (targets_of s m) x ≡ true)
      ⊎ (has (expressions_of s m) x ≡ true) → clash s m n ≡ true
  clash_target m n x h (inl k) = or_left (meets (targets_of s n) (targets_of s m)) _
      (some_to (targets_of s n) (has (targets_of s m)) x h k)
  clash_target m n x h (inr k) = or_right (meets (targets_of s n) (targets_of s m)) _
      (or_left (meets (targets_of s n) (expressions_of s m)) _
      (some_to (targets_of s n) (has (expressions_of s m)) x h k))

  pub clash_seen : (m n x : ℕ) → has (expressions_of s n) x ≡ true → has (targets_of s m) x ≡ true → clash s m n ≡ true
  clash_seen m n x h k = or_right (meets (targets_of s n) (targets_of s m)) _
      (or_right (meets (targets_of s n) (expressions_of s m)) _
      (some_to (expressions_of s n) (has (targets_of s m)) x h k))
