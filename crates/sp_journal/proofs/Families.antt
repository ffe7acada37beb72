-- Looking for the family of a process.
use Rattle.std.proofs.Common.{◌≡◌, ◌≢◌, ℕ, zero, suc, ◌-◌, ◌<◌, ◌≤◌, Bool, true, false, nat_le, List, [], ◌∷◌, ◌++◌}
use Rattle.std.proofs.Common.{length, get_or, Option, Some, None, slice_get, refl, sym, ap, ◌∙◌, subst, arith}
use Rattle.std.proofs.lemmas.Bool.Decides.{nat_tests}
use Rattle.std.proofs.lemmas.Option.{slice_get-get_or}
use Rattle.std.specs.Option.{option_map}
use Rattle.std.specs.List.Sorted.{IsPartitionPoint}
use Rattle.std.proofs.lemmas.Bool.{leb-true}
use Rattle.sp_journal.specs.declared.entry.Birth.{Birth}
use Rattle.sp_journal.specs.declared.ledger.Family.{Family}
use Rattle.sp_journal.specs.declared.ledger.Ledger.{Ledger}
use Rattle.sp_journal.specs.Births.{births}
use Rattle.sp_journal.specs.Ledger.{family_of, IsLedger}

abbrev pub begins : ℕ → Family → Bool
begins q f = nat_le f.first q

-- none begins at q or before
pub family_none : (fs : List Family) (q : ℕ) → ((k : ℕ) (d : Family) → k < length fs → begins q (get_or fs k d) ≡ false)
    → family_of fs q ≡ None
family_none [] q h = refl
family_none (f ∷ fs) q h =
    let rest : family_of fs q ≡ None = family_none fs q (λ k d l. h (suc k) d (omega arith)) in
    let this : begins q f ≡ false = h 0 f (omega arith) in
    rw rest (rw this refl)

-- the first i begin at q or before, and the others do not
pub family_at : (fs : List Family) (q i : ℕ) → i < length fs
    → ((k : ℕ) (d : Family) → k < suc i → begins q (get_or fs k d) ≡ true)
    → ((k : ℕ) (d : Family) → suc i ≤ k → k < length fs → begins q (get_or fs k d) ≡ false)
    → family_of fs q ≡ slice_get fs i
family_at [] q i l low high = absurd (omega arith)
family_at (f ∷ fs) q zero l low high =
    let rest : family_of fs q ≡ None = family_none fs q (λ k d h. high (suc k) d (omega arith) (omega arith)) in
    let this : begins q f ≡ true = low 0 f (omega arith) in
    rw rest (rw this refl)
family_at (f ∷ fs) q (suc i) l low high =
    let rest : family_of fs q ≡ slice_get fs i =
    family_at fs q i (omega arith) (λ k d h. low (suc k) d (omega arith))
    (λ k d h m. high (suc k) d (omega arith) (omega arith)) in
    rw rest (rw (slice_get-get_or fs i f (omega arith)) refl)

pub family_from_point : (fs : List Family) (q i : ℕ)
    → IsPartitionPoint (λ f. begins q f ≡ true) (λ f. begins q f ≡ false) fs i → 0 < i → i ≤ length fs
    → family_of fs q ≡ slice_get fs (i - 1)
family_from_point fs q zero h l m = absurd (omega arith)
family_from_point fs q (suc i) h l m =
    let e : suc i - 1 ≡ i = omega arith in
    rw e (family_at fs q i (omega arith) (λ k d o. h.0 k d (omega arith) o) (λ k d o n. h.1 k d o n))

pub no_family_from_point : (fs : List Family) (q : ℕ)
    → IsPartitionPoint (λ f. begins q f ≡ true) (λ f. begins q f ≡ false) fs 0 → family_of fs q ≡ None
no_family_from_point fs q h = family_none fs q (λ k d l. h.1 k d (omega arith) l)

-- one more family, which begins above q or not
pub family_push_above : (fs : List Family) (f : Family) (q : ℕ) → q < f.first
    → family_of (fs ++ f ∷ []) q ≡ family_of fs q
family_push_above [] f q l = let e : begins q f ≡ false = grind (arith, nat_tests) in rw e refl
family_push_above (g ∷ fs) f q l = rw (family_push_above fs f q l) refl

pub family_push_at : (fs : List Family) (f : Family) (q : ℕ) → f.first ≤ q → family_of (fs ++ f ∷ []) q ≡ Some f
family_push_at [] f q l = let e : begins q f ≡ true = grind (arith, nat_tests) in rw e refl
family_push_at (g ∷ fs) f q l = rw (family_push_at fs f q l) refl

abbrev pub Point : List Family → ℕ → ℕ → Type 0
Point fs q i = IsPartitionPoint (λ (f : Family). begins q f ≡ true) (λ (f : Family). begins q f ≡ false) fs i

abbrev pub birth_of : Family → ℕ → Birth
birth_of f q = record { parent = f.parent; fork = f.fork; child = q - f.first }

module _ (l : Ledger) (ledger : IsLedger l) (q : ℕ) (there : q < (births l.journal.entries).processes)
    (fs : List Family) (same : fs ≡ l.families) where
  is_birth : ◌≡◌ {A = Option Birth} (option_map (λ (f : Family). birth_of f q) (family_of fs q))
      ((births l.journal.entries).birth q)
  is_birth = ap (λ (gs : List Family). option_map (λ (f : Family). birth_of f q) (family_of gs q)) same
      ∙ sym (ledger.families q there)

  pub no_birth_from_point : (i : ℕ) → Point fs q i → i ≡ 0 → None ≡ (births l.journal.entries).birth q
  no_birth_from_point i h e = sym (ap (option_map (λ (f : Family). birth_of f q))
      (no_family_from_point fs q (subst (Point fs q) e h))) ∙ is_birth

  pub birth_from_point : (i : ℕ) (d : Family) → Point fs q i → i ≢ 0 → i ≤ length fs
      → Some (birth_of (get_or fs (i - 1) d) q) ≡ (births l.journal.entries).birth q
  birth_from_point i d h some few =
      let e : family_of fs q ≡ slice_get fs (i - 1) = family_from_point fs q i h (omega arith) few in
      let g : slice_get fs (i - 1) ≡ Some (get_or fs (i - 1) d) = slice_get-get_or fs (i - 1) d (omega arith) in
      sym (ap (option_map (λ (f : Family). birth_of f q)) (e ∙ g)) ∙ is_birth

pub first_from_point : (q : ℕ) (fs : List Family) (i : ℕ) (d : Family) → Point fs q i → i ≢ 0
    → (get_or fs (i - 1) d).first ≤ q
first_from_point q fs i d h some = leb-true _ q (h.0 (i - 1) d (omega arith) (omega arith))
