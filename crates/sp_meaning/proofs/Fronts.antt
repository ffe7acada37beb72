-- Each schedule has exactly one longest lawful front.
use Rattle.std.proofs.Common.{◌≡◌, ◌≢◌, ◌⊎◌, inl, inr, ℕ, suc, ◌+◌, List, [], ◌∷◌, ◌++◌, length, Option, Some, None}
use Rattle.std.proofs.Common.{refl, sym, ap, ◌∙◌, subst, arith}
use Rattle.std.proofs.Common.{zero-add}
use Rattle.sp_base.specs.declared.fault.Fault.{Fault}
use Rattle.sp_base.proofs.Facts.{is_plus_none, next_goes_right}
use Rattle.sp_meaning.specs.Model.{Name}
use Rattle.sp_meaning.specs.LocalWork.{RunInput}
use Rattle.sp_meaning.specs.Runs.{StateOf, start, next_state, Lawful}
use Rattle.sp_meaning.specs.Fronts.{CannotStep, IsLongestFront, go_on_or, longest_from, longest_front}

module _ (g : RunInput) where
  -- one step in front
  longer : (s m : StateOf g) (q : Name) (qs : List Name) (k : ℕ) (t : StateOf g) → s.fault ≡ None
      → next_state g s q ≡ Some m
      → IsLongestFront g m qs k t → IsLongestFront g s (q ∷ qs) (suc k) t
  longer s m q qs k t no_fault e f = record {
    front = q ∷ f.front;
    rest = f.rest;
    whole = ap (λ z. q ∷ z) f.whole;
    size = ap suc f.size;
    leads = (m, no_fault, e, f.leads);
    stops = f.stops;
  }

  at_once : (s : StateOf g) (qs : List Name) → CannotStep g s qs → IsLongestFront g s qs 0 s
  at_once s qs h = record { front = []; rest = qs; whole = refl; size = refl; leads = refl; stops = h }

  -- it is found from n on
  abbrev IsFrontFrom : StateOf g → List Name → ℕ → ℕ × StateOf g → Type 0
  IsFrontFrom s qs n r = (k : ℕ) × (r.0 ≡ n + k) × IsLongestFront g s qs k r.1

  found : (qs : List Name) (n : ℕ) (s : StateOf g) → IsFrontFrom s qs n (longest_from g qs n s)
  found [] n s = (0, omega arith, at_once s [] tt)
  found (q ∷ qs) n s = by s.fault refl (next_state g s q) refl (λ m. found qs (suc n) m)
    where
      by : (x : Option (Name × Fault)) → s.fault ≡ x → (y : Option (StateOf g)) → next_state g s q ≡ y
          → ((m : StateOf g) → IsFrontFrom m qs (suc n) (longest_from g qs (suc n) m))
          → IsFrontFrom s (q ∷ qs) n (go_on_or g (longest_from g qs (suc n)) (n, s) x y)
      by None e None d more = (0, omega arith, at_once s (q ∷ qs) (inr d))
      by None e (Some m) d more = let r = more m in
          (suc r.0, r.1 ∙ next_goes_right n r.0, longer s m q qs r.0 (longest_from g qs (suc n) m).1 e d r.2)
      by (Some f) e y d more = (
        0,
        omega arith,
        at_once s (q ∷ qs) (inl (λ z. let x : Some f ≡ None = sym e ∙ z in absurd (cc x))),
      )

  pub longest_is : (qs : List Name) → IsLongestFront g (start g) qs (longest_front g qs).0 (longest_front g qs).1
  longest_is qs =
      let r = found qs 0 (start g) in
      subst (λ k. IsLongestFront g (start g) qs k (longest_front g qs).1) (sym (r.1 ∙ zero-add r.0)) r.2

  from : (k : ℕ) (s : StateOf g) (q : Name) (rest : List Name) → (s.fault ≢ None) ⊎ (next_state g s q ≡ None)
      → longest_from g (q ∷ rest) k s ≡ (k, s)
  from k s q rest h = by s.fault refl (next_state g s q) refl h
    where
      by : (x : Option (Name × Fault)) → s.fault ≡ x → (y : Option (StateOf g)) → next_state g s q ≡ y
          → (s.fault ≢ None)
          ⊎ (next_state g s q ≡ None) → go_on_or g (longest_from g rest (suc k)) (k, s) x y ≡ (k, s)
      by None e None d h = refl
      by None e (Some m) d (inl f) = absurd (f e)
      by None e (Some m) d (inr n) = let x : ◌≡◌ {A = Option (StateOf g)} (Some m) None = sym d ∙ n in absurd (cc x)
      by (Some f) e y d h = refl

  at_end : (k : ℕ) (s t : StateOf g) (rest : List Name) → t ≡ s → CannotStep g t rest → longest_from g rest k s ≡ (k, s)
  at_end k s t [] l h = refl
  at_end k s t (q ∷ rest) l h = from k s q rest (subst (λ (z : StateOf g). CannotStep g z (q ∷ rest)) l h)

  only_by : (front rest : List Name) (k : ℕ) (s t : StateOf g) → Lawful g s front t → CannotStep g t rest
      → longest_from g (front ++ rest) k s ≡ (k + length front, t)
  only_by [] rest k s t l h = at_end k s t rest l h ∙ pair (is_plus_none k) (sym l)
    where
      pair : {a b : ℕ} {c d : StateOf g} → a ≡ b → c ≡ d → ◌≡◌ {A = ℕ × StateOf g} (a, c) (b, d)
      pair e f = λ i. (e i, f i)
  only_by (q ∷ front) rest k s t (next, no_fault, steps, leads) h =
      ap (λ x. go_on_or g (longest_from g (front ++ rest) (suc k)) (k, s) x (next_state g s q)) no_fault
      ∙ ap (go_on_or g (longest_from g (front ++ rest) (suc k)) (k, s) None) steps
      ∙ only_by front rest (suc k) next t leads h ∙ ap (λ n. (n, t)) (next_goes_right k (length front))

  pub only : (qs : List Name) (n : ℕ) (t : StateOf g) → IsLongestFront g (start g) qs n t → longest_front g qs ≡ (n, t)
  only qs n t f = ap (λ z. longest_from g z 0 (start g)) f.whole ∙ only_by f.front f.rest 0 (start g) t f.leads f.stops
      ∙ ap (λ k. (k, t)) (zero-add (length f.front) ∙ f.size)
