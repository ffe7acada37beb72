-- Lists of numbers, frames and their ends.
use Rattle.std.proofs.Common.{◌≡◌, ◌⊎◌, inl, inr, ⊎_elim, ℕ, zero, suc, ◌+◌, ◌-◌, ◌≤◌, ◌<◌, ◌==◌, List, [], ◌∷◌, ◌++◌}
use Rattle.std.proofs.Common.{length, drop, Some, Bool, true, false, refl, sym, ap, ◌∙◌, subst, arith}
use Rattle.std.proofs.Common.{if◌then◌else◌}
use Rattle.std.specs.Prelude.{slice_get}
use Rattle.std.proofs.lemmas.Bool.{eqb-true}
use Rattle.std.proofs.lemmas.List.{length-drop, drop_all}
use Rattle.sp_base.proofs.Facts.{within_or_past}
use Rattle.sp_tree.specs.Interference.{IsMember, AllDifferent}
pub use Rattle.sp_tree.proofs.Members.{member_front, member_back, member_either, member_at}
use Rattle.sp_cell.proofs.FrameLaws.{is_same}
use Rattle.sp_code.specs.System.{place_of}

pub member_or : (x : ℕ) (ys : List ℕ) → IsMember x ys ⊎ (IsMember x ys → ⊥)
member_or x [] = inr (λ h. h)
member_or x (y ∷ ys) = go (x == y) refl (member_or x ys)
  where
    go : (b : Bool) → x == y ≡ b → IsMember x ys ⊎ (IsMember x ys → ⊥) → IsMember x (y ∷ ys) ⊎ (IsMember x (y ∷ ys) → ⊥)
    go true e m = inl (inl (eqb-true x y e))
    go false e (inl m) = inl (inr m)
    go false e (inr m) = inr (λ h. ⊎_elim (λ (i : x ≡ y). absurd (cc (sym e ∙ is_same x y i))) m h)

pub different_back : (ys zs : List ℕ) → AllDifferent (ys ++ zs) → AllDifferent zs
different_back [] zs d = d
different_back (y ∷ ys) zs d = different_back ys zs d.1

pub different_front : (ys zs : List ℕ) → AllDifferent (ys ++ zs) → AllDifferent ys
different_front [] zs d = tt
different_front (y ∷ ys) zs d = (λ h. d.0 (member_front y ys zs h), different_front ys zs d.1)

pub different_apart : (x : ℕ) (ys zs : List ℕ) → AllDifferent (ys ++ zs) → IsMember x ys → IsMember x zs → ⊥
different_apart x [] zs d h k = h
different_apart x (y ∷ ys) zs d (inl e) k = d.0 (subst (λ z. IsMember z (ys ++ zs)) e (member_back x ys zs k))
different_apart x (y ∷ ys) zs d (inr h) k = different_apart x ys zs d.1 h k

-- ---- places of variables

pub place_some : (x n : ℕ) (ys : List ℕ) → IsMember x ys → (k : ℕ) × (place_of x n ys ≡ Some (n + k))
    × (slice_get ys k ≡ Some x)
place_some x n [] h = absurd h
place_some x n (y ∷ ys) h = go (x == y) refl (λ m. place_some x (suc n) ys m)
  where
    here : n ≡ n + zero
    here = omega arith

    on : (k : ℕ) → suc n + k ≡ n + suc k
    on k = omega arith

    rest : x == y ≡ false → IsMember x (y ∷ ys) → IsMember x ys
    rest e (inl i) = absurd (cc (sym e ∙ is_same x y i))
    rest e (inr m) = m

    go : (b : Bool) → x == y ≡ b
        → (IsMember x ys → (k : ℕ) × (place_of x (suc n) ys ≡ Some (suc n + k)) × (slice_get ys k ≡ Some x)) → (k : ℕ)
        × (place_of x n (y ∷ ys) ≡ Some (n + k)) × (slice_get (y ∷ ys) k ≡ Some x)
    go true e on_rest = (
      zero,
      ap (λ b. if b then Some n else place_of x (suc n) ys) e
          ∙ ap Some here,
      ap Some (sym (eqb-true x y e)),
    )
    go false e on_rest = let w = on_rest (rest e h) in (
      suc w.0,
      ap (λ b. if b then Some n else place_of x (suc n) ys) e
          ∙ w.1 ∙ ap Some (on w.0),
      w.2,
    )

-- ---- ends of lists

-- the end that is as long as an end is that end
pub drop_again : {X : Type 0} → (n : ℕ) (xs : List X) → drop (length xs - length (drop n xs)) xs ≡ drop n xs
drop_again n xs = go (length xs - (length xs - n)) refl
  where
    by : (k : ℕ) → k ≡ length xs - (length xs - n) → (n ≤ length xs) ⊎ (length xs < n) → drop k xs ≡ drop n xs
    by k e (inl l) = ap (λ j. drop j xs) {x = k} {y = n} (omega (arith, e, l))
    by k e (inr l) = drop_all k xs (omega (arith, e, l)) ∙ sym (drop_all n xs (omega (arith, l)))

    go : (k : ℕ) → length xs - (length xs - n) ≡ k → drop (length xs - length (drop n xs)) xs ≡ drop n xs
    go k e = ap (λ j. drop (length xs - j) xs) (length-drop n xs) ∙ ap (λ j. drop j xs) e
        ∙ by k (sym e) (within_or_past n (length xs))
