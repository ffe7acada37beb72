-- Rows of seats, by index, and the seat that takes in the ones before it.
use Rattle.std.proofs.Common.{◌≡◌, ◌≢◌, ◌<◌, false, subst, arith, append_assoc, length-append, ◌⊎◌, inl, inr, ⊎_elim, ℕ}
use Rattle.std.proofs.Common.{zero, suc, ◌+◌, List, [], ◌∷◌, ◌++◌, map, length, refl, sym, ap, ◌∙◌, Some, slice_get}
use mathlib.Core.Option.{some}
use lib.ListN.{get_elem?}
use Rattle.sp_room.specs.declared.view.View.{View}
use Rattle.sp_room.specs.RoomRule.{IsViewAt, view_after_joining}

module _ {X : Type 0} where
  pub get_end : (xs : List X) (x t : X) (k : ℕ) → slice_get (xs ++ x ∷ []) k ≡ Some t → (slice_get xs k ≡ Some t)
      ⊎ ((k ≡ length xs) × (x ≡ t))
  get_end [] x t zero e = inr (refl, cc e)
  get_end [] x t (suc k) e = absurd (cc e)
  get_end (y ∷ ys) x t zero e = inl e
  get_end (y ∷ ys) x t (suc k) e = ⊎_elim (λ h. inl h) (λ h. inr (ap suc h.0, h.1)) (get_end ys x t k e)

  pub get_front : (xs ys : List X) (t : X) (k : ℕ) → slice_get xs k ≡ Some t → slice_get (xs ++ ys) k ≡ Some t
  get_front [] ys t k e = absurd (cc e)
  get_front (x ∷ xs) ys t zero e = e
  get_front (x ∷ xs) ys t (suc k) e = get_front xs ys t k e

  pub get_last : (xs : List X) (x : X) (more : List X) → slice_get (xs ++ x ∷ more) (length xs) ≡ Some x
  get_last [] x more = refl
  get_last (y ∷ ys) x more = get_last ys x more

  pub get_mapped : {Y : Type 0} (f : X → Y) (xs : List X) (t : X) (k : ℕ) → slice_get xs k ≡ Some t
      → get_elem? (map f xs) k ≡ some (f t)
  get_mapped f [] t k e = absurd (cc e)
  get_mapped f (x ∷ xs) t zero e = let same : x ≡ t = cc e in ap (λ (z : X). some (f z)) same
  get_mapped f (x ∷ xs) t (suc k) e = get_mapped f xs t k e

module _ {X Z O N : Type 0} (view : X → View O N) (tab : X → Z) (z : Z) (n : ℕ) (items : List X) where
  abbrev pub Row : Type 0
  Row = (k : ℕ) (t : X) → slice_get items k ≡ Some t → (tab t ≡ z) × IsViewAt n k (view t)

  -- the seat that has taken in all seats from length rest on
  abbrev pub HasTakenIn : List X → View O N → Type 0
  HasTakenIn rest v = (v.spent ≡ false) × (v.holding ≡ false) × (v.from ≡ length rest) × (v.seats_made ≡ n)
      × ((taken : List X) × (items ≡ rest ++ taken) × (v.joined ++ v.own ∷ [] ≡ map (λ t. (view t).own) taken)
      × (v.looked ++ v.seen ∷ [] ≡ map (λ t. (view t).seen) taken))

  pub popped : (rest : List X) (x : X) (more : List X) → items ≡ rest ++ x ∷ more → Row → (tab x ≡ z)
      × IsViewAt n (length rest) (view x)
  popped rest x more e row = row (length rest) x (ap (λ l. slice_get l (length rest)) e ∙ get_last rest x more)

  pub keeps_first : (rest : List X) (x : X) → items ≡ rest ++ x ∷ [] → n ≡ length items → (view x).spent ≡ false
      → (view x).holding ≡ false → Row → HasTakenIn rest (view x)
  keeps_first rest x e long active idle row = let s = (popped rest x [] e row).1 in (
    active,
    idle,
    s.from,
    s.last (omega (arith, long, ap (λ (l : List X). length l) e, length-append rest (x ∷ []))),
    (x ∷ [], e, ap (λ l. l ++ (view x).own ∷ []) s.joined, ap (λ l. l ++ (view x).seen ∷ []) s.looked),
  )

  pub keeps_next : (rest old : List X) (x : X) (v v' : View O N) → old ≡ rest ++ x ∷ [] → HasTakenIn old v
      → v' ≡ view_after_joining v (view x) → Row → HasTakenIn rest v'
  keeps_next rest old x v v' e (active, idle, from, made, (taken, items_are, owns, seens)) is row =
      let whole : items ≡ rest ++ x ∷ taken = items_are ∙ (ap (λ l. l ++ taken) e ∙ append_assoc rest (x ∷ []) taken) in
      let s = (popped rest x taken whole row).1 in
      subst (HasTakenIn rest) (sym is) (
        active,
        idle,
        s.number,
        made,
        (x ∷ taken, whole, ap (λ l. (view x).own ∷ l) owns, ap (λ l. (view x).seen ∷ l) seens),
      )

  pub next_number : (rest old : List X) (x : X) (v : View O N) → old ≡ rest ++ x ∷ [] → HasTakenIn old v → Row
      → (tab x ≡ z)
      × ((view x).number + 1 ≡ v.from)
  next_number rest old x v e (_, _, from, _, (taken, items_are, _, _)) row =
      let whole : items ≡ rest ++ x ∷ taken = items_are ∙ (ap (λ l. l ++ taken) e ∙ append_assoc rest (x ∷ []) taken) in
      let s = popped rest x taken whole row in
      (s.0, omega (arith, s.1.number, from, ap (λ (l : List X). length l) e, length-append rest (x ∷ [])))

  -- where it has taken in all
  pub at_start : (rest : List X) (v : View O N) → length rest ≡ 0 → 0 < length items → n ≡ length items
      → HasTakenIn rest v
      → (v.from ≡ 0) × (v.seats_made ≢ 0) × HasTakenIn [] v
  at_start [] v none several same k = let (_, _, from, made, _) = k in
      (from, (λ z. absurd (omega (arith, z, made, several, same))), k)
  at_start (x ∷ xs) v none several same k = absurd (omega (arith, none))

  pub owns_of : (v : View O N) → HasTakenIn [] v → (k : ℕ) (t : X) → slice_get items k ≡ Some t
      → get_elem? (v.joined ++ v.own ∷ []) k ≡ some (view t).own
  owns_of v (_, _, _, _, (_, items_are, owns, _)) k t e =
      ap (λ l. get_elem? l k) (owns ∙ ap (map (λ u. (view u).own)) (sym items_are))
      ∙ get_mapped (λ u. (view u).own) items t k e

  pub seens_of : (v : View O N) → HasTakenIn [] v → (k : ℕ) (t : X) → slice_get items k ≡ Some t
      → get_elem? (v.looked ++ v.seen ∷ []) k ≡ some (view t).seen
  seens_of v (_, _, _, _, (_, items_are, _, seens)) k t e =
      ap (λ l. get_elem? l k) (seens ∙ ap (map (λ u. (view u).seen)) (sym items_are))
      ∙ get_mapped (λ u. (view u).seen) items t k e
