-- Laws of the map of a store: what is found after an insert, and when two maps are one. The other laws here and the
-- proofs of the crates above go by them.
use Rattle.std.specs.Prelude.{◌≡◌, cond, Option, Some, None, ◌≢◌, ◌⊎◌, IsSome, replicate}
use Rattle.std.proofs.Common.{sym, ap, refl, ◌∙◌, inl, inr, List, ℕ, ⊎_elim, ◌+◌, ◌∷◌, subst, []}
use Rattle.std.proofs.lemmas.Cmp.{tied_itself}
use Rattle.std.specs.Ordering.{is_eq}
use Rattle.std.specs.declared.cmp.Ordering.{Ordering}
use Rattle.std.specs.declared.cmp.Ordering.TheVariants.{Less, Equal, Greater}
use Rattle.std.specs.FinMap as map
use Rattle.sp_cell.specs.declared.spot.Spot.{Spot}
use Rattle.sp_cell.specs.Map.{Map, Content, Away, IsHeld, IsPiece, spot_cmp, IsOwn, Output, Own, Shared}
use Rattle.sp_cell.proofs.Order.{spot_total, spot_same}
use Rattle.sp_cell.specs.declared.cell.Cell.{Cell}
use Rattle.sp_cell.specs.declared.cell.Cell.TheVariants as cell
use Rattle.sp_cell.specs.Frame.{with_pieces}

pub apart_less : (r : Ordering) → r ≡ Less → r ≡ Equal → ⊥
apart_less r p q = cc

pub apart_greater : (r : Ordering) → r ≡ Greater → r ≡ Equal → ⊥
apart_greater r p q = cc

-- what is found at q after an insert at s
by_spot : (m : Map) (s : Spot) (h : Content) (q : Spot) (r : Ordering) → spot_cmp q s ≡ r → map.get m s ≡ Some h
    → cond (is_eq r) (Some h) (map.get m q) ≡ map.get m q
by_spot m s h q Less e g = refl
by_spot m s h q Equal e g = sym g ∙ map.get_tied spot_total m q s e
by_spot m s h q Greater e g = refl

-- to insert what is there changes nothing
pub insert_same : (m : Map) (s : Spot) (h : Content) → map.get m s ≡ Some h → map.insert m s h ≡ m
insert_same m s h g = map.same_map spot_total spot_same _ _
    (λ q. map.get-insert spot_total m s h q ∙ by_spot m s h q (spot_cmp q s) refl g)

other_by : (m : Map) (s : Spot) (h : Content) (q : Spot) → q ≢ s → (r : Ordering) → spot_cmp q s ≡ r
    → cond (is_eq r) (Some h) (map.get m q) ≡ map.get m q
other_by m s h q n Less e = refl
other_by m s h q n Equal e = absurd (n (spot_same q s e))
other_by m s h q n Greater e = refl

-- an insert changes no other spot
pub get_other : (m : Map) (s : Spot) (h : Content) (q : Spot) → q ≢ s → map.get (map.insert m s h) q ≡ map.get m q
get_other m s h q n = map.get-insert spot_total m s h q ∙ other_by m s h q n (spot_cmp q s) refl

pub get_here : (m : Map) (s : Spot) (h : Content) → map.get (map.insert m s h) s ≡ Some h
get_here m s h = map.get-insert spot_total m s h s
    ∙ ap (λ r. cond (is_eq r) (Some h) (map.get m s)) (tied_itself spot_total s)

-- whether two spots are one
pub same_or : (q s : Spot) → (q ≡ s) ⊎ (q ≢ s)
same_or q s = same_by q s (spot_cmp q s) refl
  where
    same_by : (q s : Spot) (r : Ordering) → spot_cmp q s ≡ r → (q ≡ s) ⊎ (q ≢ s)
    same_by q s Less e = inr (λ p. apart_less _ e (ap (λ t. spot_cmp t s) p ∙ tied_itself spot_total s))
    same_by q s Equal e = inl (spot_same q s e)
    same_by q s Greater e = inr (λ p. apart_greater _ e (ap (λ t. spot_cmp t s) p ∙ tied_itself spot_total s))

-- two maps that answer alike are one
pub same_map : (m n : Map) → ((q : Spot) → map.get m q ≡ map.get n q) → m ≡ n
same_map m n is = map.same_map spot_total spot_same m n is

-- a spot that is known stays known
pub known_insert : (m : Map) (s : Spot) (h : Content) (q : Spot) → IsSome (map.get m q)
    → IsSome (map.get (map.insert m s h) q)
known_insert m s h q k = elim (same_or q s) [
  | inl e ↦ rw (e, get_here m s h) refl
  | inr n ↦ rw (get_other m s h q n) k
]

pub known_of_held : (o : Option Content) → IsHeld o → IsSome o
known_of_held (Some h) p = refl
known_of_held None p = absurd p

pub known_of_piece : (o : Option Content) → IsPiece o → IsSome o
known_of_piece (Some h) p = refl
known_of_piece None p = absurd p

pub known_of_away : (o : Option Content) → o ≡ Some Away → IsSome o
known_of_away o p = rw p refl

-- the later of two inserts at one spot stands
pub insert_twice : (m : Map) (s : Spot) (g h : Content) → map.insert (map.insert m s g) s h ≡ map.insert m s h
insert_twice m s g h = same_map _ _ (λ q. elim (same_or q s) [
  | inl e ↦ rw e (get_here (map.insert m s g) s h ∙ sym (get_here m s h))
  | inr n ↦ get_other (map.insert m s g) s h q n ∙ get_other m s g q n ∙ sym (get_other m s h q n)
])

-- what is own is a piece
pub piece_of_own : (o : Option Content) → IsOwn o → IsPiece o
piece_of_own None h = h
piece_of_own (Some (Own cs)) h = tt
piece_of_own (Some (Shared cs)) h = absurd h
piece_of_own (Some (Output bs)) h = absurd h
piece_of_own (Some Away) h = absurd h

-- what is own is not away
pub own_away : {cs : List Cell} → Some (Own cs) ≢ Some Away
own_away e = cc e

-- where nothing is away, nothing is once there are new pieces
pub pieces_not_away : (m : Map) (n v : ℕ) (cs : List ℕ) → ((q : Spot) → map.get m q ≢ Some Away) → (q : Spot)
    → map.get (with_pieces m n v cs) q ≢ Some Away
pieces_not_away m n v [] g q = g q
pieces_not_away m n v (c ∷ cs) g q = pieces_not_away
    (map.insert m (record { frame = n; variable = v }) (Own (replicate c cell.Undefined))) n (v + 1) cs one q
  where
    one : (q : Spot) → map.get (map.insert m (record { frame = n; variable = v })
        (Own (replicate c cell.Undefined))) q ≢ Some Away
    one q e = ⊎_elim
        (λ (i : q ≡ record { frame = n; variable = v }). own_away
        (sym (get_here m (record { frame = n; variable = v }) (Own (replicate c cell.Undefined)))
        ∙ ap (λ y. map.get (map.insert m (record { frame = n; variable = v }) (Own (replicate c cell.Undefined))) y)
        (sym i) ∙ e))
        (λ (o : q ≢ record { frame = n; variable = v }). g q
        (sym (get_other m (record { frame = n; variable = v }) (Own (replicate c cell.Undefined)) q o) ∙ e))
        (same_or q (record { frame = n; variable = v }))

-- what is held is not away
pub held_not_away : (o : Option Content) → IsHeld o → o ≢ Some Away
held_not_away o i e = subst IsHeld e i
