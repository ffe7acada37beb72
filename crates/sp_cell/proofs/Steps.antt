-- One more spot of a fork or a join, as a loop takes it. The proofs of the loops of the store and of the machine use
-- it, for what the first k spots have done.
use Rattle.std.specs.Prelude.{◌≡◌, ℕ, zero, suc, ◌+◌, ◌<◌, ◌≢◌, List, [], ◌∷◌, length, take, Option, None, Some, IsSome}
use Rattle.std.specs.Prelude.{max, replicate}
use Rattle.std.proofs.Common.{sym, subst, ap, refl, ◌∙◌, get_or, arith, inl, inr}
use Rattle.std.specs.FinMap as map
use Rattle.sp_cell.specs.declared.spot.Spot.{Spot}
use Rattle.sp_cell.specs.Map.{Map, Content, Own, Shared, Away, cells_at}
use Rattle.sp_cell.specs.declared.cell.Cell.TheVariants.{Undefined}
use Rattle.sp_cell.specs.Fork.{insert_if_found, with_contents, with_shared, with_away, IsLentAt}
use Rattle.sp_cell.specs.Spots.{DistinctByIndex}
use Rattle.sp_cell.specs.Frame.{with_pieces, least_above, frames}
use Rattle.sp_cell.proofs.Laws.{get_other, get_here, known_insert, same_or}

taken_suc : (m : Map) (ss : List Spot) (c : Map) (k : ℕ) (d : Spot) → k < length ss
    → with_contents m (take (suc k) ss) c ≡ insert_if_found (with_contents m (take k ss) c) (get_or ss k d)
    (map.get m (get_or ss k d))
taken_suc m [] c k d b = absurd (omega arith)
taken_suc m (s ∷ ss) c zero d b = refl
taken_suc m (s ∷ ss) c (suc k) d b = taken_suc m ss (insert_if_found c s (map.get m s)) k d (omega arith)

away_suc : (m : Map) (ss : List Spot) (k : ℕ) (d : Spot) → k < length ss
    → with_away m (take (suc k) ss) ≡ map.insert (with_away m (take k ss)) (get_or ss k d) Away
away_suc m [] k d b = absurd (omega arith)
away_suc m (s ∷ ss) zero d b = refl
away_suc m (s ∷ ss) (suc k) d b = away_suc (map.insert m s Away) ss k d (omega arith)

lent_suc : (m : Map) (ss : List Spot) (c : Map) (k : ℕ) (d : Spot) → k < length ss
    → with_shared m (take (suc k) ss) c ≡ map.insert (with_shared m (take k ss) c) (get_or ss k d)
    (Shared (cells_at m (get_or ss k d)))
lent_suc m [] c k d b = absurd (omega arith)
lent_suc m (s ∷ ss) c zero d b = refl
lent_suc m (s ∷ ss) c (suc k) d b = lent_suc m ss (map.insert c s (Shared (cells_at m s))) k d (omega arith)

-- with the value that is found
pub taken_step : (m : Map) (ss : List Spot) (c : Map) (k : ℕ) (d : Spot) (h : Content) → k < length ss
    → map.get m (get_or ss k d) ≡ Some h → with_contents m (take (k + 1) ss) c
    ≡ map.insert (with_contents m (take k ss) c) (get_or ss k d) h
taken_step m ss c k d h b g =
    let at : insert_if_found (with_contents m (take k ss) c) (get_or ss k d) (map.get m (get_or ss k d))
    ≡ map.insert (with_contents m (take k ss) c) (get_or ss k d) h = rw g refl in
    subst (λ n. with_contents m (take n ss) c ≡ map.insert (with_contents m (take k ss) c) (get_or ss k d) h) {x =
    suc k} (omega arith)
    (taken_suc m ss c k d b ∙ at)

pub away_step : (m : Map) (ss : List Spot) (k : ℕ) (d : Spot) → k < length ss
    → with_away m (take (k + 1) ss) ≡ map.insert (with_away m (take k ss)) (get_or ss k d) Away
away_step m ss k d b = subst (λ n. with_away m (take n ss) ≡ map.insert (with_away m (take k ss)) (get_or ss k d) Away)
    {x = suc k} (omega arith) (away_suc m ss k d b)

pub lent_step : (m : Map) (ss : List Spot) (c : Map) (k : ℕ) (d : Spot) → k < length ss
    → with_shared m (take (k + 1) ss) c ≡ map.insert (with_shared m (take k ss) c) (get_or ss k d)
    (Shared (cells_at m (get_or ss k d)))
lent_step m ss c k d b = subst (λ n. with_shared m (take n ss) c
    ≡ map.insert (with_shared m (take k ss) c) (get_or ss k d) (Shared (cells_at m (get_or ss k d)))) {x = suc k}
    (omega arith)
    (lent_suc m ss c k d b)

-- a spot that none of the first k is stays as it was
pub get_away_before : (m : Map) (ss : List Spot) (k : ℕ) (d q : Spot)
    → ((j : ℕ) → j < k → j < length ss → get_or ss j d ≢ q) → map.get (with_away m (take k ss)) q ≡ map.get m q
get_away_before m [] zero d q n = refl
get_away_before m [] (suc k) d q n = refl
get_away_before m (s ∷ ss) zero d q n = refl
get_away_before m (s ∷ ss) (suc k) d q n = get_away_before (map.insert m s Away) ss k d q
    (λ j l b. n (suc j) (omega arith) (omega arith))
    ∙ get_other m s Away q (λ e. n 0 (omega arith) (omega arith) (sym e))

-- the next of distinct spots is as it was
pub get_away_next : (m : Map) (ss : List Spot) (k : ℕ) (d : Spot) → DistinctByIndex ss → k < length ss
    → map.get (with_away m (take k ss)) (get_or ss k d) ≡ map.get m (get_or ss k d)
get_away_next m ss k d n b = get_away_before m ss k d (get_or ss k d) (λ j l h. n j k d l b)

pub known_away : (m : Map) (ss : List Spot) (q : Spot) → IsSome (map.get m q) → IsSome (map.get (with_away m ss) q)
known_away m [] q k = k
known_away m (s ∷ ss) q k = known_away (map.insert m s Away) ss q (known_insert m s Away q k)

known_hold : (c : Map) (s : Spot) (o : Option Content) (q : Spot) → IsSome (map.get c q)
    → IsSome (map.get (insert_if_found c s o) q)
known_hold c s None q k = k
known_hold c s (Some h) q k = known_insert c s h q k

pub known_taken : (m : Map) (ss : List Spot) (c : Map) (q : Spot) → IsSome (map.get c q)
    → IsSome (map.get (with_contents m ss c) q)
known_taken m [] c q k = k
known_taken m (s ∷ ss) c q k = known_taken m ss (insert_if_found c s (map.get m s)) q (known_hold c s (map.get m s) q k)

pub above_step : (ss : List Spot) (k : ℕ) (d : Spot) → k < length ss
    → least_above (frames (take (k + 1) ss)) ≡ max (least_above (frames (take k ss))) ((get_or ss k d).frame + 1)
above_step ss k d b = subst (λ n. least_above (frames (take n ss))
    ≡ max (least_above (frames (take k ss))) ((get_or ss k d).frame + 1)) {x = suc k} (omega arith) (above_suc ss k d b)
  where
    above_suc : (ss : List Spot) (k : ℕ) (d : Spot) → k < length ss
        → least_above (frames (take (suc k) ss)) ≡ max (least_above (frames (take k ss))) ((get_or ss k d).frame + 1)
    above_suc [] k d b = absurd (omega arith)
    above_suc (s ∷ ss) zero d b = omega arith
    above_suc (s ∷ ss) (suc k) d b = omega (arith, above_suc ss k d (omega arith))

pub lent_lent : (m r : Map) (s : Spot) → ((q : Spot) → IsLentAt m r q) → (q : Spot)
    → IsLentAt m (map.insert r s (Shared (cells_at m s))) q
lent_lent m r s h q = elim (same_or q s) [
  | inl e ↦ inr (rw e (get_here r s (Shared (cells_at m s))))
  | inr n ↦ rw (get_other r s (Shared (cells_at m s)) q n) (h q)
]

pieces_suc : (m : Map) (n v : ℕ) (cs : List ℕ) (k d : ℕ) → k < length cs
    → with_pieces m n v (take (suc k) cs) ≡ map.insert (with_pieces m n v (take k cs))
    (record { frame = n; variable = v + k }) (Own (replicate (get_or cs k d) Undefined))
pieces_suc m n v [] k d b = absurd (omega arith)
pieces_suc m n v (c ∷ cs) zero d b = let e : v ≡ v + 0 = omega arith in
    ap (λ (x : ℕ). map.insert m (record { frame = n; variable = x }) (Own (replicate c Undefined))) e
pieces_suc m n v (c ∷ cs) (suc k) d b =
    let e : v + 1 + k ≡ v + suc k = omega arith in
    pieces_suc (map.insert m (record { frame = n; variable = v }) (Own (replicate c Undefined))) n (v + 1) cs k d
    (omega arith)
    ∙ ap (λ (x : ℕ). map.insert (with_pieces
    (map.insert m (record { frame = n; variable = v }) (Own (replicate c Undefined))) n (v + 1) (take k cs))
    (record { frame = n; variable = x }) (Own (replicate (get_or cs k d) Undefined))) e

pub pieces_step : (m : Map) (n v : ℕ) (cs : List ℕ) (k d : ℕ) → k < length cs
    → with_pieces m n v (take (k + 1) cs) ≡ map.insert (with_pieces m n v (take k cs))
    (record { frame = n; variable = v + k }) (Own (replicate (get_or cs k d) Undefined))
pieces_step m n v cs k d b = subst (λ x. with_pieces m n v (take x cs)
    ≡ map.insert (with_pieces m n v (take k cs)) (record { frame = n; variable = v + k })
    (Own (replicate (get_or cs k d) Undefined))) {x = suc k} (omega arith) (pieces_suc m n v cs k d b)
