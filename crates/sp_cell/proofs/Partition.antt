-- What a fork leaves to whom, and that its joins give the map back. The contract of `split` promises it as laws of
-- the definition in `Fork.antt`, so that a wrong `map_after_fork` would be seen.
use Rattle.std.specs.Prelude.{◌≡◌, ℕ, ℤ, ◌<◌, ◌≢◌, List, [], ◌∷◌, ◌++◌, Option, None, Some, IsSome}
use Rattle.std.proofs.Common.{sym, ap, refl, ◌∙◌, arith, inl, inr}
use Rattle.std.specs.FinMap as map
use Rattle.sp_cell.specs.declared.spot.Spot.{Spot}
use Rattle.sp_cell.specs.declared.spot.Handing.{Handing}
use Rattle.sp_cell.specs.Map.{Map, Shared, Away, cells_at, spot_cmp}
use Rattle.sp_cell.specs.Fork.{map_after_joins, with_contents, with_shared, with_away, with_index, index_frame}
use Rattle.sp_cell.specs.Fork.{child_map, children_of, map_after_fork}
use Rattle.sp_cell.specs.Fork.{moved_of, shared_of}
use Rattle.sp_cell.specs.Frame.{least_above, frames}
use Rattle.sp_cell.proofs.Laws.{get_other, same_map, known_of_held}
use Rattle.sp_cell.proofs.Plan.{in_or, get_taken_in, get_taken_out, get_lent_in, get_lent_out, get_away_in}
use Rattle.sp_cell.proofs.Plan.{get_away_out}
use Rattle.sp_cell.proofs.Plan.{taken_alike, lent_alike, in_front, in_back}
use Rattle.sp_cell.specs.Spots.{In, NotIn, AllHeld}

-- ---- the parent

-- a moved spot is away
pub parent_moved : (m : Map) (hs : List Handing) (q : Spot) → In q (moved_of hs) → NotIn q (shared_of hs)
    → map.get (map_after_fork m hs) q ≡ Some Away
parent_moved m hs q i o = get_lent_out m (shared_of hs) (with_away m (moved_of hs)) q o
    ∙ get_away_in m (moved_of hs) q i

-- a shared spot is shared, with the cells that it had
pub parent_shared : (m : Map) (hs : List Handing) (q : Spot) → In q (shared_of hs)
    → map.get (map_after_fork m hs) q ≡ Some (Shared (cells_at m q))
parent_shared m hs q i = get_lent_in m (shared_of hs) (with_away m (moved_of hs)) q i

-- any other spot is as it was
pub parent_rest : (m : Map) (hs : List Handing) (q : Spot) → NotIn q (moved_of hs) → NotIn q (shared_of hs)
    → map.get (map_after_fork m hs) q ≡ map.get m q
parent_rest m hs q n o = get_lent_out m (shared_of hs) (with_away m (moved_of hs)) q o
    ∙ get_away_out m (moved_of hs) q n

-- ---- a child

-- a moved spot is there as the parent had it
pub child_moved : (m : Map) (h : Handing) (q : Spot) → In q h.moved → IsSome (map.get m q)
    → map.get (child_map m h) q ≡ map.get m q
child_moved m h q i k = get_taken_in m h.moved _ q i k

pub below_above : (ss : List Spot) (q : Spot) → In q ss → q.frame < least_above (frames ss)
below_above [] q i = absurd i
below_above (s ∷ ss) q (inl e) = let f : q.frame ≡ s.frame = ap (λ (t : Spot). t.frame) e in omega (arith, f)
below_above (s ∷ ss) q (inr i) = omega (arith, below_above ss q i)

index_other : (c : Map) (n : ℕ) (o : Option (ℕ × ℤ)) (q : Spot) → q.frame ≢ n
    → map.get (with_index c n o) q ≡ map.get c q
index_other c n None q d = refl
index_other c n (Some i) q d = get_other c _ _ q (λ e. d (ap (λ (t : Spot). t.frame) e))

-- a shared spot is shared, with the parent's cells
pub child_shared : (m : Map) (h : Handing) (q : Spot) → In q h.shared → NotIn q h.moved
    → map.get (child_map m h) q ≡ Some (Shared (cells_at m q))
child_shared m h q i o =
    let below = below_above h.shared q i in
    get_taken_out m h.moved _ q o ∙ index_other (with_shared m h.shared map.empty) (index_frame h) h.index q
    (λ e. absurd (omega (arith, below, e))) ∙ get_lent_in m h.shared map.empty q i

-- outside the frame of its index a child knows no other spot
pub child_rest : (m : Map) (h : Handing) (q : Spot) → NotIn q h.moved → NotIn q h.shared → q.frame ≢ index_frame h
    → map.get (child_map m h) q ≡ None
child_rest m h q n o d = get_taken_out m h.moved _ q n
    ∙ index_other (with_shared m h.shared map.empty) (index_frame h) h.index q d ∙ get_lent_out m h.shared map.empty q o
    ∙ map.get-empty spot_cmp q

-- ---- the joins give the map back

taken_append : (m : Map) (xs ys : List Spot) (c : Map) → with_contents m (xs ++ ys) c
    ≡ with_contents m ys (with_contents m xs c)
taken_append m [] ys c = refl
taken_append m (x ∷ xs) ys c = taken_append m xs ys _

join_back : (m : Map) (hs : List Handing) → ((q : Spot) → In q (moved_of hs) → IsSome (map.get m q)) → (p : Map)
    → map_after_joins p (children_of m hs) ≡ with_contents m (moved_of hs) p
join_back m [] k p = refl
join_back m (h ∷ hs) k p =
    join_back m hs (λ q i. k q (in_back q h.moved (moved_of hs) i)) (with_contents (child_map m h) h.moved p)
    ∙ ap (with_contents m (moved_of hs)) (taken_alike (child_map m h) m h.moved p
    (λ q i. child_moved m h q i (k q (in_front q h.moved (moved_of hs) i))))
    ∙ sym (taken_append m h.moved (moved_of hs) p)

-- children that are joined as they were made give the parent all back, and what was shared stays shared
pub split_join : (m : Map) (hs : List Handing) → AllHeld m (moved_of hs)
    → ((q : Spot) → In q (moved_of hs) → NotIn q (shared_of hs))
    → map_after_joins (map_after_fork m hs) (children_of m hs) ≡ with_shared m (shared_of hs) m
split_join m hs held apart =
    join_back m hs (λ q i. known_of_held _ (held q i)) (map_after_fork m hs)
    ∙ same_map _ _ (λ q. elim (in_or q (moved_of hs)) [
      | inl i ↦ get_taken_in m (moved_of hs) (map_after_fork m hs) q i (known_of_held _ (held q i))
          ∙ sym (get_lent_out m (shared_of hs) m q (apart q i))
      | inr o ↦ get_taken_out m (moved_of hs) (map_after_fork m hs) q o
          ∙ lent_alike m (shared_of hs) (with_away m (moved_of hs)) m q (get_away_out m (moved_of hs) q o)
    ])
