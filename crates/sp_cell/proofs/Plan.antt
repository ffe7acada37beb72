-- Whole plans: what the children get, one after another, and that no two of them get one spot. The proofs of the two
-- loops of `split` go by it, child by child, and so do the laws of partitions.
use Rattle.std.specs.Prelude.{◌≡◌, ℕ, ℤ, zero, suc, ◌+◌, ◌<◌, ◌≤◌, ◌≢◌, ◌⊎◌, List, [], ◌∷◌, ◌++◌, length, take, drop}
use Rattle.std.specs.Prelude.{Option, None, Some, IsSome}
use Rattle.std.proofs.Common.{sym, subst, ap, refl, ◌∙◌, get_or, set, arith, inl, inr, append_assoc}
use mathlib.Core.Bool.{false≢true}
use Rattle.std.specs.List.{ContainsAt}
use Rattle.std.specs.FinMap as map
use Rattle.sp_cell.specs.declared.spot.Spot.{Spot}
use Rattle.sp_cell.specs.declared.spot.Handing.{Handing}
use Rattle.sp_cell.specs.Map.{Map, Content, Shared, Away, Plain, cells_at, spot_cmp}
use Rattle.sp_cell.specs.Fork.{children_so_far, insert_if_found, with_contents, with_shared, with_away, with_index}
use Rattle.sp_cell.specs.Fork.{index_frame, child_map, child_of}
use Rattle.sp_cell.specs.Fork.{children_of}
use Rattle.sp_cell.specs.Fork.{prepared_map, prepared_child, moved_of, shared_of, HasIndex}
use Rattle.sp_cell.specs.Spots.{In, NotIn, IsDistinct, AllPieces, DistinctByIndex}
use Rattle.sp_cell.proofs.Laws.{get_other, get_here, known_insert, known_of_piece, same_or, same_map}

pub not_in_front : (q : Spot) (xs ys : List Spot) → NotIn q (xs ++ ys) → NotIn q xs
not_in_front q [] ys n = tt
not_in_front q (x ∷ xs) ys n = (n.0, not_in_front q xs ys n.1)

-- ---- membership by recursion

-- a spot is among the spots, or it is none of them
pub in_or : (q : Spot) (ss : List Spot) → In q ss ⊎ NotIn q ss
in_or q [] = inr tt
in_or q (s ∷ ss) = elim (same_or q s) [
  | inl e ↦ inl (inl e)
  | inr n ↦ elim (in_or q ss) [ inl i ↦ inl (inr i) | inr o ↦ inr (λ e. n (sym e), o) ]
]

not_in_at : (q : Spot) (ss : List Spot) → NotIn q ss → (k : ℕ) (d : Spot) → k < length ss → get_or ss k d ≢ q
not_in_at q [] n k d b = absurd (omega arith)
not_in_at q (s ∷ ss) n zero d b = n.0
not_in_at q (s ∷ ss) n (suc k) d b = not_in_at q ss n.1 k d (omega arith)

pub by_index : (ss : List Spot) → IsDistinct ss → DistinctByIndex ss
by_index [] h i j d l b e = absurd (omega arith)
by_index (s ∷ ss) h i zero d l b e = absurd (omega arith)
by_index (s ∷ ss) h zero (suc j) d l b e = not_in_at s ss h.0 j d (omega arith) (sym e)
by_index (s ∷ ss) h (suc i) (suc j) d l b e = by_index ss h.1 i j d (omega arith) (omega arith) e

pub distinct_front : (xs ys : List Spot) → IsDistinct (xs ++ ys) → IsDistinct xs
distinct_front [] ys h = tt
distinct_front (x ∷ xs) ys h = (not_in_front x xs ys h.0, distinct_front xs ys h.1)

pub distinct_back : (xs ys : List Spot) → IsDistinct (xs ++ ys) → IsDistinct ys
distinct_back [] ys h = h
distinct_back (x ∷ xs) ys h = distinct_back xs ys h.1

not_in_of : (q s : Spot) (xs ys : List Spot) → NotIn s (xs ++ ys) → In q xs → s ≢ q
not_in_of q s [] ys n i = absurd i
not_in_of q s (x ∷ xs) ys n (inl e) = λ f. n.0 (sym (f ∙ e))
not_in_of q s (x ∷ xs) ys n (inr i) = not_in_of q s xs ys n.1 i

-- what stands in the middle stands nowhere before
pub apart : (xs ys zs : List Spot) → IsDistinct (xs ++ (ys ++ zs)) → (q : Spot) → In q ys → NotIn q xs
apart [] ys zs h q i = tt
apart (x ∷ xs) ys zs h q i = (not_in_of_back q x xs ys zs h.0 i, apart xs ys zs h.1 q i)
  where
    not_in_of_back : (q s : Spot) (xs ys zs : List Spot) → NotIn s (xs ++ (ys ++ zs)) → In q ys → s ≢ q
    not_in_of_back q s [] ys zs n i = not_in_of q s ys zs n i
    not_in_of_back q s (x ∷ xs) ys zs n i = not_in_of_back q s xs ys zs n.1 i

pub not_both : (q : Spot) (ss : List Spot) → In q ss → NotIn q ss → ⊥
not_both q [] i o = i
not_both q (s ∷ ss) (inl e) o = o.0 (sym e)
not_both q (s ∷ ss) (inr i) o = not_both q ss i o.1

-- ---- what is found

-- another spot is as it was
pub get_away_out : (m : Map) (ss : List Spot) (q : Spot) → NotIn q ss → map.get (with_away m ss) q ≡ map.get m q
get_away_out m [] q n = refl
get_away_out m (s ∷ ss) q n = get_away_out (map.insert m s Away) ss q n.1 ∙ get_other m s Away q (λ e. n.0 (sym e))

-- a spot that goes is away
pub get_away_in : (m : Map) (ss : List Spot) (q : Spot) → In q ss → map.get (with_away m ss) q ≡ Some Away
get_away_in m [] q i = absurd i
get_away_in m (s ∷ ss) q i = elim (in_or q ss) [
  | inl j ↦ get_away_in (map.insert m s Away) ss q j
  | inr o ↦ get_away_out (map.insert m s Away) ss q o
      ∙ elim i [ inl e ↦ rw e (get_here m s Away) | inr j ↦ absurd (not_both q ss j o) ]
]

get_hold_other : (c : Map) (s : Spot) (o : Option Content) (q : Spot) → q ≢ s → map.get (insert_if_found c s o) q
    ≡ map.get c q
get_hold_other c s None q n = refl
get_hold_other c s (Some h) q n = get_other c s h q n

get_hold_here : (c : Map) (s : Spot) (o : Option Content) → IsSome o → map.get (insert_if_found c s o) s ≡ o
get_hold_here c s None k = absurd (false≢true k)
get_hold_here c s (Some h) k = get_here c s h

-- a spot that is not taken is as it was
pub get_taken_out : (m : Map) (ss : List Spot) (c : Map) (q : Spot) → NotIn q ss
    → map.get (with_contents m ss c) q ≡ map.get c q
get_taken_out m [] c q n = refl
get_taken_out m (s ∷ ss) c q n = get_taken_out m ss (insert_if_found c s (map.get m s)) q n.1
    ∙ get_hold_other c s (map.get m s) q (λ e. n.0 (sym e))

-- a spot that is taken is as it was where it came from
pub get_taken_in : (m : Map) (ss : List Spot) (c : Map) (q : Spot) → In q ss → IsSome (map.get m q)
    → map.get (with_contents m ss c) q ≡ map.get m q
get_taken_in m [] c q i k = absurd i
get_taken_in m (s ∷ ss) c q i k = elim (in_or q ss) [
  | inl j ↦ get_taken_in m ss (insert_if_found c s (map.get m s)) q j k
  | inr o ↦ get_taken_out m ss (insert_if_found c s (map.get m s)) q o
      ∙ elim i [ inl e ↦ rw e (get_hold_here c s (map.get m s) (rw (← e) k)) | inr j ↦ absurd (not_both q ss j o) ]
]

-- a spot that is not lent is as it was
pub get_lent_out : (m : Map) (ss : List Spot) (c : Map) (q : Spot) → NotIn q ss → map.get (with_shared m ss c) q
    ≡ map.get c q
get_lent_out m [] c q n = refl
get_lent_out m (s ∷ ss) c q n = get_lent_out m ss (map.insert c s (Shared (cells_at m s))) q n.1
    ∙ get_other c s (Shared (cells_at m s)) q (λ e. n.0 (sym e))

-- a spot that is lent is shared
pub get_lent_in : (m : Map) (ss : List Spot) (c : Map) (q : Spot) → In q ss
    → map.get (with_shared m ss c) q ≡ Some (Shared (cells_at m q))
get_lent_in m [] c q i = absurd i
get_lent_in m (s ∷ ss) c q i = elim (in_or q ss) [
  | inl j ↦ get_lent_in m ss (map.insert c s (Shared (cells_at m s))) q j
  | inr o ↦ get_lent_out m ss (map.insert c s (Shared (cells_at m s))) q o
      ∙ elim i [ inl e ↦ rw e (get_here c s (Shared (cells_at m s))) | inr j ↦ absurd (not_both q ss j o) ]
]

-- it makes no difference whether some of the spots are lent once more
pub lent_again : (m : Map) (xs ys : List Spot) → ((q : Spot) → In q ys → In q xs)
    → with_shared m ys (with_shared m xs map.empty) ≡ with_shared m xs map.empty
lent_again m xs ys inside = same_map _ _ (λ q. elim (in_or q ys) [
  | inl i ↦ get_lent_in m ys (with_shared m xs map.empty) q i ∙ sym (get_lent_in m xs map.empty q (inside q i))
  | inr o ↦ get_lent_out m ys (with_shared m xs map.empty) q o
])

get_lent_before : (m : Map) (xs ys : List Spot) (c : Map) (q : Spot) → In q xs
    → map.get (with_shared m ys (with_shared m xs c)) q ≡ Some (Shared (cells_at m q))
get_lent_before m xs ys c q i = elim (in_or q ys) [
  | inl j ↦ get_lent_in m ys (with_shared m xs c) q j
  | inr o ↦ get_lent_out m ys (with_shared m xs c) q o ∙ get_lent_in m xs c q i
]

get_lent_after : (m : Map) (xs ys : List Spot) (c : Map) (q : Spot) → NotIn q xs
    → map.get (with_shared m ys c) q ≡ map.get (with_shared m ys (with_shared m xs c)) q
get_lent_after m xs ys c q n = elim (in_or q ys) [
  | inl j ↦ get_lent_in m ys c q j ∙ sym (get_lent_in m ys (with_shared m xs c) q j)
  | inr o ↦ get_lent_out m ys c q o
      ∙ sym (get_lent_out m ys (with_shared m xs c) q o ∙ get_lent_out m xs c q n)
]

-- which of two lists is lent first makes no difference
lent_either_first : (m : Map) (xs ys : List Spot) (c : Map)
    → with_shared m xs (with_shared m ys c) ≡ with_shared m ys (with_shared m xs c)
lent_either_first m xs ys c = same_map _ _ (λ q. elim (in_or q xs) [
  | inl i ↦ get_lent_in m xs (with_shared m ys c) q i ∙ sym (get_lent_before m xs ys c q i)
  | inr n ↦ get_lent_out m xs (with_shared m ys c) q n ∙ get_lent_after m xs ys c q n
])

-- ---- one child

in_at : (ss : List Spot) (k : ℕ) (d : Spot) → k < length ss → In (get_or ss k d) ss
in_at [] k d b = absurd (omega arith)
in_at (s ∷ ss) zero d b = inl refl
in_at (s ∷ ss) (suc k) d b = inr (in_at ss k d (omega arith))

-- what is there at each place is there at each member
pub at_each : (P : Spot → Type 0) (ss : List Spot) → ((k : ℕ) (d : Spot) → k < length ss → P (get_or ss k d))
    → (q : Spot) → In q ss → P q
at_each P [] f q i = absurd i
at_each P (s ∷ ss) f q (inl e) = subst P (sym e) (f 0 s (omega arith))
at_each P (s ∷ ss) f q (inr i) = at_each P ss (λ k d b. f (suc k) d (omega arith)) q i

pub at_places : (P : Spot → Type 0) (ss : List Spot) → ((q : Spot) → In q ss → P q) → (k : ℕ) (d : Spot) → k < length ss
    → P (get_or ss k d)
at_places P ss f k d b = f _ (in_at ss k d b)

pub lent_alike : (m : Map) (ss : List Spot) (c e : Map) (q : Spot) → map.get c q ≡ map.get e q
    → map.get (with_shared m ss c) q ≡ map.get (with_shared m ss e) q
lent_alike m ss c e q h = elim (in_or q ss) [
  | inl i ↦ get_lent_in m ss c q i ∙ sym (get_lent_in m ss e q i)
  | inr o ↦ get_lent_out m ss c q o ∙ h ∙ sym (get_lent_out m ss e q o)
]

insert_alike : (c e : Map) (s : Spot) (x : Content) (q : Spot) → map.get c q ≡ map.get e q
    → map.get (map.insert c s x) q ≡ map.get (map.insert e s x) q
insert_alike c e s x q h = elim (same_or q s) [
  | inl p ↦ rw p (get_here c s x ∙ sym (get_here e s x))
  | inr n ↦ get_other c s x q n ∙ h ∙ sym (get_other e s x q n)
]

index_alike : (c e : Map) (n : ℕ) (o : Option (ℕ × ℤ)) (q : Spot) → map.get c q ≡ map.get e q
    → map.get (with_index c n o) q ≡ map.get (with_index e n o) q
index_alike c e n None q h = h
index_alike c e n (Some i) q h = insert_alike c e _ _ q h

-- a prepared child is complete once its moved spots are taken
pub completed : (m : Map) (h : Handing) → ((q : Spot) → In q h.moved → IsSome (map.get m q))
    → with_contents m h.moved (prepared_map m h) ≡ child_map m h
completed m h k = same_map _ _ (λ q. elim (in_or q h.moved) [
  | inl i ↦ get_taken_in m h.moved _ q i (k q i) ∙ sym (get_taken_in m h.moved _ q i (k q i))
  | inr o ↦ get_taken_out m h.moved _ q o ∙ index_alike _ _ (index_frame h) h.index q
      (lent_alike m h.shared _ _ q (get_away_out map.empty h.moved q o)) ∙ sym (get_taken_out m h.moved _ q o)
])

pub taken_alike : (m n : Map) (ss : List Spot) (c : Map) → ((q : Spot) → In q ss → map.get m q ≡ map.get n q)
    → with_contents m ss c ≡ with_contents n ss c
taken_alike m n [] c h = refl
taken_alike m n (s ∷ ss) c h = ap (λ o. with_contents m ss (insert_if_found c s o)) (h s (inl refl))
    ∙ taken_alike m n ss (insert_if_found c s (map.get n s)) (λ q i. h q (inr i))

-- room is kept for the moved spots
pub room_for : (m : Map) (h : Handing) (q : Spot) → In q h.moved → IsSome (map.get (prepared_map m h) q)
room_for m h q i = elim (in_or q h.shared) [
  | inl j ↦ index_known _ (index_frame h) h.index q (rw (get_lent_in m h.shared (with_away map.empty h.moved) q j) refl)
  | inr o ↦ index_known _ (index_frame h) h.index q
      (rw (get_lent_out m h.shared (with_away map.empty h.moved) q o, get_away_in map.empty h.moved q i) refl)
]
  where
    index_known : (c : Map) (n : ℕ) (o : Option (ℕ × ℤ)) (q : Spot) → IsSome (map.get c q)
        → IsSome (map.get (with_index c n o) q)
    index_known c n None q k = k
    index_known c n (Some i) q k = known_insert c _ _ q k

-- ---- a plan, child by child

-- all children complete
pub mixed_all : (m : Map) (hs : List Handing) → children_so_far m hs (length hs) ≡ children_of m hs
mixed_all m [] = refl
mixed_all m (h ∷ hs) = ap (λ r. child_of m h ∷ r) (mixed_all m hs)

-- one more child is prepared
pub mixed_push : (m : Map) (hs : List Handing) (k : ℕ) (d : Handing) → k < length hs
    → children_so_far m (take (suc k) hs) 0 ≡ children_so_far m (take k hs) 0 ++ prepared_child m (get_or hs k d) ∷ []
mixed_push m [] k d b = absurd (omega arith)
mixed_push m (h ∷ hs) zero d b = refl
mixed_push m (h ∷ hs) (suc k) d b = ap (λ r. prepared_child m h ∷ r) (mixed_push m hs k d (omega arith))

-- the next child is prepared still
pub mixed_at : (m : Map) (hs : List Handing) (i : ℕ) (d : Handing) (e : Plain) → i < length hs
    → get_or (children_so_far m hs i) i e ≡ prepared_child m (get_or hs i d)
mixed_at m [] i d e b = absurd (omega arith)
mixed_at m (h ∷ hs) zero d e b = refl
mixed_at m (h ∷ hs) (suc i) d e b = mixed_at m hs i d e (omega arith)

-- the next child completes
pub mixed_set : (m : Map) (hs : List Handing) (i : ℕ) (d : Handing) → i < length hs
    → set (children_so_far m hs i) i (child_of m (get_or hs i d)) ≡ children_so_far m hs (suc i)
mixed_set m [] i d b = absurd (omega arith)
mixed_set m (h ∷ hs) zero d b = refl
mixed_set m (h ∷ hs) (suc i) d b = ap (λ r. child_of m h ∷ r) (mixed_set m hs i d (omega arith))

pub length-mixed : (m : Map) (hs : List Handing) (i : ℕ) → length (children_so_far m hs i) ≡ length hs
length-mixed m [] i = refl
length-mixed m (h ∷ hs) zero = omega (arith, length-mixed m hs 0)
length-mixed m (h ∷ hs) (suc i) = omega (arith, length-mixed m hs i)

pub plan_at : (hs : List Handing) (i : ℕ) (d : Handing) → i < length hs
    → moved_of hs ≡ moved_of (take i hs) ++ ((get_or hs i d).moved ++ moved_of (drop (suc i) hs))
plan_at [] i d b = absurd (omega arith)
plan_at (h ∷ hs) zero d b = refl
plan_at (h ∷ hs) (suc i) d b = ap (λ r. h.moved ++ r) (plan_at hs i d (omega arith))
    ∙ sym (append_assoc h.moved (moved_of (take i hs)) _)

append_nil : (xs : List Spot) → xs ++ [] ≡ xs
append_nil [] = refl
append_nil (x ∷ xs) = ap (λ r. x ∷ r) (append_nil xs)

pub moved_suc : (hs : List Handing) (i : ℕ) (d : Handing) → i < length hs
    → moved_of (take (suc i) hs) ≡ moved_of (take i hs) ++ (get_or hs i d).moved
moved_suc [] i d b = absurd (omega arith)
moved_suc (h ∷ hs) zero d b = append_nil h.moved
moved_suc (h ∷ hs) (suc i) d b = ap (λ r. h.moved ++ r) (moved_suc hs i d (omega arith))
    ∙ sym (append_assoc h.moved (moved_of (take i hs)) _)

pub shared_suc : (hs : List Handing) (i : ℕ) (d : Handing) → i < length hs
    → shared_of (take (suc i) hs) ≡ shared_of (take i hs) ++ (get_or hs i d).shared
shared_suc [] i d b = absurd (omega arith)
shared_suc (h ∷ hs) zero d b = append_nil h.shared
shared_suc (h ∷ hs) (suc i) d b = ap (λ r. h.shared ++ r) (shared_suc hs i d (omega arith))
    ∙ sym (append_assoc h.shared (shared_of (take i hs)) _)

pub away_append : (m : Map) (xs ys : List Spot) → with_away m (xs ++ ys) ≡ with_away (with_away m xs) ys
away_append m [] ys = refl
away_append m (x ∷ xs) ys = away_append (map.insert m x Away) xs ys

pub lent_append : (m : Map) (xs ys : List Spot) (c : Map) → with_shared m (xs ++ ys) c
    ≡ with_shared m ys (with_shared m xs c)
lent_append m [] ys c = refl
lent_append m (x ∷ xs) ys c = lent_append m xs ys _

pub in_front : (q : Spot) (xs ys : List Spot) → In q xs → In q (xs ++ ys)
in_front q [] ys i = absurd i
in_front q (x ∷ xs) ys (inl e) = inl e
in_front q (x ∷ xs) ys (inr i) = inr (in_front q xs ys i)

pub in_back : (q : Spot) (xs ys : List Spot) → In q ys → In q (xs ++ ys)
in_back q [] ys i = i
in_back q (x ∷ xs) ys i = inr (in_back q xs ys i)

pub in_either : (q : Spot) (xs ys : List Spot) → In q (xs ++ ys) → In q xs ⊎ In q ys
in_either q [] ys i = inr i
in_either q (x ∷ xs) ys (inl e) = inl (inl e)
in_either q (x ∷ xs) ys (inr i) = elim (in_either q xs ys i) [ inl j ↦ inl (inr j) | inr j ↦ inr j ]

-- ---- the steps of the two loops

pub away_plan_step : (m : Map) (hs : List Handing) (i : ℕ) (d : Handing) → i < length hs
    → with_away m (moved_of (take (i + 1) hs)) ≡ with_away (with_away m (moved_of (take i hs))) (get_or hs i d).moved
away_plan_step m hs i d b = subst (λ n. with_away m (moved_of (take n hs))
    ≡ with_away (with_away m (moved_of (take i hs))) (get_or hs i d).moved) {x = suc i} (omega arith)
    (ap (with_away m) (moved_suc hs i d b) ∙ away_append m (moved_of (take i hs)) (get_or hs i d).moved)

pub lent_plan_step : (m : Map) (hs : List Handing) (i : ℕ) (d : Handing) (c : Map) → i < length hs
    → with_shared m (shared_of (take (i + 1) hs)) c ≡ with_shared m (get_or hs i d).shared
    (with_shared m (shared_of (take i hs)) c)
lent_plan_step m hs i d c b = subst (λ n. with_shared m (shared_of (take n hs)) c
    ≡ with_shared m (get_or hs i d).shared (with_shared m (shared_of (take i hs)) c)) {x = suc i} (omega arith)
    (ap (λ r. with_shared m r c) (shared_suc hs i d b) ∙ lent_append m (shared_of (take i hs)) (get_or hs i d).shared c)

pub mixed_push_step : (m : Map) (hs : List Handing) (k : ℕ) (d : Handing) → k < length hs
    → children_so_far m (take (k + 1) hs) 0 ≡ children_so_far m (take k hs) 0 ++ prepared_child m (get_or hs k d) ∷ []
mixed_push_step m hs k d b = subst (λ n. children_so_far m (take n hs) 0 ≡ children_so_far m (take k hs) 0
    ++ prepared_child m (get_or hs k d) ∷ []) {x = suc k} (omega arith) (mixed_push m hs k d b)

module _ (m : Map) (hs : List Handing) (h : IsDistinct (moved_of hs))
    (k : (q : Spot) → In q (moved_of hs) → IsSome (map.get m q)) (i : ℕ) (d : Handing) (b : i < length hs) where
  parts : IsDistinct (moved_of (take i hs) ++ ((get_or hs i d).moved ++ moved_of (drop (suc i) hs)))
  parts = subst IsDistinct (plan_at hs i d b) h

  pub distinct_at : DistinctByIndex (get_or hs i d).moved
  distinct_at = by_index (get_or hs i d).moved
      (distinct_front (get_or hs i d).moved (moved_of (drop (suc i) hs))
      (distinct_back (moved_of (take i hs)) ((get_or hs i d).moved ++ moved_of (drop (suc i) hs)) parts))

  in_plan : (q : Spot) → In q (get_or hs i d).moved → In q (moved_of hs)
  in_plan q j = subst (In q) (sym (plan_at hs i d b))
      (in_back q (moved_of (take i hs)) ((get_or hs i d).moved ++ moved_of (drop (suc i) hs))
      (in_front q (get_or hs i d).moved (moved_of (drop (suc i) hs)) j))

  -- the spots of the next handing are as they were
  same_before : (q : Spot) → In q (get_or hs i d).moved → map.get (with_away m (moved_of (take i hs))) q ≡ map.get m q
  same_before q j = get_away_out m (moved_of (take i hs)) q
      (apart (moved_of (take i hs)) (get_or hs i d).moved (moved_of (drop (suc i) hs)) parts q j)

  pub known_at : (n : ℕ) (e : Spot) → n < length (get_or hs i d).moved
      → IsSome (map.get (with_away m (moved_of (take i hs))) (get_or (get_or hs i d).moved n e))
  known_at = at_places (λ q. IsSome (map.get (with_away m (moved_of (take i hs))) q)) (get_or hs i d).moved
      (λ q j. rw (same_before q j) (k q (in_plan q j)))

  pub room_at : (n : ℕ) (e : Spot) → n < length (get_or hs i d).moved
      → IsSome (map.get (prepared_map m (get_or hs i d)) (get_or (get_or hs i d).moved n e))
  room_at = at_places (λ q. IsSome (map.get (prepared_map m (get_or hs i d)) q)) (get_or hs i d).moved
      (room_for m (get_or hs i d))

  -- the child is complete
  pub complete_at : with_contents (with_away m (moved_of (take i hs))) (get_or hs i d).moved
      (prepared_map m (get_or hs i d))
      ≡ child_map m (get_or hs i d)
  complete_at = taken_alike (with_away m (moved_of (take i hs))) m (get_or hs i d).moved
      (prepared_map m (get_or hs i d))
      same_before ∙ completed m (get_or hs i d) (λ q j. k q (in_plan q j))

  pub mixed_step : set (children_so_far m hs i) i (child_of m (get_or hs i d)) ≡ children_so_far m hs (i + 1)
  mixed_step = subst (λ n. set (children_so_far m hs i) i (child_of m (get_or hs i d)) ≡ children_so_far m hs n) {x =
      suc i} (omega arith)
      (mixed_set m hs i d b)

-- the child at place i is prepared
pub is_prepared : (m : Map) (hs : List Handing) (i : ℕ) (g : Handing) (items : List Plain) (x : Plain)
    → items ≡ children_so_far m hs i → x ≡ get_or items i x → g ≡ get_or hs i g → i < length hs → x ≡ prepared_child m g
is_prepared m hs i g items x e f k b = f ∙ ap (λ r. get_or r i x) e ∙ mixed_at m hs i g x b
    ∙ ap (prepared_child m) (sym k)

-- and it is complete once its moved spots are taken
pub filled : (m : Map) (hs : List Handing) (h : IsDistinct (moved_of hs))
    (k : (q : Spot) → In q (moved_of hs) → IsSome (map.get m q)) (i : ℕ) (b : i < length hs) (g : Handing)
    (items : List Plain) (x : Plain) → items ≡ children_so_far m hs i → x ≡ prepared_child m g → g ≡ get_or hs i g
    → set items i (record {
      map = with_contents (with_away m (moved_of (take i hs))) g.moved x.map;
      own = x.own;
      moved =
          x.moved;
    })
    ≡ children_so_far m hs (i + 1)
filled m hs h k i b g items x e p same =
    let prior = with_away m (moved_of (take i hs)) in
    let at = get_or hs i g in
    subst (λ (y : Handing). x ≡ prepared_child m y
    → set items i (record { map = with_contents prior y.moved x.map; own = x.own; moved = x.moved })
    ≡ children_so_far m hs (i + 1))
    (sym same)
    (λ q. ap (λ (y : Plain). set items i (record {
      map = with_contents prior at.moved y.map;
      own = y.own;
      moved =
          y.moved;
    })) q
    ∙ ap (λ (z : Map). set items i (record { map = z; own = []; moved = at.moved })) (complete_at m hs h k i g b)
    ∙ ap (λ r. set r i (child_of m at)) e
    ∙ mixed_step m hs h k i g b)
    p

-- ---- what a plan says of each handing

shared_at : (hs : List Handing) (i : ℕ) (d : Handing) → i < length hs → (q : Spot) → In q (get_or hs i d).shared
    → In q (shared_of hs)
shared_at [] i d b q j = absurd (omega arith)
shared_at (h ∷ hs) zero d b q j = in_front q h.shared (shared_of hs) j
shared_at (h ∷ hs) (suc i) d b q j = in_back q h.shared (shared_of hs) (shared_at hs i d (omega arith) q j)

moved_at : (hs : List Handing) (i : ℕ) (d : Handing) → i < length hs → (q : Spot) → In q (get_or hs i d).moved
    → In q (moved_of hs)
moved_at [] i d b q j = absurd (omega arith)
moved_at (h ∷ hs) zero d b q j = in_front q h.moved (moved_of hs) j
moved_at (h ∷ hs) (suc i) d b q j = in_back q h.moved (moved_of hs) (moved_at hs i d (omega arith) q j)

-- a fact of every shared spot of the plan holds at each place of one handing
pub each_shared : (P : Spot → Type 0) (hs : List Handing) (i : ℕ) (g : Handing) → i < length hs → g ≡ get_or hs i g
    → ((q : Spot) → In q (shared_of hs) → P q) → (k : ℕ) (d : Spot) → k < length g.shared → P (get_or g.shared k d)
each_shared P hs i g b e f = at_places P g.shared
    (λ q j. f q (shared_at hs i g b q (subst (λ (y : Handing). In q y.shared) e j)))

pub each_moved : (P : Spot → Type 0) (hs : List Handing) (i : ℕ) (g : Handing) → i < length hs → g ≡ get_or hs i g
    → ((q : Spot) → In q (moved_of hs) → P q) → (k : ℕ) (d : Spot) → k < length g.moved → P (get_or g.moved k d)
each_moved P hs i g b e f = at_places P g.moved
    (λ q j. f q (moved_at hs i g b q (subst (λ (y : Handing). In q y.moved) e j)))

pub distinct_in : (hs : List Handing) (i : ℕ) (g : Handing) → i < length hs → g ≡ get_or hs i g
    → IsDistinct (moved_of hs) → DistinctByIndex g.moved
distinct_in hs i g b e h =
    subst (λ (y : Handing). DistinctByIndex y.moved) (sym e)
    (by_index (get_or hs i g).moved (distinct_front (get_or hs i g).moved (moved_of (drop (suc i) hs))
    (distinct_back (moved_of (take i hs)) ((get_or hs i g).moved ++ moved_of (drop (suc i) hs))
    (subst IsDistinct (plan_at hs i g b) h))))

-- the handing at a place has an index
pub index_at : (hs : List Handing) (i : ℕ) (g : Handing) → i < length hs → g ≡ get_or hs i g → IsSome g.index
    → HasIndex hs
index_at hs i g b e k = by_place hs i g b (subst (λ (y : Handing). IsSome y.index) e k)
  where
    by_place : (hs : List Handing) (i : ℕ) (d : Handing) → i < length hs → IsSome (get_or hs i d).index → HasIndex hs
    by_place [] i d b k = absurd (omega arith)
    by_place (h ∷ hs) zero d b k = inl k
    by_place (h ∷ hs) (suc i) d b k = inr (by_place hs i d (omega arith) k)

-- what was made ready stands in the parent in the end
pub merged : (m : Map) (hs : List Handing) (ss : List Spot)
    → ((q : Spot) → In q ss → IsSome (map.get (with_shared m (shared_of hs) map.empty) q))
    → ((q : Spot) → IsSome (map.get (with_shared m (shared_of hs) map.empty) q) → In q ss) → (c : Map)
    → with_contents (with_shared m (shared_of hs) map.empty) ss c ≡ with_shared m (shared_of hs) c
merged m hs ss there back c = same_map _ _ (λ q. elim (in_or q (shared_of hs)) [
  | inl i ↦
      let g = get_lent_in m (shared_of hs) map.empty q i in
      let k : IsSome (map.get (with_shared m (shared_of hs) map.empty) q) = rw g refl in
      get_taken_in (with_shared m (shared_of hs) map.empty) ss c q (back q k) k ∙ g
      ∙ sym (get_lent_in m (shared_of hs) c q i)
  | inr o ↦
      elim (in_or q ss) [
        | inl j ↦ absurd (false≢true (rw (get_lent_out m (shared_of hs) map.empty q o, map.get-empty spot_cmp q) at
            (there q j)))
        | inr n ↦ get_taken_out (with_shared m (shared_of hs) map.empty) ss c q n
            ∙ sym (get_lent_out m (shared_of hs) c q o)
      ]
])

pub take_all : (hs : List Handing) (i : ℕ) → length hs ≤ i → take i hs ≡ hs
take_all [] zero b = refl
take_all [] (suc i) b = refl
take_all (h ∷ hs) zero b = absurd (omega arith)
take_all (h ∷ hs) (suc i) b = ap (λ r. h ∷ r) (take_all hs i (omega arith))

-- what is made ready is known in the parent
pub known_ready : (m : Map) (ss : List Spot) → AllPieces m ss → (q : Spot)
    → IsSome (map.get (with_shared m ss map.empty) q)
    → IsSome (map.get m q)
known_ready m ss p q k = elim (in_or q ss) [
  | inl i ↦ known_of_piece _ (p q i)
  | inr o ↦ absurd (false≢true (rw (get_lent_out m ss map.empty q o, map.get-empty spot_cmp q) at k))
]

-- the step of the loop that prepares, for the handing at place i, where some spots were lent before
pub ready_step : (m : Map) (first : List Spot) (hs : List Handing) (i : ℕ) (g : Handing) → i < length hs
    → g ≡ get_or hs i g
    → with_shared m g.shared (with_shared m first (with_shared m (shared_of (take i hs)) map.empty))
    ≡ with_shared m first (with_shared m (shared_of (take (i + 1) hs)) map.empty)
ready_step m first hs i g b e =
    lent_either_first m g.shared first (with_shared m (shared_of (take i hs)) map.empty)
    ∙ ap (with_shared m first)
    (subst (λ (y : Handing). with_shared m y.shared (with_shared m (shared_of (take i hs)) map.empty)
    ≡ with_shared m (shared_of (take (i + 1) hs)) map.empty) (sym e) (sym (lent_plan_step m hs i g map.empty b)))

pub children_step : (m : Map) (hs : List Handing) (i : ℕ) (g : Handing) → i < length hs → g ≡ get_or hs i g
    → children_so_far m (take i hs) 0 ++ prepared_child m g ∷ [] ≡ children_so_far m (take (i + 1) hs) 0
children_step m hs i g b e = subst (λ (y : Handing). children_so_far m (take i hs) 0
    ++ prepared_child m y ∷ [] ≡ children_so_far m (take (i + 1) hs) 0) (sym e) (sym (mixed_push_step m hs i g b))

pub in_of_at : (q : Spot) (ss : List Spot) → ContainsAt ss q → In q ss
in_of_at q ss c = subst (λ (s : Spot). In s ss) (c.2 q) (in_at ss c.0 q c.1)
