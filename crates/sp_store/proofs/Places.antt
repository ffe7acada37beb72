-- The lists of spots and entries, seen as a map.
use Rattle.std.proofs.Common.{◌≡◌, ℕ, zero, suc, ◌+◌, ◌-◌, ◌<◌, ◌≤◌, ◌≢◌, List, [], ◌∷◌, length, get_or, set, take}
use Rattle.std.proofs.Common.{drop, min, ◌++◌, map as list_map, Some, None, Option, sym, subst, ap, refl, ◌∙◌, arith}
use Rattle.std.proofs.Common.{◌⊎◌, inl, inr, Bool, true, false, cond, T, ◌&&◌, IsSome, Result, Ok, Err, IfOk, IfErr}
use mathlib.Core.Bool.{false≢true}
use Rattle.std.specs.FinMap as map
use Rattle.std.specs.FinMap.{find, put, is_sorted, get-from_sorted}
use Rattle.std.specs.FinMap.Entries.{below_all}
use Rattle.std.specs.Ordering.{eq_by_cmp, is_eq, is_lt, ordering_index, ordering_then, nat_cmp}
use Rattle.std.specs.declared.cmp.Ordering.{Ordering}
use Rattle.std.specs.declared.cmp.Ordering.TheVariants.{Less, Equal, Greater}
use Rattle.std.specs.List.{AllByRecursion, ContainsAt, insert}
use Rattle.std.specs.List.Sorted.{IsStrictlySortedBy, IsNonDecreasingBy, IsPartitionPoint, IsSearchInRange}
use Rattle.std.specs.List.Sorted.{IsBinarySearchResult}
use Rattle.std.proofs.lemmas.Bool.{cases_lt, cases_eq}
use Rattle.std.proofs.lemmas.Map.Keys.{sorted_head, sorted_tail, Less-from_sorted}
use Rattle.std.proofs.lemmas.Cmp.{tied_itself, alike_right, ranked}
use Rattle.sp_cell.specs.declared.spot.Spot.{Spot}
use Rattle.sp_cell.specs.Map.{Content, spot_cmp}
use Rattle.sp_cell.proofs.Order.{spot_total, spot_same}
use Rattle.sp_store.specs.declared.entry.Entry.{Entry}
use Rattle.sp_store.specs.Layout.{content, pairs, layout, IsPlace, IsGap, AllKnown}
use Rattle.sp_cell.specs.Spots.{DistinctByIndex}
use Rattle.sp_cell.specs.Frame.{least_above, frames, without_spots_of}
use Rattle.sp_cell.proofs.FrameLaws.{above_at, without_here, without_other}
use Rattle.sp_cell.proofs.Laws.{same_map, apart_less, apart_greater}
use Rattle.std.proofs.lemmas.List.{get_or_default, get_or-take, get_or-drop, length-take-le, length-drop, length-take}
use Rattle.std.proofs.lemmas.List.{length-append}

index_le : (r : Ordering) → ordering_index r ≤ 2
index_le Less = omega arith
index_le Equal = omega arith
index_le Greater = omega arith

both : (a b : Bool) → T a → T b → T (a && b)
both true b p q = q
both false b p q = p

below_pairs : (s : Spot) (ss : List Spot) (es : List Entry) → AllByRecursion (λ y. spot_cmp s y ≡ Less) ss
    → T (below_all spot_cmp s (pairs ss es))
below_pairs s [] es h = tt
below_pairs s (t ∷ ts) [] h = tt
below_pairs s (t ∷ ts) (e ∷ es) h = both _ _ (subst (λ r. T (is_lt r)) (sym h.0) tt) (below_pairs s ts es h.1)

pub sorted_pairs : (ss : List Spot) (es : List Entry) → IsStrictlySortedBy spot_cmp ss
    → T (is_sorted spot_cmp (pairs ss es))
sorted_pairs [] es h = tt
sorted_pairs (s ∷ ss) [] h = tt
sorted_pairs (s ∷ ss) (e ∷ es) h = both _ _ (below_pairs s ss es (sorted_head spot_cmp s ss h))
    (sorted_pairs ss es (sorted_tail spot_cmp s ss h))

-- ---- one place

pub spot_itself : (s : Spot) → spot_cmp s s ≡ Equal
spot_itself s = tied_itself spot_total s

-- the pair at place i is found
pub find_place : (ss : List Spot) (es : List Entry) (i : ℕ) (d : Spot) (e : Entry) → IsStrictlySortedBy spot_cmp ss
    → length ss ≡ length es → i < length ss → find spot_cmp (get_or ss i d) (pairs ss es)
    ≡ Some (content (get_or es i e))
find_place [] es i d e h l b = absurd (omega arith)
find_place (s ∷ ss) [] i d e h l b = absurd (omega arith)
find_place (s ∷ ss) (x ∷ es) zero d e h l b = rw (spot_itself s) refl
find_place (s ∷ ss) (x ∷ es) (suc i) d e h l b =
    let less = Less-from_sorted spot_cmp (s ∷ ss) 0 (suc i) d h (omega arith) b in
    let more : spot_cmp (get_or ss i d) s ≡ Greater = rw (spot_total.antisymm (get_or ss i d) s) (rw less refl) in
    rw more (find_place ss es i d e (sorted_tail spot_cmp s ss h) (omega arith) (omega arith))

-- to write over place i is to put at its spot
pub set_place : (ss : List Spot) (es : List Entry) (i : ℕ) (d : Spot) (e : Entry) → IsStrictlySortedBy spot_cmp ss
    → length ss ≡ length es → i < length ss → pairs ss (set es i e)
    ≡ put spot_cmp (get_or ss i d) (content e) (pairs ss es)
set_place [] es i d e h l b = absurd (omega arith)
set_place (s ∷ ss) [] i d e h l b = absurd (omega arith)
set_place (s ∷ ss) (x ∷ es) zero d e h l b = rw (spot_itself s) refl
set_place (s ∷ ss) (x ∷ es) (suc i) d e h l b =
    let less = Less-from_sorted spot_cmp (s ∷ ss) 0 (suc i) d h (omega arith) b in
    let more : spot_cmp (get_or ss i d) s ≡ Greater = rw (spot_total.antisymm (get_or ss i d) s) (rw less refl) in
    rw more (ap (λ r. (s, content x) ∷ r) (set_place ss es i d e (sorted_tail spot_cmp s ss h) (omega arith)
    (omega arith)))

place_later : (s : Spot) (ss : List Spot) (q : Spot) → ContainsAt ss q → ContainsAt (s ∷ ss) q
place_later s ss q c = (suc c.0, omega (arith, c.1), c.2)

place_by : (s : Spot) (ss : List Spot) (e : Entry) (es : List Entry) (q : Spot) (r : Ordering) → spot_cmp q s ≡ r
    → find spot_cmp q (pairs (s ∷ ss) (e ∷ es)) ≢ None → (find spot_cmp q (pairs ss es) ≢ None → ContainsAt ss q)
    → ContainsAt (s ∷ ss) q
place_by s ss e es q Less p h k = place_later s ss q (k (λ n. h (rw p n)))
place_by s ss e es q Equal p h k = (0, omega arith, λ d. sym (spot_same q s p))
place_by s ss e es q Greater p h k = place_later s ss q (k (λ n. h (rw p n)))

-- a spot that the map has stands at a place
pub place_of : (ss : List Spot) (es : List Entry) (q : Spot) → find spot_cmp q (pairs ss es) ≢ None → ContainsAt ss q
place_of [] es q h = absurd (h refl)
place_of (s ∷ ss) [] q h = absurd (h refl)
place_of (s ∷ ss) (e ∷ es) q h = place_by s ss e es q (spot_cmp q s) refl h (place_of ss es q)

-- the comparisons with q rise along the list
rises : (x y q : Spot) → spot_cmp x y ≡ Less → ordering_index (spot_cmp x q) ≤ ordering_index (spot_cmp y q)
rises x y q less = rises_by (spot_cmp y q) refl
  where
    rises_by : (r : Ordering) → spot_cmp y q ≡ r → ordering_index (spot_cmp x q) ≤ ordering_index (spot_cmp y q)
    rises_by Less e = let f = spot_total.trans x y q less e in rw (e, f) (omega arith)
    rises_by Equal e = let f : spot_cmp x q ≡ Less = sym (alike_right spot_total y q x e) ∙ less in
        rw (e, f) (omega arith)
    rises_by Greater e = rw e (index_le (spot_cmp x q))

comparisons_rise : (ss : List Spot) (q : Spot) → IsStrictlySortedBy spot_cmp ss
    → IsNonDecreasingBy (λ y. ordering_index (spot_cmp y q)) ss
comparisons_rise ss q h i j d le b = elim (cases_lt i j) [
  | inl less ↦ rises _ _ q (Less-from_sorted spot_cmp ss i j d h less b)
  | inr more ↦ let same : i ≡ j = omega arith in rw same (omega arith)
]

-- ---- the map that they are

module _ (ss : List Spot) (es : List Entry) (h : IsStrictlySortedBy spot_cmp ss) (l : length ss ≡ length es) where
  pub place_known : (q : Spot) → IsSome (map.get (layout ss es) q) → ContainsAt ss q
  place_known q k = place_of ss es q (λ n. false≢true
      (rw (get-from_sorted spot_cmp (pairs ss es) q (sorted_pairs ss es h), n) at k))

  pub get_place : (q : Spot) (i : ℕ) → i < length ss → get_or ss i q ≡ q → (e : Entry)
      → map.get (layout ss es) q ≡ Some (content (get_or es i e))
  get_place q i b s e = get-from_sorted spot_cmp (pairs ss es) q (sorted_pairs ss es h)
      ∙ subst (λ r. find spot_cmp r (pairs ss es) ≡ Some (content (get_or es i e))) s (find_place ss es i q e h l b)

  pub insert_place : (q : Spot) (i : ℕ) → i < length ss → get_or ss i q ≡ q → (e : Entry)
      → layout ss (set es i e) ≡ map.insert (layout ss es) q (content e)
  insert_place q i b s e =
      map.same_entries_map _ _ (map.entries-from_sorted spot_cmp (pairs ss (set es i e))
      (sorted_pairs ss (set es i e) h)
      ∙ subst (λ r. pairs ss (set es i e) ≡ put spot_cmp r (content e) (pairs ss es)) s (set_place ss es i q e h l b)
      ∙ ap (put spot_cmp q (content e)) (sym (map.entries-from_sorted spot_cmp (pairs ss es) (sorted_pairs ss es h)))
      ∙ sym (map.entries-insert spot_total (layout ss es) q (content e)))

-- what a binary search finds
reversed_less : (s q : Spot) → spot_cmp s q ≡ Less → spot_cmp q s ≡ Greater
reversed_less s q e = rw (spot_total.antisymm q s) (rw e refl)

reversed_greater : (s q : Spot) → spot_cmp s q ≡ Greater → spot_cmp q s ≡ Less
reversed_greater s q e = rw (spot_total.antisymm q s) (rw e refl)

all_rec : (P : Spot → Type 0) (xs : List Spot) → ((k : ℕ) (d : Spot) → k < length xs → P (get_or xs k d))
    → AllByRecursion P xs
all_rec P [] f = tt
all_rec P (x ∷ xs) f = (f 0 x (omega arith), all_rec P xs (λ k d b. f (suc k) d (omega arith)))

all_insert : (P : Spot → Type 0) (xs : List Spot) (i : ℕ) (q : Spot) → AllByRecursion P xs → P q
    → AllByRecursion P (insert xs i q)
all_insert P [] zero q h p = (p, tt)
all_insert P [] (suc i) q h p = (p, tt)
all_insert P (x ∷ xs) zero q h p = (p, h)
all_insert P (x ∷ xs) (suc i) q h p = (h.0, all_insert P xs i q h.1 p)

-- what comes behind the last spot comes behind all
pub behind_all : (ss : List Spot) (q : Spot) (n : ℕ) → IsStrictlySortedBy spot_cmp ss → n + 1 ≡ length ss
    → ((d : Spot) → spot_cmp (get_or ss n d) q ≡ Less) → (k : ℕ) (d : Spot) → k < length ss
    → spot_cmp (get_or ss k d) q ≡ Less
behind_all ss q n h e f k d b = elim (cases_lt k n) [
  | inl less ↦ spot_total.trans (get_or ss k d) (get_or ss n d) q
      (Less-from_sorted spot_cmp ss k n d h less (omega (arith, e))) (f d)
  | inr more ↦ let same : k ≡ n = omega (arith, e, b, more) in rw same (f d)
]

-- the spots below place i are less, and the others are greater
abbrev pub IsBetween : List Spot → ℕ → Spot → Type 0
IsBetween ss i q = IsPartitionPoint (λ y. spot_cmp y q ≡ Less) (λ y. spot_cmp y q ≡ Greater) ss i

between_tail : (s : Spot) (ss : List Spot) (i : ℕ) (q : Spot) → IsBetween (s ∷ ss) (suc i) q → IsBetween ss i q
between_tail s ss i q b = (
  λ k d l h. b.0 (suc k) d (omega arith) (omega arith),
  λ k d l h. b.1 (suc k) d (omega arith) (omega arith),
)

gap_sorted : (ss : List Spot) (i : ℕ) (q : Spot) → IsStrictlySortedBy spot_cmp ss → i ≤ length ss → IsBetween ss i q
    → IsStrictlySortedBy spot_cmp (insert ss i q)
unfolding IsStrictlySortedBy
gap_sorted [] zero q h l b = (tt, tt)
gap_sorted [] (suc i) q h l b = (tt, tt)
gap_sorted (s ∷ ss) zero q h l b = (all_rec _ (s ∷ ss) (λ k d m. reversed_greater _ q (b.1 k d (omega arith) m)), h)
gap_sorted (s ∷ ss) (suc i) q h l b = (
  all_insert _ ss i q h.0 (b.0 0 s (omega arith) (omega arith)),
  gap_sorted ss i q h.1 (omega arith) (between_tail s ss i q b),
)

gap_pairs : (ss : List Spot) (es : List Entry) (i : ℕ) (q : Spot) (e : Entry) → length ss ≡ length es → i ≤ length ss
    → IsBetween ss i q → pairs (insert ss i q) (insert es i e) ≡ put spot_cmp q (content e) (pairs ss es)
gap_pairs [] [] zero q e l m b = refl
gap_pairs [] [] (suc i) q e l m b = absurd (omega arith)
gap_pairs [] (x ∷ es) i q e l m b = absurd (omega arith)
gap_pairs (s ∷ ss) [] i q e l m b = absurd (omega arith)
gap_pairs (s ∷ ss) (x ∷ es) zero q e l m b = let less = reversed_greater s q (b.1 0 s (omega arith) (omega arith)) in
    rw less refl
gap_pairs (s ∷ ss) (x ∷ es) (suc i) q e l m b =
    let more = reversed_less s q (b.0 0 s (omega arith) (omega arith)) in
    rw more (ap (λ r. (s, content x) ∷ r) (gap_pairs ss es i q e (omega arith) (omega arith) (between_tail s ss i q b)))

none_by : (r : Ordering) (h : Content) (o : Option Content) → (r ≡ Equal → ⊥) → o ≡ None
    → cond (is_eq r) (Some h) o ≡ None
none_by Less h o n e = e
none_by Equal h o n e = absurd (n refl)
none_by Greater h o n e = e

find_none : (ss : List Spot) (es : List Entry) (q : Spot)
    → ((k : ℕ) (d : Spot) → k < length ss → spot_cmp q (get_or ss k d) ≡ Equal → ⊥)
    → find spot_cmp q (pairs ss es) ≡ None
find_none [] es q n = refl
find_none (s ∷ ss) [] q n = refl
find_none (s ∷ ss) (x ∷ es) q n = none_by (spot_cmp q s) (content x) _ (n 0 s (omega arith))
    (find_none ss es q (λ k d b. n (suc k) d (omega arith)))

module _ (ss : List Spot) (es : List Entry) (h : IsStrictlySortedBy spot_cmp ss) (l : length ss ≡ length es)
    (q : Spot) where
  gap_none : (i : ℕ) → IsBetween ss i q → (k : ℕ) (d : Spot) → k < length ss → spot_cmp q (get_or ss k d) ≡ Equal → ⊥
  gap_none i b k d m e = elim (cases_lt k i) [
    | inl below ↦ apart_greater _ (reversed_less _ q (b.0 k d (omega arith) below)) e
    | inr least_above ↦ apart_less _ (reversed_greater _ q (b.1 k d least_above m)) e
  ]

  pub is_place : (i : ℕ) → i < length ss → ((d : Spot) → spot_cmp (get_or ss i d) q ≡ Equal) → IsPlace ss es q i
  is_place i b e = record {
    bound = omega arith;
    holds = get_place ss es h l q i b (spot_same _ _ (e q));
    sets = insert_place ss es h l q i b (spot_same _ _ (e q));
  }

  pub is_gap : (i : ℕ) → i ≤ length ss → (IsNonDecreasingBy (λ y. ordering_index (spot_cmp y q)) ss → IsBetween ss i q)
      → IsGap ss es q i
  is_gap i m parted =
      let b = parted (comparisons_rise ss q h) in
      record {
        bound = omega arith;
        absent = get-from_sorted spot_cmp (pairs ss es) q (sorted_pairs ss es h) ∙ find_none ss es q (gap_none i b);
        sorted = gap_sorted ss i q h m b;
        inserts = λ e. map.same_entries_map _ _
            (map.entries-from_sorted spot_cmp (pairs (insert ss i q) (insert es i e))
            (sorted_pairs _ _ (gap_sorted ss i q h m b))
            ∙ gap_pairs ss es i q e l m b
            ∙ ap (put spot_cmp q (content e))
            (sym (map.entries-from_sorted spot_cmp (pairs ss es) (sorted_pairs ss es h)))
            ∙ sym (map.entries-insert spot_total (layout ss es) q (content e)));
      }

  pub is_here : (i : ℕ) → i < length ss → ((d : Spot) → get_or ss i d ≡ q) → IsPlace ss es q i
  is_here i b e = is_place i b (λ d. ap (λ s. spot_cmp s q) (e d) ∙ spot_itself q)

  pub is_gap_behind : ((k : ℕ) (d : Spot) → k < length ss → spot_cmp (get_or ss k d) q ≡ Less)
      → IsGap ss es q (length ss)
  is_gap_behind f = is_gap (length ss) (omega arith)
      (λ _. (λ k d m b. f k d b, λ k d m b. absurd (omega (arith, m, b))))

  pub searched : (r : Result ℕ ℕ) → IsSearchInRange r (length ss) → IsBinarySearchResult (λ y. spot_cmp y q) ss r
      → record { found : IfOk r (IsPlace ss es q); absent : IfErr r (IsGap ss es q) }
  searched (Ok i) b p = record { found = is_place i b p; absent = tt }
  searched (Err i) b p = record { found = tt; absent = is_gap i b p }

pub layout_none : layout [] [] ≡ map.empty
layout_none = map.same_map spot_total spot_same _ _
    (λ q. get-from_sorted spot_cmp [] q tt ∙ sym (map.get-empty spot_cmp q))

pub sorted_none : IsStrictlySortedBy spot_cmp []
unfolding IsStrictlySortedBy
sorted_none = tt

apart_same : (x y : Spot) → spot_cmp x y ≡ Less → x ≡ y → ⊥
apart_same x y less e = apart_less _ less (ap (λ t. spot_cmp t y) e ∙ spot_itself y)

pub distinct_sorted : (ss : List Spot) → IsStrictlySortedBy spot_cmp ss → DistinctByIndex ss
distinct_sorted ss h i j d l b e = apart_same _ _ (Less-from_sorted spot_cmp ss i j d h l b) e

pub all_known : (ss : List Spot) (es : List Entry) → IsStrictlySortedBy spot_cmp ss → length ss ≡ length es
    → AllKnown (layout ss es) ss
all_known ss [] h l k d b = absurd (omega arith)
all_known ss (e ∷ es) h l k d b = rw (get_place ss (e ∷ es) h l (get_or ss k d) k b (get_or_default ss k _ d b) e) refl

-- ---- the first places alone

all_take : (P : Spot → Type 0) (xs : List Spot) (n : ℕ) → AllByRecursion P xs → AllByRecursion P (take n xs)
all_take P [] zero h = tt
all_take P [] (suc n) h = tt
all_take P (x ∷ xs) zero h = tt
all_take P (x ∷ xs) (suc n) h = (h.0, all_take P xs n h.1)

-- ---- a range of places taken out

all_append : (P : Spot → Type 0) (xs ys : List Spot) → AllByRecursion P xs → AllByRecursion P ys
    → AllByRecursion P (xs ++ ys)
all_append P [] ys h k = k
all_append P (x ∷ xs) ys h k = (h.0, all_append P xs ys h.1 k)

all_drop : (P : Spot → Type 0) (xs : List Spot) (n : ℕ) → AllByRecursion P xs → AllByRecursion P (drop n xs)
all_drop P [] zero h = tt
all_drop P [] (suc n) h = tt
all_drop P (x ∷ xs) zero h = h
all_drop P (x ∷ xs) (suc n) h = all_drop P xs n h.1

sorted_drop : (ss : List Spot) (n : ℕ) → IsStrictlySortedBy spot_cmp ss → IsStrictlySortedBy spot_cmp (drop n ss)
unfolding IsStrictlySortedBy
sorted_drop [] zero h = tt
sorted_drop [] (suc n) h = tt
sorted_drop (s ∷ ss) zero h = h
sorted_drop (s ∷ ss) (suc n) h = sorted_drop ss n h.1

pub sorted_out : (ss : List Spot) (a b : ℕ) → a ≤ b → IsStrictlySortedBy spot_cmp ss
    → IsStrictlySortedBy spot_cmp (take a ss ++ drop b ss)
unfolding IsStrictlySortedBy
sorted_out [] zero b m h = sorted_drop [] b h
sorted_out [] (suc a) zero m h = absurd (omega arith)
sorted_out [] (suc a) (suc b) m h = tt
sorted_out (s ∷ ss) zero b m h = sorted_drop (s ∷ ss) b h
sorted_out (s ∷ ss) (suc a) zero m h = absurd (omega arith)
sorted_out (s ∷ ss) (suc a) (suc b) m h = (
  all_append _ (take a ss) (drop b ss) (all_take _ ss a h.0)
      (all_drop _ ss b h.0),
  sorted_out ss a b (omega arith) h.1,
)

-- a spot that none of the places from 0 to b has is found as before
find_drop : (ss : List Spot) (es : List Entry) (b : ℕ) (q : Spot)
    → ((k : ℕ) (d : Spot) → k < b → k < length ss → spot_cmp q (get_or ss k d) ≡ Equal → ⊥)
    → find spot_cmp q (pairs (drop b ss) (drop b es)) ≡ find spot_cmp q (pairs ss es)
find_drop [] es zero q f = refl
find_drop [] es (suc b) q f = refl
find_drop (s ∷ ss) [] zero q f = refl
find_drop (s ∷ ss) [] (suc b) q f = pairs_none (drop b ss)
  where
    pairs_none : (ts : List Spot) → find spot_cmp q (pairs ts []) ≡ None
    pairs_none [] = refl
    pairs_none (t ∷ ts) = refl
find_drop (s ∷ ss) (e ∷ es) zero q f = refl
find_drop (s ∷ ss) (e ∷ es) (suc b) q f = find_drop ss es b q (λ k d l m. f (suc k) d (omega arith) (omega arith))
    ∙ sym (none_here (spot_cmp q s) (f 0 s (omega arith) (omega arith)))
  where
    none_here : (r : Ordering) → (r ≡ Equal → ⊥)
        → cond (is_eq r) (Some (content e)) (find spot_cmp q (pairs ss es)) ≡ find spot_cmp q (pairs ss es)
    none_here Less n = refl
    none_here Equal n = absurd (n refl)
    none_here Greater n = refl

-- nor those from a to b
find_out : (ss : List Spot) (es : List Entry) (a b : ℕ) (q : Spot) → a ≤ b
    → ((k : ℕ) (d : Spot) → a ≤ k → k < b → k < length ss → spot_cmp q (get_or ss k d) ≡ Equal → ⊥)
    → find spot_cmp q (pairs (take a ss ++ drop b ss) (take a es ++ drop b es)) ≡ find spot_cmp q (pairs ss es)
find_out ss es zero b q m f = find_drop ss es b q (λ k d l h. f k d (omega arith) l h)
find_out ss es (suc a) zero q m f = absurd (omega arith)
find_out [] es (suc a) (suc b) q m f = refl
find_out (s ∷ ss) [] (suc a) (suc b) q m f = refl
find_out (s ∷ ss) (e ∷ es) (suc a) (suc b) q m f =
    ap (cond (eq_by_cmp spot_cmp q s) (Some (content e)))
    (find_out ss es a b q (omega arith) (λ k d g l h. f (suc k) d (omega arith) (omega arith) (omega arith)))

first_le : (a b : Ordering) → ordering_then a b ≡ Less → a ≡ Less ⊎ a ≡ Equal
first_le Less b e = inl refl
first_le Equal b e = inr refl
first_le Greater b e = inl e

frame_le : (x y : Spot) → spot_cmp x y ≡ Less → x.frame ≤ y.frame
frame_le x y e = elim (first_le (nat_cmp x.frame y.frame) (nat_cmp x.variable y.variable) e) [
  | inl l ↦ let h : x.frame < y.frame = ranked x.frame y.frame Less (sym l) in omega (arith, h)
  | inr l ↦ let h : x.frame ≡ y.frame = ranked x.frame y.frame Equal (sym l) in omega (arith, h)
]

tied_frame : (q s : Spot) → spot_cmp q s ≡ Equal → q.frame ≡ s.frame
tied_frame q s e = ap (λ (t : Spot). t.frame) (spot_same q s e)

-- the spots of a frame, from place a to place b, are taken out
module _ (ss : List Spot) (es : List Entry) (h : IsStrictlySortedBy spot_cmp ss) (l : length ss ≡ length es)
    (frame a b : ℕ) (m : a ≤ b) (n : b ≤ length ss)
    (after : (k : ℕ) (d : Spot) → b ≤ k → k < length ss → frame < (get_or ss k d).frame)
    (inside : (k : ℕ) (d : Spot) → a ≤ k → k < b → (get_or ss k d).frame ≡ frame)
    (most : (d : Spot) → 0 < b → (get_or ss (b - 1) d).frame ≤ frame)
    (other : (d : Spot) → 0 < a → (get_or ss (a - 1) d).frame ≢ frame) where
  frames_rise : (j k : ℕ) (d : Spot) → j ≤ k → k < length ss → (get_or ss j d).frame ≤ (get_or ss k d).frame
  frames_rise j k d le b = elim (cases_lt j k) [
    | inl less ↦ frame_le (get_or ss j d) (get_or ss k d) (Less-from_sorted spot_cmp ss j k d h less b)
    | inr more ↦ let same : j ≡ k = omega arith in rw same (omega arith)
  ]

  before : (k : ℕ) (d : Spot) → k < a → (get_or ss k d).frame < frame
  before k d less = omega (
    arith,
    frames_rise k (a - 1) d (omega arith) (omega arith),
    frames_rise (a - 1) (b - 1) d (omega arith) (omega arith),
    most d (omega arith),
    other d (omega arith),
  )

  frame_out : (q : Spot) → q.frame ≢ frame → map.get (layout (take a ss ++ drop b ss) (take a es ++ drop b es)) q
      ≡ map.get (layout ss es) q
  frame_out q apart = get-from_sorted spot_cmp _ q (sorted_pairs _ _ (sorted_out ss a b m h))
      ∙ find_out ss es a b q m (λ k d g c e t. apart (tied_frame q _ t ∙ inside k d g c))
      ∙ sym (get-from_sorted spot_cmp (pairs ss es) q (sorted_pairs ss es h))

  kept_other : AllByRecursion (λ s. s.frame ≢ frame) (take a ss ++ drop b ss)
  kept_other = all_append _ (take a ss) (drop b ss)
      (all_rec _ (take a ss) (λ k d c. let lt = length-take-le a ss (omega arith) in
      let below = before k d (omega arith) in rw (get_or-take a ss k d (omega arith)) (λ e. omega arith)))
      (all_rec _ (drop b ss) (λ k d c. let ld = length-drop b ss in
      let beyond = after (b + k) d (omega arith) (omega arith) in rw (get_or-drop b ss k d) (λ e. omega arith)))

  frame_gone : (q : Spot) → q.frame ≡ frame → map.get (layout (take a ss ++ drop b ss) (take a es ++ drop b es)) q
      ≡ None
  frame_gone q same = get-from_sorted spot_cmp _ q (sorted_pairs _ _ (sorted_out ss a b m h))
      ∙ find_other (take a ss ++ drop b ss) (take a es ++ drop b es) kept_other
    where
      find_other : (ts : List Spot) (gs : List Entry) → AllByRecursion (λ s. s.frame ≢ frame) ts
          → find spot_cmp q (pairs ts gs) ≡ None
      find_other [] gs o = refl
      find_other (t ∷ ts) [] o = refl
      find_other (t ∷ ts) (g ∷ gs) o = none_by (spot_cmp q t) (content g) _ (λ e. o.0 (sym (tied_frame q t e) ∙ same))
          (find_other ts gs o.1)

  pub taken_out : layout (take a ss ++ drop b ss) (take a es ++ drop b es) ≡ without_spots_of (layout ss es) frame
  taken_out = same_map _ _ (λ q. elim (cases_eq q.frame frame) [
    | inl e ↦ frame_gone q e ∙ sym (without_here (layout ss es) frame q e)
    | inr d ↦ frame_out q d ∙ sym (without_other (layout ss es) frame q d)
  ])

-- ---- the frames that the map knows

keys_pairs : (ss : List Spot) (es : List Entry) → length ss ≡ length es → list_map (λ e. e.0) (pairs ss es) ≡ ss
keys_pairs [] es l = refl
keys_pairs (s ∷ ss) [] l = absurd (omega arith)
keys_pairs (s ∷ ss) (e ∷ es) l = ap (λ r. s ∷ r) (keys_pairs ss es (omega arith))

keys_layout : (ss : List Spot) (es : List Entry) → IsStrictlySortedBy spot_cmp ss → length ss ≡ length es
    → map.keys (layout ss es) ≡ ss
keys_layout ss es h l = ap (list_map (λ e. e.0)) (map.entries-from_sorted spot_cmp (pairs ss es) (sorted_pairs ss es h))
    ∙ keys_pairs ss es l

get_frames : (ss : List Spot) (k : ℕ) (d : Spot) → k < length ss → get_or (frames ss) k 0 ≡ (get_or ss k d).frame
get_frames [] k d b = absurd (omega arith)
get_frames (s ∷ ss) zero d b = refl
get_frames (s ∷ ss) (suc k) d b = get_frames ss k d (omega arith)

length-frames : (ss : List Spot) → length (frames ss) ≡ length ss
length-frames [] = refl
length-frames (s ∷ ss) = ap (λ n. suc n) (length-frames ss)

-- the last spot has the greatest frame
pub above_layout : (ss : List Spot) (es : List Entry) → IsStrictlySortedBy spot_cmp ss → length ss ≡ length es
    → (d : Spot) → 0 < length ss → least_above (frames (map.keys (layout ss es)))
    ≡ (get_or ss (length ss - 1) d).frame + 1
above_layout ss es h l d b =
    let top = length ss - 1 in
    let n = length-frames ss in
    ap (λ ks. least_above (frames ks)) (keys_layout ss es h l)
    ∙ above_at (frames ss) top (omega arith) (λ j c.
    let last = get_frames ss top d (omega arith) in
    let at = get_frames ss j d (omega arith) in
    elim (cases_lt j top) [
      | inl less ↦ omega (
        arith,
        last,
        at,
        frame_le (get_or ss j d) (get_or ss top d)
            (Less-from_sorted spot_cmp ss j top d h less (omega arith)),
      )
      | inr more ↦ let same : j ≡ top = omega arith in rw same (omega arith)
    ])
    ∙ ap (λ k. k + 1) (get_frames ss top d (omega arith))

pub above_empty : (ss : List Spot) (es : List Entry) → IsStrictlySortedBy spot_cmp ss → length ss ≡ length es
    → length ss ≡ 0 → least_above (frames (map.keys (layout ss es))) ≡ 0
above_empty [] es h l b = ap (λ ks. least_above (frames ks)) (keys_layout [] es h l)
above_empty (s ∷ ss) es h l b = absurd (omega arith)

-- both lists are cut alike
pub length-out : (ss : List Spot) (es : List Entry) (a b : ℕ) → length ss ≡ length es
    → length (take a ss ++ drop b ss) ≡ length (take a es ++ drop b es)
length-out ss es a b l = length-append (take a ss) (drop b ss) ∙ together (take_both ss es a l) (drop_both ss es b l)
    ∙ sym (length-append (take a es) (drop b es))
  where
    together : {i j k n : ℕ} → i ≡ j → k ≡ n → i + k ≡ j + n
    together e f = omega arith

    take_both : (ss : List Spot) (es : List Entry) (a : ℕ) → length ss ≡ length es
        → length (take a ss) ≡ length (take a es)
    take_both ss es a l = length-take a ss ∙ ap (λ n. min a n) l ∙ sym (length-take a es)

    drop_both : (ss : List Spot) (es : List Entry) (b : ℕ) → length ss ≡ length es
        → length (drop b ss) ≡ length (drop b es)
    drop_both ss es b l = let p = length-drop b ss in let q = length-drop b es in omega (arith, p, q)
