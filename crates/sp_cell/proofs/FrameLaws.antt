-- Laws of frame numbers, and of frames pushed and popped. The proofs of the store, the machine and the code above use
-- them; they stand here since they speak of no representation.
use Rattle.std.specs.Prelude.{◌≡◌, ◌≢◌, ◌⊎◌, ℕ, zero, suc, ◌+◌, ◌-◌, ◌≤◌, ◌<◌, ◌==◌, ◌||◌, not, cond, Bool, true, false}
use Rattle.std.specs.Prelude.{List, [], ◌∷◌, ◌++◌, length, max, replicate, Option, None, Some, IsSome}
use Rattle.std.proofs.Common.{T, sym, ap, refl, ◌∙◌, get_or, arith, inl, inr}
use Rattle.std.proofs.Math.Facts.{yes_eqb}
use Rattle.std.proofs.lemmas.Bool.{cases_lt, cases_eq, eqb-true}
use Rattle.std.proofs.lemmas.List.{get_or-append_right}
use Rattle.std.proofs.Math.ListN.{get_or-append, length-append}
use mathlib.Core.Bool.{false≢true}
use Rattle.std.specs.List.{list_any}
use Rattle.std.specs.Ordering.{eq_by_cmp, is_eq}
use Rattle.std.specs.FinMap as map
use Rattle.sp_cell.specs.declared.spot.Spot.{Spot}
use Rattle.sp_cell.specs.declared.cell.Cell.TheVariants.{Undefined}
use Rattle.sp_cell.specs.Map.{Map, Content, Own, Plain, spot_cmp}
use Rattle.std.proofs.lemmas.Cmp.{tied_itself}
use Rattle.sp_base.specs.Order.{tie_of}
use Rattle.sp_cell.proofs.Order.{spot_same, spot_total}
use Rattle.sp_cell.specs.Frame.{least_above, frames, with_pieces, without_spots_of, next_frame, last_own_frame}
use Rattle.sp_cell.specs.Frame.{with_new_frame, IsRising}
use Rattle.sp_cell.proofs.Laws.{get_other, same_or, same_map}

-- ---- numbers

above_upper : (ns : List ℕ) (b : ℕ) → ((k : ℕ) → k < length ns → get_or ns k 0 < b) → least_above ns ≤ b
above_upper [] b f = omega arith
above_upper (n ∷ ns) b f = omega (arith, f 0 (omega arith), above_upper ns b (λ k l. f (suc k) (omega arith)))

above_lower : (ns : List ℕ) (k : ℕ) → k < length ns → get_or ns k 0 < least_above ns
above_lower [] k l = absurd (omega arith)
above_lower (n ∷ ns) zero l = omega arith
above_lower (n ∷ ns) (suc k) l = omega (arith, above_lower ns k (omega arith))

-- where the number at a place is the greatest
pub above_at : (ns : List ℕ) (k : ℕ) → k < length ns → ((j : ℕ) → j < length ns → get_or ns j 0 ≤ get_or ns k 0)
    → least_above ns ≡ get_or ns k 0 + 1
above_at ns k l f = omega (arith, above_lower ns k l, above_upper ns (get_or ns k 0 + 1) (λ j b. omega (arith, f j b)))

-- the newest of rising numbers is the greatest
pub above_newest : (ns : List ℕ) → IsRising ns → 0 < length ns → least_above ns ≡ last_own_frame ns + 1
above_newest ns r l = above_at ns (length ns - 1) (omega arith) (λ j b. elim (cases_lt j (length ns - 1)) [
  | inl h ↦ omega (arith, r j (length ns - 1) h (omega arith))
  | inr h ↦ let e : j ≡ length ns - 1 = omega arith in rw e (omega arith)
])

-- a number above all goes last
pub rising_push : (ns : List ℕ) (n : ℕ) → IsRising ns → least_above ns ≤ n → IsRising (ns ++ n ∷ [])
rising_push ns n r a i j l b =
    let len = length-append ns (n ∷ []) in
    elim (cases_lt j (length ns)) [
      | inl h ↦ rw (get_or-append ns (n ∷ []) 0 i (omega arith), get_or-append ns (n ∷ []) 0 j h) (r i j l h)
      | inr h ↦ let e : j ≡ length ns = omega (arith, len, b) in
          let below = above_lower ns i (omega arith) in
          let at : get_or (ns ++ n ∷ []) j 0 ≡ n =
          rw e (get_or-append_right ns (n ∷ []) (length ns) (length ns) 0 refl (omega arith)
          ∙ ap (λ k. get_or (n ∷ []) k 0) {y = 0} (omega arith)) in
          rw (get_or-append ns (n ∷ []) 0 i (omega arith), at) (omega arith)
    ]

-- ---- known frames

tied_frame : (q s : Spot) → is_eq (spot_cmp q s) ≡ true → q.frame ≡ s.frame
tied_frame q s e = ap (λ (t : Spot). t.frame) (spot_same q s (tie_of (spot_cmp q s) e))

or_cases : (a b : Bool) → (a || b) ≡ true → (a ≡ true) ⊎ (b ≡ true)
or_cases true b e = inl refl
or_cases false b e = inr e

below_any : (ss : List Spot) (q : Spot) → list_any (eq_by_cmp spot_cmp q) ss ≡ true → q.frame < least_above (frames ss)
below_any [] q e = absurd (false≢true e)
below_any (s ∷ ss) q e = elim (or_cases (eq_by_cmp spot_cmp q s) (list_any (eq_by_cmp spot_cmp q) ss) e) [
  | inl h ↦ omega (arith, tied_frame q s h)
  | inr h ↦ omega (arith, below_any ss q h)
]

-- a known spot's frame is below the next
pub known_below : (m : Map) (q : Spot) → IsSome (map.get m q) → q.frame < least_above (frames (map.keys m))
known_below m q k = below_any (map.keys m) q (sym (map.contains_key-keys m q) ∙ k)

-- ---- a frame taken away

truth : (b : Bool) → T b → b ≡ true
truth true h = refl
truth false h = absurd h

pub is_same : (a b : ℕ) → a ≡ b → (a == b) ≡ true
is_same a b e = truth (a == b) (yes_eqb e)

pub is_other : (a b : ℕ) → a ≢ b → (a == b) ≡ false
is_other a b n = by_test (a == b) refl
  where
    by_test : (r : Bool) → (a == b) ≡ r → r ≡ false
    by_test true e = absurd (n (eqb-true a b e))
    by_test false e = refl

get_without : (m : Map) (n : ℕ) (q : Spot) → map.get (without_spots_of m n) q ≡ cond (not (q.frame == n))
    (map.get m q) None
get_without m n q = map.get-retain_keys m (λ s. not (s.frame == n)) q
    (λ x e. ap (λ (t : Spot). not (t.frame == n)) (sym (spot_same q x e)))

pub without_here : (m : Map) (n : ℕ) (q : Spot) → q.frame ≡ n → map.get (without_spots_of m n) q ≡ None
without_here m n q e = get_without m n q ∙ ap (λ b. cond (not b) (map.get m q) None) (is_same q.frame n e)

pub without_other : (m : Map) (n : ℕ) (q : Spot) → q.frame ≢ n → map.get (without_spots_of m n) q ≡ map.get m q
without_other m n q d = get_without m n q ∙ ap (λ b. cond (not b) (map.get m q) None) (is_other q.frame n d)

-- a spot of the frame does not count
pub without_insert : (m : Map) (n : ℕ) (s : Spot) (h : Content) → s.frame ≡ n
    → without_spots_of (map.insert m s h) n ≡ without_spots_of m n
without_insert m n s h e = same_map _ _ (λ q. elim (cases_eq q.frame n) [
  | inl f ↦ without_here (map.insert m s h) n q f ∙ sym (without_here m n q f)
  | inr d ↦ without_other (map.insert m s h) n q d ∙ get_other m s h q (λ p. d (ap (λ (t : Spot). t.frame) p ∙ e))
      ∙ sym (without_other m n q d)
])

pub without_pieces : (m : Map) (n v : ℕ) (cs : List ℕ) → without_spots_of (with_pieces m n v cs) n
    ≡ without_spots_of m n
without_pieces m n v [] = refl
without_pieces m n v (c ∷ cs) =
    without_pieces (map.insert m (record { frame = n; variable = v }) (Own (replicate c Undefined))) n (v + 1) cs
    ∙ without_insert m n (record { frame = n; variable = v }) (Own (replicate c Undefined)) refl

-- where no spot of the frame is known, nothing goes
pub without_none : (m : Map) (n : ℕ) → ((q : Spot) → IsSome (map.get m q) → q.frame ≢ n) → without_spots_of m n ≡ m
without_none m n f = same_map _ _ (λ q. elim (cases_eq q.frame n) [
  | inl e ↦ without_here m n q e ∙ sym (unknown (map.get m q) (λ k. f q k e))
  | inr d ↦ without_other m n q d
])
  where
    unknown : (o : Option Content) → (IsSome o → ⊥) → o ≡ None
    unknown None k = refl
    unknown (Some h) k = absurd (k refl)

-- a new frame that goes again leaves the map as it was
pub without_next : (p : Plain) → without_spots_of p.map (next_frame p) ≡ p.map
without_next p = without_none p.map (next_frame p) (λ q k e. absurd (omega (arith, known_below p.map q k, e)))

-- ---- the next number

above_any : (ss : List Spot) (b : ℕ) → ((q : Spot) → list_any (eq_by_cmp spot_cmp q) ss ≡ true → q.frame < b)
    → least_above (frames ss) ≤ b
above_any [] b f = omega arith
above_any (s ∷ ss) b f =
    let here = f s (ap (λ r. is_eq r || list_any (eq_by_cmp spot_cmp s) ss) (tied_itself spot_total s)) in
    let rest = above_any ss b (λ q e. f q (or_right (eq_by_cmp spot_cmp q s) (list_any (eq_by_cmp spot_cmp q) ss) e)) in
    omega (arith, here, rest)
  where
    or_right : (a b : Bool) → b ≡ true → (a || b) ≡ true
    or_right true b e = refl
    or_right false b e = e

-- a number above the frame of each known spot is above all
pub above_known : (m : Map) (b : ℕ) → ((q : Spot) → IsSome (map.get m q) → q.frame < b)
    → least_above (frames (map.keys m)) ≤ b
above_known m b f = above_any (map.keys m) b (λ q e. f q (map.contains_key-keys m q ∙ e))

-- a spot that is known after pieces are added was known, or is of their frame
pub known_pieces : (m : Map) (n v : ℕ) (cs : List ℕ) (q : Spot) → IsSome (map.get (with_pieces m n v cs) q)
    → IsSome (map.get m q) ⊎ (q.frame ≡ n)
known_pieces m n v [] q k = inl k
known_pieces m n v (c ∷ cs) q k =
    let s : Spot = record { frame = n; variable = v } in
    elim (known_pieces (map.insert m s (Own (replicate c Undefined))) n (v + 1) cs q k) [
      | inl h ↦ elim (same_or q s) [
        | inl e ↦ inr (ap (λ (t : Spot). t.frame) e)
        | inr d ↦ inl (rw (← get_other m s (Own (replicate c Undefined)) q d) h)
      ]
      | inr e ↦ inr e
    ]

above_append : (ns : List ℕ) (n : ℕ) → least_above (ns ++ n ∷ []) ≡ max (least_above ns) (n + 1)
above_append [] n = omega arith
above_append (x ∷ ns) n = omega (arith, above_append ns n)

-- a push takes one number
pub next_pushed : (p : Plain) (cs : List ℕ) → next_frame (with_new_frame p cs) ≡ next_frame p + 1
next_pushed p cs =
    let n = next_frame p in
    let own = above_append p.own n in
    let known = above_known (with_pieces p.map n 0 cs) (n + 1)
    (λ q k. elim (known_pieces p.map n 0 cs q k)
    [ inl h ↦ omega (arith, known_below p.map q h) | inr e ↦ omega (arith, e) ]) in
    omega (arith, own, known)

-- the newest of numbers is the last
pub newest_last : (ms : List ℕ) (n : ℕ) → last_own_frame (ms ++ n ∷ []) ≡ n
newest_last ms n =
    let len = length-append ms (n ∷ []) in
    ap (λ j. get_or (ms ++ n ∷ []) j 0) {x = length (ms ++ n ∷ []) - 1} {y = length ms} (omega (arith, len))
    ∙ get_or-append_right ms (n ∷ []) (length ms) (length ms) 0 refl (omega arith)
    ∙ ap (λ k. get_or (n ∷ []) k 0) {y = 0} (omega arith)
