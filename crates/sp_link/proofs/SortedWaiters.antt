-- The waiters of a run in order of their names, as the program tells them, are all that wait in the control, in the
-- order of the meaning (`all_waiting`).
use Rattle.std.proofs.Common.{◌≡◌, ◌⊎◌, inl, inr, ⊎_elim, ℕ, zero, suc, ◌+◌, ◌<◌, ◌≤◌, List, [], ◌∷◌, length, Bool}
use Rattle.std.proofs.Common.{true, false, refl, sym, ap, ◌∙◌, subst, arith}
use Rattle.std.specs.Prelude.{map, slice_set, slice_index_or}
use Rattle.std.specs.List.{swap, Contains, AllByRecursion, IsDistinct}
use Rattle.std.specs.List.Sorted.{IsPermutation, SwapsInRange, apply_swaps, IsSortedByKey}
use Rattle.std.specs.Ordering.{is_lt, ordering_reverse}
use Rattle.std.specs.declared.cmp.Ordering.{Ordering}
use Rattle.std.specs.declared.cmp.Ordering.TheVariants.{Less, Equal, Greater}
use Rattle.std.proofs.lemmas.List.Sorted.{Contains-permutation, IsPermutation-sym}
use Rattle.std.proofs.lemmas.Map.Keys.{IsDistinct-IsPermutation}
use Rattle.std.proofs.lemmas.Bool.{cases_lt}
use Rattle.sp_base.specs.Order.{name_cmp, name_total, same_name as name_of_tie}
use Rattle.sp_journal.specs.declared.entry.Way.TheVariants as way
use Rattle.sp_journal.specs.declared.outcome.Waiter.{Waiter}
use Rattle.sp_journal.specs.Births.{channel}
use Rattle.sp_journal.specs.Names.{same_name, proc_name}
use Rattle.sp_journal.proofs.BirthLaws.{Lawful}
use Rattle.sp_journal.proofs.NameLaws.{names_differ}
use Rattle.sp_meaning.specs.Ends.{Waiting, IsIn, IsSorted, name_before, waiter_of}
use Rattle.sp_meaning.proofs.Keys.{name_test}
use Rattle.sp_code.specs.Control.{Control, Doing, Unborn, Ready, Out, Sending, Receiving, Joining, Laid, Ended, Gone}
use Rattle.sp_link.specs.Endings.{IsWaiting, AreAllWaiting, with_waiting, waiting_from}
use Rattle.sp_link.proofs.NameOrder.{in_order}

-- ---- a list that is permuted in another form

module _ {A B : Type 0} (f : A → B) where
  long_map : (xs : List A) → length (map f xs) ≡ length xs
  long_map [] = refl
  long_map (x ∷ xs) = ap suc (long_map xs)

  at_map : (xs : List A) (i : ℕ) (d : A) → slice_index_or (map f xs) i (f d) ≡ f (slice_index_or xs i d)
  at_map [] i d = refl
  at_map (x ∷ xs) zero d = refl
  at_map (x ∷ xs) (suc i) d = at_map xs i d

  set_map : (xs : List A) (i : ℕ) (a : A) → map f (slice_set xs i a) ≡ slice_set (map f xs) i (f a)
  set_map [] i a = refl
  set_map (x ∷ xs) zero a = refl
  set_map (x ∷ xs) (suc i) a = ap (λ y. f x ∷ y) (set_map xs i a)

  swap_map : (xs : List A) (i j : ℕ) → map f (swap xs i j) ≡ swap (map f xs) i j
  swap_map [] i j = refl
  swap_map (d ∷ xs) i j =
      set_map (slice_set (d ∷ xs) i (slice_index_or (d ∷ xs) j d)) j (slice_index_or (d ∷ xs) i d)
      ∙ ap (λ y. slice_set y j (f (slice_index_or (d ∷ xs) i d))) (set_map (d ∷ xs) i (slice_index_or (d ∷ xs) j d))
      ∙ ap (λ y. slice_set (slice_set (map f (d ∷ xs)) i y) j (f (slice_index_or (d ∷ xs) i d)))
      (sym (at_map (d ∷ xs) j d))
      ∙ ap (λ y. slice_set (slice_set (map f (d ∷ xs)) i (slice_index_or (map f (d ∷ xs)) j (f d))) j y)
      (sym (at_map (d ∷ xs) i d))

  swaps_map : (xs : List A) (ms : List (ℕ × ℕ)) → map f (apply_swaps xs ms) ≡ apply_swaps (map f xs) ms
  swaps_map xs [] = refl
  swaps_map xs (m ∷ ms) = swap_map (apply_swaps xs ms) m.0 m.1 ∙ ap (λ y. swap y m.0 m.1) (swaps_map xs ms)

  permuted : (xs : List A) (ys : List B) → IsPermutation (map f xs) ys → (zs : List A) × IsPermutation xs zs
      × (ys ≡ map f zs)
  permuted xs ys p = (
    apply_swaps xs p.moves,
    record { moves = p.moves; below = subst (λ n. SwapsInRange n p.moves) (long_map xs) p.below; is = refl },
    p.is
        ∙ sym (swaps_map xs p.moves),
  )

-- ---- elements

to_contains : (w : Waiting) (vs : List Waiting) → IsIn w vs → Contains vs w
to_contains w [] i = absurd i
to_contains w (v ∷ vs) (inl e) = (0, omega arith, sym e)
to_contains w (v ∷ vs) (inr i) = let c = to_contains w vs i in (suc c.0, (let b = c.1 in omega (arith, b)), c.2)

from_at : (w : Waiting) (vs : List Waiting) (k : ℕ) → k < length vs → slice_index_or vs k w ≡ w → IsIn w vs
from_at w [] k lt e = absurd (omega (arith, lt))
from_at w (v ∷ vs) zero lt e = inl (sym e)
from_at w (v ∷ vs) (suc k) lt e = inr (from_at w vs k (omega (arith, lt)) e)

in_both : (us vs : List Waiting) → IsPermutation us vs → (w : Waiting) → IsIn w us → IsIn w vs
in_both us vs p w i = let c = Contains-permutation us vs w p (to_contains w us i) in from_at w vs c.0 c.1 c.2

-- ---- in order

abbrev alike : Waiting → Waiting → Bool
alike a b = same_name a.who b.who

flips : (a b : Waiting) → alike a b ≡ alike b a
flips a b = go (alike a b) (alike b a) refl refl
  where
    go : (x y : Bool) → alike a b ≡ x → alike b a ≡ y → x ≡ y
    go true true e f = refl
    go false false e f = refl
    go true false e f = sym ((name_test b.who a.who).1 (sym ((name_test a.who b.who).0 e))) ∙ f
    go false true e f = sym e ∙ (name_test a.who b.who).1 (sym ((name_test b.who a.who).0 f))

abbrev Keyed : List Waiter → Type 0
Keyed ws = IsSortedByKey (λ (w : Waiter). w.process) name_cmp ws

next_keyed : (w : Waiter) (ws : List Waiter) → Keyed (w ∷ ws) → Keyed ws
next_keyed w ws h k d l r =
    let e : suc k + 1 ≡ suc (k + 1) = omega arith in
    subst (λ n. is_lt (name_cmp (slice_index_or (w ∷ ws) n d).process (slice_index_or (w ∷ ws) (suc k) d).process)
    ≡ false) e (h (suc k) d (omega arith) (omega (arith, r)))

two_keyed : (v u : Waiter) (ws : List Waiter) → Keyed (v ∷ u ∷ ws) → is_lt (name_cmp u.process v.process) ≡ false
two_keyed v u ws h = h 0 v (omega arith) (omega arith)

before : (v u : Waiting) → is_lt (name_cmp (proc_name u.who) (proc_name v.who)) ≡ false → alike v u ≡ false
    → name_before v.who u.who ≡ true
before v u h n = in_order v.who u.who (go (name_cmp (proc_name u.who) (proc_name v.who)) refl h)
  where
    go : (o : Ordering) → name_cmp (proc_name u.who) (proc_name v.who) ≡ o → is_lt o ≡ false
        → name_cmp (proc_name v.who) (proc_name u.who) ≡ Less
    go Less e f = absurd (cc f)
    go Equal e f =
        let same : u.who ≡ v.who = names_differ u.who v.who (name_of_tie (proc_name u.who) (proc_name v.who) e) in
        let bad : true ≡ false = sym ((name_test v.who u.who).1 (sym same)) ∙ n in absurd (cc bad)
    go Greater e f = name_total.antisymm (proc_name v.who) (proc_name u.who) ∙ ap ordering_reverse e

sorted_by : (vs : List Waiting) → Keyed (map waiter_of vs) → IsDistinct alike vs → IsSorted vs
unfolding IsDistinct
sorted_by [] h d = tt
sorted_by (v ∷ []) h d = tt
sorted_by (v ∷ u ∷ vs) h ((apart, _), others) = (
  before v u (two_keyed (waiter_of v) (waiter_of u) (map waiter_of vs) h) apart,
  sorted_by (u ∷ vs) (next_keyed (waiter_of v) (waiter_of u ∷ map waiter_of vs) h) others,
)

-- ---- who waits, by numbers

module _ (k : Control) (lawful : Lawful k.births) (unborn : (q : ℕ) → k.births.processes ≤ q → k.doing q ≡ Unborn) where
  only_from : (q n : ℕ) (w : Waiting) → IsIn w (waiting_from k q n) → IsWaiting k w
  only_from q zero w i = absurd i
  only_from q (suc n) w i = by (k.doing q) refl (λ j. only_from (suc q) n w j) i
    where
      by : (d : Doing) → k.doing q ≡ d → (IsIn w (waiting_from k (suc q) n) → IsWaiting k w)
          → IsIn w (with_waiting k.births q d (waiting_from k (suc q) n)) → IsWaiting k w
      by (Sending c) e ih (inl x) = (q, c, inl (e, x))
      by (Sending c) e ih (inr i) = ih i
      by (Receiving c) e ih (inl x) = (q, c, inr (e, x))
      by (Receiving c) e ih (inr i) = ih i
      by Unborn e ih i = ih i
      by Ready e ih i = ih i
      by (Out w) e ih i = ih i
      by (Joining m) e ih i = ih i
      by Laid e ih i = ih i
      by Ended e ih i = ih i
      by Gone e ih i = ih i

  later : (q : ℕ) (d : Doing) (w : Waiting) (ws : List Waiting) → IsIn w ws → IsIn w (with_waiting k.births q d ws)
  later q (Sending c) w ws i = inr i
  later q (Receiving c) w ws i = inr i
  later _ _ _ _ i = i

  abbrev IsWaitOf : ℕ → Waiting → Type 0
  IsWaitOf i w = (c : ℕ)
      × (((k.doing i ≡ Sending c) × (w ≡ record {
        who = k.births.name i;
        way = way.Send;
        channel = channel k.births c;
      }))
      ⊎ ((k.doing i ≡ Receiving c) × (w ≡ record {
        who = k.births.name i;
        way = way.Receive;
        channel = channel k.births c;
      })))

  first_in : (q : ℕ) (w : Waiting) (ws : List Waiting) → IsWaitOf q w → IsIn w (with_waiting k.births q (k.doing q) ws)
  first_in q w ws (c, x) = ⊎_elim
      (λ y. subst (λ d. IsIn w (with_waiting k.births q d ws)) (sym y.0) (inl y.1))
      (λ y. subst (λ d. IsIn w (with_waiting k.births q d ws)) (sym y.0) (inl y.1)) x

  whole_from : (q n : ℕ) (w : Waiting) (i : ℕ) → q ≤ i → i < q + n → IsWaitOf i w → IsIn w (waiting_from k q n)
  whole_from q zero w i l r a = absurd (omega (arith, l, r))
  whole_from q (suc n) w i l r a = ⊎_elim
      (λ (e : q ≡ i). first_in q w (waiting_from k (suc q) n) (subst (λ y. IsWaitOf y w) (sym e) a))
      (λ (h : q < i). later q (k.doing q) w (waiting_from k (suc q) n)
      (whole_from (suc q) n w i (omega (arith, h)) (omega (arith, r)) a))
      (first_or q i l)
    where
      first_or : (q i : ℕ) → q ≤ i → (q ≡ i) ⊎ (q < i)
      first_or zero zero h = inl refl
      first_or zero (suc i) h = inr (omega arith)
      first_or (suc q) zero h = absurd (omega (arith, h))
      first_or (suc q) (suc i) h = ⊎_elim (λ (e : q ≡ i). inl (ap suc e)) (λ (l : q < i). inr (omega (arith, l)))
          (first_or q i (omega (arith, h)))

  -- no two have one name
  apart : (q : ℕ) (v : Waiting) → v.who ≡ k.births.name q → (p n : ℕ) → q < p → p + n ≤ k.births.processes
      → AllByRecursion (λ y. alike v y ≡ false) (waiting_from k p n)
  apart q v e p zero l r = tt
  apart q v e p (suc n) l r = by (k.doing p) (apart q v e (suc p) n (omega (arith, l)) (omega (arith, r)))
    where
      differ : (x : Waiting) → x.who ≡ k.births.name p → alike v x ≡ false
      differ x f = go (alike v x) refl
        where
          go : (b : Bool) → alike v x ≡ b → b ≡ false
          go false g = refl
          go true g = let same = lawful.one_name q p (omega (arith, l, r)) (omega (arith, r))
              (sym e ∙ (name_test v.who x.who).0 g ∙ f) in absurd (omega (arith, same, l))

      by : (d : Doing) → AllByRecursion (λ y. alike v y ≡ false) (waiting_from k (suc p) n)
          → AllByRecursion (λ y. alike v y ≡ false) (with_waiting k.births p d (waiting_from k (suc p) n))
      by (Sending c) ih = (
        differ (record { who = k.births.name p; way = way.Send; channel = channel k.births c }) refl,
        ih,
      )
      by (Receiving c) ih = (
        differ (record { who = k.births.name p; way = way.Receive; channel = channel k.births c })
            refl,
        ih,
      )
      by Unborn ih = ih
      by Ready ih = ih
      by (Out x) ih = ih
      by (Joining m) ih = ih
      by Laid ih = ih
      by Ended ih = ih
      by Gone ih = ih

  distinct_from : (q n : ℕ) → q + n ≤ k.births.processes → IsDistinct alike (waiting_from k q n)
  unfolding IsDistinct
  distinct_from q zero r = tt
  distinct_from q (suc n) r = by (k.doing q) (distinct_from (suc q) n (omega (arith, r)))
    where
      by : (d : Doing) → IsDistinct alike (waiting_from k (suc q) n)
          → IsDistinct alike (with_waiting k.births q d (waiting_from k (suc q) n))
      by (Sending c) ih = (
        apart q (record { who = k.births.name q; way = way.Send; channel = channel k.births c }) refl
            (suc q) n (omega arith) (omega (arith, r)),
        ih,
      )
      by (Receiving c) ih = (
        apart q (record { who = k.births.name q; way = way.Receive; channel = channel k.births c })
            refl (suc q) n (omega arith) (omega (arith, r)),
        ih,
      )
      by Unborn ih = ih
      by Ready ih = ih
      by (Out x) ih = ih
      by (Joining m) ih = ih
      by Laid ih = ih
      by Ended ih = ih
      by Gone ih = ih

  there : (i : ℕ) (w : Waiting) → IsWaitOf i w → i < k.births.processes
  there i w a = ⊎_elim (λ (h : i < k.births.processes). h)
      (λ (h : k.births.processes ≤ i). absurd (nobody (unborn i h) a.1)) (cases_lt i k.births.processes)
    where
      nobody : k.doing i ≡ Unborn → ((k.doing i ≡ Sending a.0)
          × (w ≡ record { who = k.births.name i; way = way.Send; channel = channel k.births a.0 }))
          ⊎ ((k.doing i ≡ Receiving a.0) × (w
          ≡ record { who = k.births.name i; way = way.Receive; channel = channel k.births a.0 })) → ⊥
      nobody u (inl x) = let bad : Unborn ≡ Sending a.0 = sym u ∙ x.0 in cc bad
      nobody u (inr x) = let bad : Unborn ≡ Receiving a.0 = sym u ∙ x.0 in cc bad

  pub all_waiting : (ws : List Waiter) → IsPermutation (map waiter_of (waiting_from k 0 k.births.processes)) ws
      → Keyed ws → (vs : List Waiting) × AreAllWaiting k vs × (ws ≡ map waiter_of vs)
  all_waiting ws p s =
      let us = waiting_from k 0 k.births.processes in
      let z = permuted waiter_of us ws p in (
        z.0,
        record {
          sorted = sorted_by z.0 (subst (λ y. Keyed y) z.2 s)
              (IsDistinct-IsPermutation alike flips us z.0 z.1 (distinct_from 0 k.births.processes (omega arith)));
          only = λ w i. only_from 0 k.births.processes w (in_both z.0 us (IsPermutation-sym us z.0 z.1) w i);
          whole = λ w h. in_both us z.0 z.1 w
              (whole_from 0 k.births.processes w h.0 (omega arith) (let a = there h.0 w (h.1, h.2) in omega (arith, a))
              (h.1, h.2));
        },
        z.2,
      )
