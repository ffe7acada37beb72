-- The sparse clocks of a journal by names: counts that stand for what each process knows.
use Rattle.std.proofs.Common.{◌≡◌, ◌⊎◌, ⊎_elim, inl, inr, ℕ, zero, suc, ◌<◌, ◌≤◌, Bool, true, false, cond, max, ◌&&◌}
use Rattle.std.proofs.Common.{◌||◌, ◌==◌, nat_lt, List, [], ◌∷◌, ◌++◌, take, length, length-append, Option, Some, None}
use Rattle.std.proofs.Common.{refl, sym, ap, ◌∙◌, subst, arith, eqb-true, eq-eqb}
use Rattle.std.proofs.Math.Nat.{le-max_left, le-max_right, max-le, max_comm, max-eq_left}
use Rattle.std.proofs.lemmas.Bool.{and_from, cases_lt, le-ltb, lt-ltb, ltb-true, or_cases, or_right}
use Rattle.std.proofs.lemmas.Option.{same_Some, slice_get_within}
use Rattle.sp_base.proofs.Facts.{below_or_at, or_with_false, true_is_not_false}
use Rattle.sp_journal.specs.Names.{Name, Channel, same_name, Happening, Opened, Forked, Offered, Ended, Faulted, Laid}
use Rattle.sp_journal.specs.Names.{Paused, Occurrence}
use Rattle.sp_journal.specs.Past.{Knowledge, learn, teach, report, known_with, knowledge_after_offer, knowledge_after}
use Rattle.sp_journal.proofs.NameLaws.{name_itself, name_is}
use Rattle.sp_meaning.proofs.Keys.{name_test}
use Rattle.sp_race.specs.Prefixes.{is_counted, Counts, WaitsForNone}
use Rattle.sp_race.specs.Counts.{count_of_entries, PlaceOf, with_clock, with_merged_clock, with_children_merged}
use Rattle.sp_race.specs.Counts.{with_parent_merged, clock_with_entry, clock_of_waiter, merged_clock}
use Rattle.sp_race.specs.Counts.{clocks_after_offer}
use Rattle.sp_race.specs.Counts.{clocks_after_entry}
use Rattle.sp_race.proofs.PrefixLaws.{PrefixesAreKnown, get_low, get_last, pair_second}

-- counts that say which of these entries are known
pub record CountsTellKnown (es : List Occurrence) (f : ℕ → Bool) (g : Name → ℕ) : Type 0 where
  pub says : (q : Name) (i k : ℕ) → PlaceOf es q i k → f i ≡ nat_lt k (g q)
  pub bound : (q : Name) → g q ≤ count_of_entries es q

-- laws of places

name_or_not : (p q : Name) → (p ≡ q) ⊎ (same_name p q ≡ false)
name_or_not p q = elim (same_name p q) as (λ b. same_name p q ≡ b → (p ≡ q) ⊎ (same_name p q ≡ false))
    [ true ↦ λ e. inl (name_is p q e) | false ↦ λ e. inr e ] refl

pub index_or_not : (a b : ℕ) → (a ≡ b) ⊎ (a == b ≡ false)
index_or_not a b = elim (a == b) as (λ c. a == b ≡ c → (a ≡ b) ⊎ (a == b ≡ false))
    [ true ↦ λ e. inl (eqb-true a b e) | false ↦ λ e. inr e ] refl

pub made_last : (es : List Occurrence) (e : Occurrence) (q : Name)
    → count_of_entries (es ++ e ∷ []) q ≡ cond (same_name e.who q && is_counted e.what) (suc (count_of_entries es q))
    (count_of_entries es q)
made_last [] e q = refl
made_last (x ∷ es) e q = by (same_name x.who q && is_counted x.what) (same_name e.who q && is_counted e.what)
    (made_last es e q)
  where
    by : (a b : Bool) → count_of_entries (es ++ e ∷ []) q ≡ cond b (suc (count_of_entries es q)) (count_of_entries es q)
        → cond a (suc (count_of_entries (es ++ e ∷ []) q)) (count_of_entries (es ++ e ∷ []) q)
        ≡ cond b (suc (cond a (suc (count_of_entries es q)) (count_of_entries es q)))
        (cond a (suc (count_of_entries es q)) (count_of_entries es q))
    by true true h = ap suc h
    by true false h = ap suc h
    by false true h = h
    by false false h = h

pub take_low : (es : List Occurrence) (e : Occurrence) (i : ℕ) → i ≤ length es → take i (es ++ e ∷ []) ≡ take i es
take_low [] e zero l = refl
take_low [] e (suc i) l = absurd (omega arith)
take_low (x ∷ es) e zero l = refl
take_low (x ∷ es) e (suc i) l = ap (λ ys. x ∷ ys) (take_low es e i (omega arith))

pub take_all : (es : List Occurrence) → take (length es) es ≡ es
take_all [] = refl
take_all (x ∷ es) = ap (λ ys. x ∷ ys) (take_all es)

made_grows : (es : List Occurrence) (e : Occurrence) (q : Name)
    → count_of_entries es q ≤ count_of_entries (es ++ e ∷ []) q
made_grows es e q = subst (λ x. count_of_entries es q ≤ x) (sym (made_last es e q))
    (by (same_name e.who q && is_counted e.what))
  where
    by : (b : Bool) → count_of_entries es q ≤ cond b (suc (count_of_entries es q)) (count_of_entries es q)
    by true = omega arith
    by false = omega arith

-- an entry of a process has fewer before it than all
pub place_few : (es : List Occurrence) (q : Name) (i k : ℕ) → PlaceOf es q i k → k < count_of_entries es q
place_few [] q i k (_, at_is, _, _) = absurd (let l = slice_get_within [] i _ at_is in omega arith)
place_few (x ∷ es) q zero k (what, at_is, counted, place_is) =
    let e : x ≡ record { who = q; what = what } = same_Some x _ at_is in
    let t : same_name x.who q && is_counted x.what ≡ true =
    ap (λ (y : Occurrence). same_name y.who q && is_counted y.what) e
    ∙ and_from (same_name q q) (is_counted what) (name_itself q) counted in
    let m : count_of_entries (x ∷ es) q ≡ suc (count_of_entries es q) =
    ap (λ b. cond b (suc (count_of_entries es q)) (count_of_entries es q)) t in
    omega arith
place_few (x ∷ es) q (suc i) k (what, at_is, counted, place_is) =
    by (place_few es q i (count_of_entries (take i es) q) (what, at_is, counted, refl))
    (same_name x.who q && is_counted x.what) place_is
  where
    by : count_of_entries (take i es) q < count_of_entries es q → (b : Bool)
        → k ≡ cond b (suc (count_of_entries (take i es) q)) (count_of_entries (take i es) q)
        → k < cond b (suc (count_of_entries es q)) (count_of_entries es q)
    by l true e = omega arith
    by l false e = omega arith

module _ (es : List Occurrence) (e : Occurrence) where
  abbrev more : List Occurrence
  more = es ++ e ∷ []

  pub place_inside : (q : Name) (i k : ℕ) → PlaceOf more q i k → i < suc (length es)
  place_inside q i k (_, at_is, _, _) =
      let l = slice_get_within more i _ at_is in let a = length-append es (e ∷ []) in omega arith

  pub place_low : (q : Name) (i k : ℕ) → i < length es → PlaceOf more q i k → PlaceOf es q i k
  place_low q i k l (what, at_is, counted, place_is) = (
    what,
    sym (get_low es e i l) ∙ at_is,
    counted,
    place_is
        ∙ ap (λ xs. count_of_entries xs q) (take_low es e i (omega arith)),
  )

  pub place_last : (q : Name) (k : ℕ) → PlaceOf more q (length es) k → (e.who ≡ q) × (is_counted e.what ≡ true)
      × (k ≡ count_of_entries es q)
  place_last q k (what, at_is, counted, place_is) =
      let f : e ≡ record { who = q; what = what } = same_Some e _ (sym (get_last es e) ∙ at_is) in (
        ap (λ (x : Occurrence). x.who) f,
        ap (λ (x : Occurrence). is_counted x.what) f ∙ counted,
        place_is
            ∙ ap (λ xs. count_of_entries xs q) (take_low es e (length es) (omega arith) ∙ take_all es),
      )

  -- what says it before says it after, where the new index is not known
  says_more : (f : ℕ → Bool) (g : Name → ℕ) → ((i : ℕ) → f i ≡ true → i < length es) → CountsTellKnown es f g
      → CountsTellKnown more f g
  says_more f g below s = record {
    says = λ q i k p. ⊎_elim
        (λ (l : i < length es). s.says q i k (place_low q i k l p))
        (λ (l : i ≡ length es).
        let x = place_last q k (subst (λ y. PlaceOf more q y k) l p) in
        let b = s.bound q in
        unknown (f i) refl (λ h. let y = below i h in omega arith) ∙ sym (le-ltb k (g q) (omega (arith, x.2, b))))
        (below_or_at i (length es) (place_inside q i k p));
    bound = λ q. let a = s.bound q in let b = made_grows es e q in omega arith;
  }
    where
      unknown : (b : Bool) → {i : ℕ} → f i ≡ b → (f i ≡ true → ⊥) → f i ≡ false
      unknown true h n = absurd (n h)
      unknown false h n = h

-- both together say what either knows
absorb_left : (x y : Bool) → (x ≡ true → y ≡ true) → x || y ≡ y
absorb_left true y h = sym (h refl)
absorb_left false y h = refl

absorb_right : (x y : Bool) → (y ≡ true → x ≡ true) → x || y ≡ x
absorb_right true y h = refl
absorb_right false true h = sym (h refl)
absorb_right false false h = refl

or_max : (k a b : ℕ) → nat_lt k a || nat_lt k b ≡ nat_lt k (max a b)
or_max k a b = ⊎_elim
    (λ (l : a < b). absorb_left (nat_lt k a) (nat_lt k b) (λ h. lt-ltb k b (let x = ltb-true k a h in omega arith))
    ∙ ap (nat_lt k) (sym (max_comm a b ∙ max-eq_left (omega arith))))
    (λ (l : b ≤ a). absorb_right (nat_lt k a) (nat_lt k b) (λ h. lt-ltb k a (let x = ltb-true k b h in omega arith))
    ∙ ap (nat_lt k) (sym (max-eq_left l)))
    (cases_lt a b)

pub says_both : (es : List Occurrence) (f g : ℕ → Bool) (a b : Name → ℕ) → CountsTellKnown es f a
    → CountsTellKnown es g b
    → CountsTellKnown es (λ i. f i || g i) (λ q. max (a q) (b q))
says_both es f g a b s t = record {
  says = λ q i k p. (λ j. s.says q i k p j || t.says q i k p j) ∙ or_max k (a q) (b q);
  bound = λ q. max-le (s.bound q) (t.bound q);
}

-- what holds of each clock before, and of what is merged in, holds of each clock after
module _ (P : (ℕ → Bool) → (Name → ℕ) → Type 0)
    (union : (f g : ℕ → Bool) (a b : Name → ℕ) → P f a → P g b → P (λ i. f i || g i) (λ q. max (a q) (b q)))
    (known : ℕ → Bool) (clock : Name → ℕ) (holds : P known clock) where
  gains_all : (p : Name) (past : Name → ℕ → Bool) (count : Name → Name → ℕ) → ((q : Name) → P (past q) (count q))
      → (q : Name) → P (learn p known past q) (with_merged_clock p clock count q)
  gains_all p past count b q = by (same_name p q)
    where
      by : (t : Bool) → P (λ i. cond t (past q i || known i) (past q i))
          (λ r. cond t (max (count q r) (clock r)) (count q r))
      by true = union (past q) known (count q) clock (b q) holds
      by false = b q

  shares_all : (p : Name) (fork i n : ℕ) (past : Name → ℕ → Bool) (count : Name → Name → ℕ)
      → ((q : Name) → P (past q) (count q)) → (q : Name)
      → P (teach p fork known i n past q) (with_children_merged p fork clock i n count q)
  shares_all p fork i zero past count b = b
  shares_all p fork i (suc n) past count b =
      shares_all p fork (suc i) n (learn ((fork, i) ∷ p) known past) (with_merged_clock ((fork, i) ∷ p) clock count)
      (gains_all ((fork, i) ∷ p) past count b)

  gives_back_all : (p : Name) (past : Name → ℕ → Bool) (count : Name → Name → ℕ) → ((q : Name) → P (past q) (count q))
      → (q : Name) → P (report p known past q) (with_parent_merged p clock count q)
  gives_back_all [] past count b = b
  gives_back_all (x ∷ p) past count b = gains_all p past count b

module _ (j : Knowledge) (es : List Occurrence) (count : Name → Name → ℕ) (kept : PrefixesAreKnown j es)
    (below : (q : Name) (i : ℕ) → j.past q i ≡ true → i < length es)
    (says : (q : Name) → CountsTellKnown es (j.past q) (count q)) where
  abbrev n : ℕ
  n = length es

  counts_of : (q : Name) (i k : ℕ) → PlaceOf es q i k → Counts es q i
  counts_of q i k p = (p.0, p.1, p.2)

  -- who waits, with the offer that waits
  module _ (c : Channel) (z : Name) (x : ℕ) (met : j.pending c ≡ Some (z, x)) where
    its_place : PlaceOf es z x (count_of_entries (take x es) z)
    its_place = let w = kept.waiting c z x met in (w.0, w.1, w.2, refl)

    its_index : x < n
    its_index = slice_get_within es x _ its_place.1

    -- each other counted entry of it is known to it
    knows_others : (i k : ℕ) → x == i ≡ false → PlaceOf es z i k → j.past z i ≡ true
    knows_others i k d p = ⊎_elim
        (λ (h : j.past z i ≡ true). h)
        (λ (h : (f : Channel) × (j.pending f ≡ Some (z, i))).
        let s : c ≡ h.0 = kept.single c h.0 z x i met h.1 in
        let y : x ≡ i = pair_second (z, x) (z, i) (sym met ∙ ap j.pending s ∙ h.1) in
        true_is_not_false (sym (eq-eqb x i y) ∙ d))
        (kept.own z i (counts_of z i k p))

    same_place : (q : Name) (k : ℕ) → PlaceOf es q x k → (z ≡ q) × (k ≡ count_of_entries (take x es) z)
    same_place q k (_, at_is, _, place_is) =
        let e : z ≡ q = who _ _ (sym its_place.1 ∙ at_is) in
        (e, place_is ∙ ap (λ r. count_of_entries (take x es) r) (sym e))
      where
        who : (a b : Occurrence) → ◌≡◌ {A = Option Occurrence} (Some a) (Some b) → a.who ≡ b.who
        who a b e = ap (λ (o : Occurrence). o.who) (same_Some a b e)

    theirs_say : CountsTellKnown es (known_with j z x) (clock_of_waiter count es z x)
    theirs_say = record { says = told; bound = within }
      where
        place : ℕ
        place = count_of_entries (take x es) z

        told : (q : Name) (i k : ℕ) → PlaceOf es q i k → known_with j z x i ≡ nat_lt k (clock_of_waiter count es z x q)
        told q i k p = ⊎_elim here there (index_or_not x i)
          where
            here : x ≡ i → known_with j z x i ≡ nat_lt k (clock_of_waiter count es z x q)
            here e =
                let s = same_place q k (subst (λ y. PlaceOf es q y k) (sym e) p) in
                let g : clock_of_waiter count es z x q ≡ max (count z q) (suc place) =
                ap (λ b. cond b (max (count z q) (suc place)) (count z q)) ((name_test z q).1 s.0) in
                or_right (j.past z i) (x == i) (eq-eqb x i e)
                ∙ sym (ap (nat_lt k) g ∙ lt-ltb k (max (count z q) (suc place))
                (let m = le-max_right (count z q) (suc place) in let y = s.1 in omega arith))

            there : x == i ≡ false → known_with j z x i ≡ nat_lt k (clock_of_waiter count es z x q)
            there d = ap (λ b. j.past z i || b) d ∙ or_with_false (j.past z i) ∙ ⊎_elim own other (name_or_not z q)
              where
                own : z ≡ q → j.past z i ≡ nat_lt k (clock_of_waiter count es z x q)
                own e =
                    let h : j.past z i ≡ true = knows_others i k d (subst (λ r. PlaceOf es r i k) (sym e) p) in
                    let l : k < count z q = ltb-true k (count z q) (sym ((says z).says q i k p) ∙ h) in
                    let g : clock_of_waiter count es z x q ≡ max (count z q) (suc place) =
                    ap (λ b. cond b (max (count z q) (suc place)) (count z q)) ((name_test z q).1 e) in
                    h ∙ sym (ap (nat_lt k) g
                    ∙ lt-ltb k (max (count z q) (suc place))
                    (let m = le-max_left (count z q) (suc place) in omega arith))

                other : same_name z q ≡ false → j.past z i ≡ nat_lt k (clock_of_waiter count es z x q)
                other e = (says z).says q i k p
                    ∙ ap (nat_lt k) (sym (ap (λ b. cond b (max (count z q) (suc place)) (count z q)) e))

        within : (q : Name) → clock_of_waiter count es z x q ≤ count_of_entries es q
        within q = ⊎_elim
            (λ (e : z ≡ q).
            let l = place_few es z x place its_place in
            let m : place < count_of_entries es q = subst (λ r. place < count_of_entries es r) e l in
            subst (λ y. y ≤ count_of_entries es q) (sym (ap (λ b. cond b (max (count z q) (suc place)) (count z q))
            ((name_test z q).1 e))) (max-le ((says z).bound q) m))
            (λ (e : same_name z q ≡ false). subst (λ y. y ≤ count_of_entries es q)
            (sym (ap (λ b. cond b (max (count z q) (suc place)) (count z q)) e)) ((says z).bound q))
            (name_or_not z q)

  module _ (p : Name) (h : Happening) where
    abbrev entry : Occurrence
    entry = record { who = p; what = h }

    abbrev longer : List Occurrence
    longer = es ++ entry ∷ []

    still : (q : Name) → CountsTellKnown longer (j.past q) (count q)
    still q = says_more es entry (j.past q) (count q) (below q) (says q)

    module _ (counted : is_counted h ≡ true) (silent : WaitsForNone j p) where
      -- each counted entry of p is known to p
      knows_own : (i k : ℕ) → PlaceOf es p i k → j.past p i ≡ true
      knows_own i k o = ⊎_elim
          (λ (x : j.past p i ≡ true). x)
          (λ (x : (c : Channel) × (j.pending c ≡ Some (p, i))). absurd (silent x.0 i x.1))
          (kept.own p i (counts_of p i k o))

      mine_is : (q : Name) → p ≡ q → clock_with_entry count es p q ≡ max (count p q) (suc (count_of_entries es q))
      mine_is q e = ap (λ b. cond b (max (count p q) (suc (count_of_entries es p))) (count p q)) ((name_test p q).1 e)
          ∙ ap (λ r. max (count p q) (suc (count_of_entries es r))) e

      mine_other : (q : Name) → same_name p q ≡ false → clock_with_entry count es p q ≡ count p q
      mine_other q e = ap (λ b. cond b (max (count p q) (suc (count_of_entries es p))) (count p q)) e

      mine_says : CountsTellKnown longer (known_with j p n) (clock_with_entry count es p)
      mine_says = record { says = told; bound = within }
        where
          told : (q : Name) (i k : ℕ) → PlaceOf longer q i k
              → known_with j p n i ≡ nat_lt k (clock_with_entry count es p q)
          told q i k o = ⊎_elim low last (below_or_at i n (place_inside es entry q i k o))
            where
              low : i < n → known_with j p n i ≡ nat_lt k (clock_with_entry count es p q)
              low l = ap (λ b. j.past p i || b) apart ∙ or_with_false (j.past p i) ∙ ⊎_elim own other (name_or_not p q)
                where
                  old : PlaceOf es q i k
                  old = place_low es entry q i k l o

                  apart : n == i ≡ false
                  apart = ⊎_elim (λ (e : n ≡ i). absurd (omega arith)) (λ (e : n == i ≡ false). e) (index_or_not n i)

                  own : p ≡ q → j.past p i ≡ nat_lt k (clock_with_entry count es p q)
                  own e =
                      let f = place_few es q i k old in
                      knows_own i k (subst (λ r. PlaceOf es r i k) (sym e) old)
                      ∙ sym (ap (nat_lt k) (mine_is q e)
                      ∙ lt-ltb k (max (count p q) (suc (count_of_entries es q)))
                      (let m = le-max_right (count p q) (suc (count_of_entries es q)) in omega arith))

                  other : same_name p q ≡ false → j.past p i ≡ nat_lt k (clock_with_entry count es p q)
                  other e = (says p).says q i k old ∙ ap (nat_lt k) (sym (mine_other q e))

              last : i ≡ n → known_with j p n i ≡ nat_lt k (clock_with_entry count es p q)
              last e =
                  let x = place_last es entry q k (subst (λ y. PlaceOf longer q y k) e o) in
                  or_right (j.past p i) (n == i) (eq-eqb n i (sym e))
                  ∙ sym (ap (nat_lt k) (mine_is q x.0)
                  ∙ lt-ltb k (max (count p q) (suc (count_of_entries es q)))
                  (let m = le-max_right (count p q) (suc (count_of_entries es q)) in let y = x.2 in omega arith))

          within : (q : Name) → clock_with_entry count es p q ≤ count_of_entries longer q
          within q = ⊎_elim
              (λ (e : p ≡ q).
              let m : count_of_entries longer q ≡ suc (count_of_entries es q) = made_last es entry q
              ∙ ap (λ b. cond b (suc (count_of_entries es q)) (count_of_entries es q))
              (and_from (same_name p q) (is_counted h) ((name_test p q).1 e) counted) in
              let b = (says p).bound q in
              subst (λ y. y ≤ count_of_entries longer q) (sym (mine_is q e)) (max-le (omega arith) (omega arith)))
              (λ (e : same_name p q ≡ false). subst (λ y. y ≤ count_of_entries longer q) (sym (mine_other q e))
              ((still p).bound q))
              (name_or_not p q)

      -- the new index alone, learned by its process
      own_says : (q : Name) → CountsTellKnown longer (learn p (λ i. n == i) j.past q)
          (with_clock p (clock_with_entry count es p) count q)
      own_says q = by (same_name p q) (name_is p q)
        where
          by : (t : Bool) → (t ≡ true → p ≡ q)
              → CountsTellKnown longer (λ i. cond t (j.past q i || (n == i)) (j.past q i))
              (λ r. cond t (clock_with_entry count es p r) (count q r))
          by true f = subst (λ (x : Name). CountsTellKnown longer (λ i. j.past x i || (n == i))
              (clock_with_entry count es p)) (f refl)
              mine_says
          by false f = still q

      met_says : (c : Channel) (o : Option (Name × ℕ)) → j.pending c ≡ o → (q : Name)
          → CountsTellKnown longer ((knowledge_after_offer j p n c o).past q) (clocks_after_offer count es p o q)
      met_says c None e = still
      met_says c (Some o) e = gains_all (CountsTellKnown longer) (says_both longer) known clocks known_says o.0
          (learn p known j.past) (with_merged_clock p clocks count)
          (gains_all (CountsTellKnown longer) (says_both longer) known clocks known_says p j.past count still)
        where
          known : ℕ → Bool
          known i = known_with j p n i || known_with j o.0 o.1 i

          clocks : Name → ℕ
          clocks = merged_clock (clock_with_entry count es p) (clock_of_waiter count es o.0 o.1)

          its_below : (i : ℕ) → known_with j o.0 o.1 i ≡ true → i < n
          its_below i t = ⊎_elim (λ (x : j.past o.0 i ≡ true). below o.0 i x)
              (λ (x : o.1 == i ≡ true). let y = eqb-true o.1 i x in let l = its_index c o.0 o.1 e in omega arith)
              (or_cases (j.past o.0 i) (o.1 == i) t)

          known_says : CountsTellKnown longer known clocks
          known_says = says_both longer (known_with j p n) (known_with j o.0 o.1) (clock_with_entry count es p)
              (clock_of_waiter count es o.0 o.1)
              mine_says (says_more es entry (known_with j o.0 o.1) (clock_of_waiter count es o.0 o.1) its_below
              (theirs_say c o.0 o.1 e))

-- the clocks say what each process knows after one more entry
pub one_more : (j : Knowledge) (es : List Occurrence) (count : Name → Name → ℕ) → PrefixesAreKnown j es
    → ((q : Name) (i : ℕ) → j.past q i ≡ true → i < length es) → ((q : Name) → CountsTellKnown es (j.past q) (count q))
    → (p : Name) (h : Happening) → WaitsForNone j p → (q : Name)
    → CountsTellKnown (es ++ record { who = p; what = h } ∷ []) ((knowledge_after j (length es) p h).past q)
    (clocks_after_entry count j es p h q)
one_more j es count kept below says p Opened w = own_says j es count kept below says p Opened refl w
one_more j es count kept below says p (Forked k) w =
    let m : List Occurrence = es ++ record { who = p; what = Forked k } ∷ [] in
    shares_all (CountsTellKnown m) (says_both m) (known_with j p (length es)) (clock_with_entry count es p)
    (mine_says j es count kept below says p (Forked k) refl w) p (j.forks p) 0 k
    (learn p (λ i. length es == i) j.past) (with_clock p (clock_with_entry count es p) count)
    (own_says j es count kept below says p (Forked k) refl w)
one_more j es count kept below says p Ended w =
    let m : List Occurrence = es ++ record { who = p; what = Ended } ∷ [] in
    gives_back_all (CountsTellKnown m) (says_both m) (known_with j p (length es)) (clock_with_entry count es p)
    (mine_says j es count kept below says p Ended refl w) p (learn p (λ i. length es == i) j.past)
    (with_clock p (clock_with_entry count es p) count) (own_says j es count kept below says p Ended refl w)
one_more j es count kept below says p (Offered v c) w =
    met_says j es count kept below says p (Offered v c) refl w c (j.pending c) refl
one_more j es count kept below says p (Faulted f) w = still j es count kept below says p (Faulted f)
one_more j es count kept below says p Laid w = still j es count kept below says p Laid
one_more j es count kept below says p Paused w = still j es count kept below says p Paused

pub nothing_said : (q : Name) → CountsTellKnown [] (λ i. false) (λ r. 0)
nothing_said q = record {
  says = λ r i k p. absurd (let l = slice_get_within [] i _ p.1 in omega arith);
  bound = λ r. omega arith;
}
