-- What a process knows is closed under earlier entries: the law kept from entry to entry.
use Rattle.std.proofs.Common.{◌≡◌, ◌⊎◌, ⊎_elim, inl, inr, ℕ, zero, suc, ◌<◌, ◌≤◌, Bool, true, false, cond, ◌||◌}
use Rattle.std.proofs.Common.{◌==◌, List, [], ◌∷◌, ◌++◌, length, length-append, append_assoc, append-nil, Option, Some}
use Rattle.std.proofs.Common.{None, slice_get, refl, sym, ap, ◌∙◌, subst, arith, eqb-true, eq-eqb}
use Rattle.std.proofs.lemmas.Bool.{false≢true, or_cases, or_left, or_right, true≢false}
use Rattle.std.proofs.lemmas.Option.{none-some, same_Some, slice_get_within}
use Rattle.sp_base.proofs.Facts.{below_or_at}
use Rattle.sp_journal.specs.Maps.{at_key}
use Rattle.sp_journal.specs.Names.{Name, Channel, same_name, same_channel, Happening, Opened, Forked, Offered, Ended}
use Rattle.sp_journal.specs.Names.{Faulted, Laid, Paused, Occurrence}
use Rattle.sp_journal.specs.Past.{Knowledge, learn, teach, report, known_with, knowledge_after_offer, knowledge_after}
use Rattle.sp_journal.specs.Past.{knowledge_from, no_knowledge}
use Rattle.sp_journal.proofs.NameLaws.{name_itself, name_is}
use Rattle.sp_race.specs.Prefixes.{is_counted, Counts, WaitsForNone, WaitersSilentFrom, WaitersAreSilent}
use Rattle.sp_race.specs.Prefixes.{KnowsPrefixes, KnowsCounted}
use Rattle.sp_race.proofs.Keys.{channel_is, channel_itself}

-- a set of indices of these entries that is closed under earlier entries of the same process
pub record IsPrefixClosed (es : List Occurrence) (f : ℕ → Bool) : Type 0 where
  pub closed : (q : Name) (i k : ℕ) → f i ≡ true → Counts es q i → Counts es q k → k ≤ i → f k ≡ true
  pub counted : (i : ℕ) → f i ≡ true → (q : Name) × Counts es q i

union_fine : (es : List Occurrence) (f g : ℕ → Bool) → IsPrefixClosed es f → IsPrefixClosed es g
    → IsPrefixClosed es (λ i. f i || g i)
union_fine es f g a b = record {
  closed = λ q i k h c d l. ⊎_elim (λ (x : f i ≡ true). or_left (f k) (g k) (a.closed q i k x c d l))
      (λ (x : g i ≡ true). or_right (f k) (g k) (b.closed q i k x c d l)) (or_cases (f i) (g i) h);
  counted = λ i h. ⊎_elim (λ (x : f i ≡ true). a.counted i x) (λ (x : g i ≡ true). b.counted i x)
      (or_cases (f i) (g i) h);
}

-- what holds of the sets before, and of what is told, holds of the sets after
module _ (P : (ℕ → Bool) → Type 0) (union : (f g : ℕ → Bool) → P f → P g → P (λ i. f i || g i)) (known : ℕ → Bool)
    (a : P known) where
  pub learn_all : (p : Name) (past : Name → ℕ → Bool) → ((q : Name) → P (past q)) → (q : Name)
      → P (learn p known past q)
  learn_all p past b q = by (same_name p q)
    where
      by : (t : Bool) → P (λ i. cond t (past q i || known i) (past q i))
      by true = union (past q) known (b q) a
      by false = b q

  pub teach_all : (p : Name) (fork i n : ℕ) (past : Name → ℕ → Bool) → ((q : Name) → P (past q)) → (q : Name)
      → P (teach p fork known i n past q)
  teach_all p fork i zero past b = b
  teach_all p fork i (suc n) past b = teach_all p fork (suc i) n (learn ((fork, i) ∷ p) known past)
      (learn_all ((fork, i) ∷ p) past b)

  pub report_all : (p : Name) (past : Name → ℕ → Bool) → ((q : Name) → P (past q)) → (q : Name)
      → P (report p known past q)
  report_all [] past b = b
  report_all (x ∷ p) past b = learn_all p past b

-- nothing is forgotten
pub learn_more : (p : Name) (known : ℕ → Bool) (past : Name → ℕ → Bool) (q : Name) (i : ℕ) → past q i ≡ true
    → learn p known past q i ≡ true
learn_more p known past q i h = by (same_name p q)
  where
    by : (t : Bool) → cond t (past q i || known i) (past q i) ≡ true
    by true = or_left (past q i) (known i) h
    by false = h

pub learn_here : (p : Name) (known : ℕ → Bool) (past : Name → ℕ → Bool) (i : ℕ) → known i ≡ true
    → learn p known past p i ≡ true
learn_here p known past i h = ap (λ t. cond t (past p i || known i) (past p i)) (name_itself p)
    ∙ or_right (past p i) (known i) h

pub teach_more : (p : Name) (fork : ℕ) (known : ℕ → Bool) (x n : ℕ) (past : Name → ℕ → Bool) (q : Name) (i : ℕ)
    → past q i ≡ true → teach p fork known x n past q i ≡ true
teach_more p fork known x zero past q i h = h
teach_more p fork known x (suc n) past q i h =
    teach_more p fork known (suc x) n (learn ((fork, x) ∷ p) known past) q i
    (learn_more ((fork, x) ∷ p) known past q i h)

pub report_more : (p : Name) (known : ℕ → Bool) (past : Name → ℕ → Bool) (q : Name) (i : ℕ) → past q i ≡ true
    → report p known past q i ≡ true
report_more [] known past q i h = h
report_more (x ∷ p) known past q i h = learn_more p known past q i h

-- looking an index up in a list with one more entry
pub get_low : (es : List Occurrence) (e : Occurrence) (i : ℕ) → i < length es
    → slice_get (es ++ e ∷ []) i ≡ slice_get es i
get_low [] e i l = absurd (omega arith)
get_low (x ∷ es) e zero l = refl
get_low (x ∷ es) e (suc i) l = get_low es e i (omega arith)

pub get_last : (es : List Occurrence) (e : Occurrence) → slice_get (es ++ e ∷ []) (length es) ≡ Some e
get_last [] e = refl
get_last (x ∷ es) e = get_last es e

module _ (es : List Occurrence) (e : Occurrence) where
  abbrev more : List Occurrence
  more = es ++ e ∷ []

  counts_more : (q : Name) (i : ℕ) → Counts es q i → Counts more q i
  counts_more q i c = (c.0, get_low es e i (slice_get_within es i _ c.1) ∙ c.1, c.2)

  counts_low : (q : Name) (i : ℕ) → i < length es → Counts more q i → Counts es q i
  counts_low q i l c = (c.0, sym (get_low es e i l) ∙ c.1, c.2)

  counts_inside : (q : Name) (i : ℕ) → Counts more q i → i < suc (length es)
  counts_inside q i c = let l = slice_get_within more i _ c.1 in let a = length-append es (e ∷ []) in omega arith

  counts_last : (q : Name) → Counts more q (length es) → (e.who ≡ q) × (is_counted e.what ≡ true)
  counts_last q c =
      let f = same_Some _ _ (sym (get_last es e) ∙ c.1) in
      (ap (λ (x : Occurrence). x.who) f, ap (λ (x : Occurrence). is_counted x.what) f ∙ c.2)

  fine_more : (f : ℕ → Bool) → IsPrefixClosed es f → IsPrefixClosed more f
  fine_more f a = record {
    closed = λ q i k h c d l.
        let (_, (_, is_there, _)) = a.counted i h in
        let m = slice_get_within es i _ is_there in
        a.closed q i k h (counts_low q i m c) (counts_low q k (omega arith) d) l;
    counted = λ i h. let b = a.counted i h in (b.0, counts_more b.0 i b.1);
  }

-- what is kept from entry to entry
pub record PrefixesAreKnown (j : Knowledge) (es : List Occurrence) : Type 0 where
  pub fine : (q : Name) → IsPrefixClosed es (j.past q)
  pub own : (q : Name) (k : ℕ) → Counts es q k → (j.past q k ≡ true) ⊎ ((c : Channel) × (j.pending c ≡ Some (q, k)))
  pub waiting : (c : Channel) (z : Name) (k : ℕ) → j.pending c ≡ Some (z, k) → Counts es z k
  pub single : (c d : Channel) (z : Name) (k l : ℕ) → j.pending c ≡ Some (z, k) → j.pending d ≡ Some (z, l) → c ≡ d

pair_first : (x y : Name × ℕ) → ◌≡◌ {A = Option (Name × ℕ)} (Some x) (Some y) → x.0 ≡ y.0
pair_first x y e = ap (λ (z : Name × ℕ). z.0) (same_Some x y e)

pub pair_second : (x y : Name × ℕ) → ◌≡◌ {A = Option (Name × ℕ)} (Some x) (Some y) → x.1 ≡ y.1
pair_second x y e = ap (λ (z : Name × ℕ). z.1) (same_Some x y e)

-- the value at a channel, by whether it is the one that was set
pub at_channel : (c d : Channel) (v : Option (Name × ℕ)) (m : Channel → Option (Name × ℕ)) (x : Name × ℕ)
    → at_key same_channel c v m d ≡ Some x → ((c ≡ d) × (v ≡ Some x)) ⊎ (m d ≡ Some x)
at_channel c d v m x h = by (same_channel c d) (channel_is c d) h
  where
    by : (t : Bool) → (t ≡ true → c ≡ d) → cond t v (m d) ≡ Some x → ((c ≡ d) × (v ≡ Some x)) ⊎ (m d ≡ Some x)
    by true f g = inl (f refl, g)
    by false f g = inr g

module _ (j : Knowledge) (es : List Occurrence) (e : Occurrence) (kept : PrefixesAreKnown j es)
    (silent : WaitsForNone j e.who) where
  abbrev n : ℕ
  n = length es

  low_own : (q : Name) (k : ℕ) → k < n → Counts (es ++ e ∷ []) q k → (j.past q k ≡ true)
      ⊎ ((c : Channel) × (j.pending c ≡ Some (q, k)))
  low_own q k l c = kept.own q k (counts_low es e q k l c)

  past_fine : (q : Name) → IsPrefixClosed (es ++ e ∷ []) (j.past q)
  past_fine q = fine_more es e (j.past q) (kept.fine q)

  module _ (counted : is_counted e.what ≡ true) where
    mine : IsPrefixClosed (es ++ e ∷ []) (known_with j e.who n)
    mine = record { closed = closed; counted = known }
      where
        last : (q : Name) (k : ℕ) → e.who ≡ q → Counts (es ++ e ∷ []) q k → k ≤ n → known_with j e.who n k ≡ true
        last q k w d l = ⊎_elim
            (λ (o : k < n). ⊎_elim
            (λ (x : j.past q k ≡ true). or_left (j.past e.who k) (n == k) (ap (λ (y : Name). j.past y k) w ∙ x))
            (λ (x : (c : Channel) × (j.pending c ≡ Some (q, k))). absurd (silent x.0 k (x.1 ∙ (λ i. Some
            (sym w i, k)))))
            (low_own q k o d))
            (λ (o : k ≡ n). or_right (j.past e.who k) (n == k) (eq-eqb n k (sym o)))
            (below_or_at k n (omega arith))

        closed : (q : Name) (i k : ℕ) → known_with j e.who n i ≡ true → Counts (es ++ e ∷ []) q i
            → Counts (es ++ e ∷ []) q k
            → k ≤ i → known_with j e.who n k ≡ true
        closed q i k h c d l = ⊎_elim
            (λ (x : j.past e.who i ≡ true). or_left (j.past e.who k) (n == k) ((past_fine e.who).closed q i k x c d l))
            (λ (x : n == i ≡ true).
            let f : n ≡ i = eqb-true n i x in
            last q k (counts_last es e q (subst (Counts (es ++ e ∷ []) q) (sym f) c)).0 d (omega arith))
            (or_cases (j.past e.who i) (n == i) h)

        known : (i : ℕ) → known_with j e.who n i ≡ true → (q : Name) × Counts (es ++ e ∷ []) q i
        known i h = ⊎_elim
            (λ (x : j.past e.who i ≡ true). (past_fine e.who).counted i x)
            (λ (x : n == i ≡ true). (
              e.who,
              subst (Counts (es ++ e ∷ []) e.who) (eqb-true n i x)
                  (e.what, get_last es e, counted),
            ))
            (or_cases (j.past e.who i) (n == i) h)

    -- an entry that changes no offer
    grown : (j' : Knowledge) → j'.pending ≡ j.pending → ((q : Name) → IsPrefixClosed (es ++ e ∷ []) (j'.past q))
        → ((q : Name) (i : ℕ) → j.past q i ≡ true → j'.past q i ≡ true) → j'.past e.who n ≡ true
        → PrefixesAreKnown j' (es ++ e ∷ [])
    grown j' same fine' more' here = record {
      fine = fine';
      own = λ q k c. ⊎_elim
          (λ (o : k < n). ⊎_elim
          (λ (x : j.past q k ≡ true). inl (more' q k x))
          (λ (x : (d : Channel) × (j.pending d ≡ Some (q, k))). inr (x.0, ap (λ f. f x.0) same ∙ x.1))
          (low_own q k o c))
          (λ (o : k ≡ n). inl (subst (λ (x : ℕ). j'.past q x ≡ true) (sym o)
          (subst (λ (x : Name). j'.past x n ≡ true) (counts_last es e q (subst (Counts (es ++ e ∷ []) q) o c)).0
          here)))
          (below_or_at k n (counts_inside es e q k c));
      waiting = λ c z k h. counts_more es e z k (kept.waiting c z k (sym (ap (λ f. f c) same) ∙ h));
      single = λ c d z k l h g. kept.single c d z k l (sym (ap (λ f. f c) same) ∙ h) (sym (ap (λ f. f d) same) ∙ g);
    }

    -- an offer that waits
    offer_waits : (c : Channel) → j.pending c ≡ None → PrefixesAreKnown (knowledge_after_offer j e.who n c None)
        (es ++ e ∷ [])
    offer_waits c none = record {
      fine = past_fine;
      own = λ q k h. ⊎_elim
          (λ (o : k < n). ⊎_elim
          (λ (x : j.past q k ≡ true). inl x)
          (λ (x : (d : Channel) × (j.pending d ≡ Some (q, k))). inr (x.0, elsewhere x.0 (q, k) x.1))
          (low_own q k o h))
          (λ (o : k ≡ n). let w = (counts_last es e q (subst (Counts (es ++ e ∷ []) q) o h)).0 in
          inr (c, here ∙ (λ i. Some (w i, sym o i))))
          (below_or_at k n (counts_inside es e q k h));
      waiting = λ d z k h. ⊎_elim
          (λ (x : (c ≡ d) × (◌≡◌ {A = Option (Name × ℕ)} (Some (e.who, n)) (Some (z, k)))). subst
          (Counts (es ++ e ∷ []) z) (pair_second _ _ x.1)
          (subst (λ (y : Name). Counts (es ++ e ∷ []) y n) (pair_first _ _ x.1) (e.what, get_last es e, counted)))
          (λ (x : j.pending d ≡ Some (z, k)). counts_more es e z k (kept.waiting d z k x))
          (at_channel c d (Some (e.who, n)) j.pending (z, k) h);
      single = λ d f z k l g h. ⊎_elim
          (λ (x : (c ≡ d) × (◌≡◌ {A = Option (Name × ℕ)} (Some (e.who, n)) (Some (z, k)))). ⊎_elim
          (λ (y : (c ≡ f) × (◌≡◌ {A = Option (Name × ℕ)} (Some (e.who, n)) (Some (z, l)))). sym x.0 ∙ y.0)
          (λ (y : j.pending f ≡ Some (z, l)). absurd (silent f l (y ∙ (λ i. Some (sym (pair_first _ _ x.1) i, l)))))
          (at_channel c f (Some (e.who, n)) j.pending (z, l) h))
          (λ (x : j.pending d ≡ Some (z, k)). ⊎_elim
          (λ (y : (c ≡ f) × (◌≡◌ {A = Option (Name × ℕ)} (Some (e.who, n)) (Some (z, l)))). absurd
          (silent d k (x ∙ (λ i. Some (sym (pair_first _ _ y.1) i, k)))))
          (λ (y : j.pending f ≡ Some (z, l)). kept.single d f z k l x y)
          (at_channel c f (Some (e.who, n)) j.pending (z, l) h))
          (at_channel c d (Some (e.who, n)) j.pending (z, k) g);
    }
      where
        here : at_key same_channel c (Some (e.who, n)) j.pending c ≡ Some (e.who, n)
        here = ap (λ t. cond t (Some (e.who, n)) (j.pending c)) (channel_itself c)

        elsewhere : (d : Channel) (x : Name × ℕ) → j.pending d ≡ Some x
            → at_key same_channel c (Some (e.who, n)) j.pending d ≡ Some x
        elsewhere d x h = by (same_channel c d) (channel_is c d)
          where
            by : (t : Bool) → (t ≡ true → c ≡ d) → cond t (Some (e.who, n)) (j.pending d) ≡ Some x
            by true f = absurd (none-some x (sym none ∙ ap j.pending (f refl) ∙ h))
            by false f = h

    -- an offer that meets the one that waits
    module _ (c : Channel) (o : Name × ℕ) (met : j.pending c ≡ Some o) where
      theirs : IsPrefixClosed (es ++ e ∷ []) (known_with j o.0 o.1)
      theirs = record { closed = closed; counted = known }
        where
          its : Counts es o.0 o.1
          its = kept.waiting c o.0 o.1 met

          same_who : (q : Name) → Counts (es ++ e ∷ []) q o.1 → o.0 ≡ q
          same_who q h = ap (λ (x : Occurrence). x.who) (same_Some _ _ (sym (counts_more es e o.0 o.1 its).1 ∙ h.1))

          last : (q : Name) (k : ℕ) → o.0 ≡ q → Counts (es ++ e ∷ []) q k → k ≤ o.1 → known_with j o.0 o.1 k ≡ true
          last q k w d l = ⊎_elim
              (λ (x : j.past q k ≡ true). or_left (j.past o.0 k) (o.1 == k) (ap (λ (y : Name). j.past y k) w ∙ x))
              (λ (x : (f : Channel) × (j.pending f ≡ Some (q, k))).
              let g : j.pending x.0 ≡ Some (o.0, k) = x.1 ∙ (λ i. Some (sym w i, k)) in
              let s : c ≡ x.0 = kept.single c x.0 o.0 o.1 k met g in
              or_right (j.past o.0 k) (o.1 == k) (eq-eqb o.1 k (pair_second o (o.0, k) (sym met ∙ ap j.pending s ∙ g))))
              (low_own q k (let m = slice_get_within es o.1 _ its.1 in omega arith) d)

          closed : (q : Name) (i k : ℕ) → known_with j o.0 o.1 i ≡ true → Counts (es ++ e ∷ []) q i
              → Counts (es ++ e ∷ []) q k
              → k ≤ i → known_with j o.0 o.1 k ≡ true
          closed q i k h a d l = ⊎_elim
              (λ (x : j.past o.0 i ≡ true). or_left (j.past o.0 k) (o.1 == k) ((past_fine o.0).closed q i k x a d l))
              (λ (x : o.1 == i ≡ true).
              let f : o.1 ≡ i = eqb-true o.1 i x in
              last q k (same_who q (subst (Counts (es ++ e ∷ []) q) (sym f) a)) d (omega arith))
              (or_cases (j.past o.0 i) (o.1 == i) h)

          known : (i : ℕ) → known_with j o.0 o.1 i ≡ true → (q : Name) × Counts (es ++ e ∷ []) q i
          known i h = ⊎_elim
              (λ (x : j.past o.0 i ≡ true). (past_fine o.0).counted i x)
              (λ (x : o.1 == i ≡ true). (
                o.0,
                subst (Counts (es ++ e ∷ []) o.0) (eqb-true o.1 i x) (counts_more es e o.0 o.1 its),
              ))
              (or_cases (j.past o.0 i) (o.1 == i) h)

      abbrev both : ℕ → Bool
      both i = known_with j e.who n i || known_with j o.0 o.1 i

      both_fine : IsPrefixClosed (es ++ e ∷ []) both
      both_fine = union_fine (es ++ e ∷ []) (known_with j e.who n) (known_with j o.0 o.1) mine theirs

      abbrev then : Knowledge
      then = knowledge_after_offer j e.who n c (Some o)

      keeps : (q : Name) (i : ℕ) → j.past q i ≡ true → then.past q i ≡ true
      keeps q i h = learn_more o.0 both (learn e.who both j.past) q i (learn_more e.who both j.past q i h)

      offer_meets : PrefixesAreKnown then (es ++ e ∷ [])
      offer_meets = record {
        fine = learn_all (IsPrefixClosed (es ++ e ∷ [])) (union_fine (es ++ e ∷ [])) both both_fine o.0
            (learn e.who both j.past) (learn_all (IsPrefixClosed (es ++ e ∷ []))
            (union_fine (es ++ e ∷ [])) both both_fine
            e.who j.past past_fine);
        own = λ q k h. ⊎_elim
            (λ (l : k < n). ⊎_elim
            (λ (x : j.past q k ≡ true). inl (keeps q k x))
            (λ (x : (d : Channel) × (j.pending d ≡ Some (q, k))). stays q k x.0 x.1 (same_channel c x.0) refl)
            (low_own q k l h))
            (λ (l : k ≡ n). inl (subst (λ (x : ℕ). then.past q x ≡ true) (sym l)
            (subst (λ (x : Name). then.past x n ≡ true) (counts_last es e q (subst (Counts (es ++ e ∷ []) q) l h)).0
            of_mine)))
            (below_or_at k n (counts_inside es e q k h));
        waiting = λ d z k h. counts_more es e z k (kept.waiting d z k (left d (z, k) h));
        single = λ d f z k l g h. kept.single d f z k l (left d (z, k) g) (left f (z, l) h);
      }
        where
          left : (d : Channel) (x : Name × ℕ) → at_key same_channel c None j.pending d ≡ Some x → j.pending d ≡ Some x
          left d x h = ⊎_elim (λ (y : (c ≡ d) × (◌≡◌ {A = Option (Name × ℕ)} None (Some x))). absurd (none-some x y.1))
              (λ (y : j.pending d ≡ Some x). y) (at_channel c d None j.pending x h)

          of_mine : then.past e.who n ≡ true
          of_mine = learn_more o.0 both (learn e.who both j.past) e.who n
              (learn_here e.who both j.past n
              (or_left (known_with j e.who n n) (known_with j o.0 o.1 n)
              (or_right (j.past e.who n) (n == n) (eq-eqb n n refl))))

          of_theirs : then.past o.0 o.1 ≡ true
          of_theirs = learn_here o.0 both (learn e.who both j.past) o.1
              (or_right (known_with j e.who n o.1) (known_with j o.0 o.1 o.1)
              (or_right (j.past o.0 o.1) (o.1 == o.1) (eq-eqb o.1 o.1 refl)))

          stays : (q : Name) (k : ℕ) (d : Channel) → j.pending d ≡ Some (q, k) → (t : Bool) → same_channel c d ≡ t
              → (then.past q k ≡ true) ⊎ ((f : Channel) × (then.pending f ≡ Some (q, k)))
          stays q k d h true t =
              let f : ◌≡◌ {A = Option (Name × ℕ)} (Some o) (Some (q, k)) = sym met ∙ ap j.pending (channel_is c d t)
              ∙ h in
              inl (subst (λ (x : ℕ). then.past q x ≡ true) (pair_second o (q, k) f)
              (subst (λ (x : Name). then.past x o.1 ≡ true) (pair_first o (q, k) f) of_theirs))
          stays q k d h false t = inr (d, ap (λ b. cond b None (j.pending d)) t ∙ h)

  -- an entry of no counted kind
  uncounted : is_counted e.what ≡ false → PrefixesAreKnown j (es ++ e ∷ [])
  uncounted f = record {
    fine = past_fine;
    own = λ q k c. ⊎_elim
        (λ (o : k < n). low_own q k o c)
        (λ (o : k ≡ n). absurd (true≢false (sym (counts_last es e q (subst (Counts (es ++ e ∷ []) q) o c)).1 ∙ f)))
        (below_or_at k n (counts_inside es e q k c));
    waiting = λ c z k h. counts_more es e z k (kept.waiting c z k h);
    single = kept.single;
  }

-- the new index alone, learned by its process
own_index : (j : Knowledge) (es : List Occurrence) (e : Occurrence) (kept : PrefixesAreKnown j es)
    (silent : WaitsForNone j e.who)
    → is_counted e.what ≡ true → (q : Name) → IsPrefixClosed (es ++ e ∷ []) (learn e.who (λ i. length es == i) j.past q)
own_index j es e kept silent counted q = by (same_name e.who q) (name_is e.who q)
  where
    by : (t : Bool) → (t ≡ true → e.who ≡ q)
        → IsPrefixClosed (es ++ e ∷ []) (λ i. cond t (j.past q i || (length es == i)) (j.past q i))
    by true f = subst (λ (x : Name). IsPrefixClosed (es ++ e ∷ []) (λ i. j.past x i || (length es == i))) (f refl)
        (mine j es e kept silent counted)
    by false f = past_fine j es e kept silent q

pub one_entry : (j : Knowledge) (es : List Occurrence) (p : Name) (h : Happening) → PrefixesAreKnown j es
    → WaitsForNone j p
    → PrefixesAreKnown (knowledge_after j (length es) p h) (es ++ record { who = p; what = h } ∷ [])
one_entry j es p Opened k w =
    grown j es (record { who = p; what = Opened }) k w refl (knowledge_after j (length es) p Opened)
    refl (own_index j es (record { who = p; what = Opened }) k w refl)
    (λ q i h. learn_more p (λ i. length es == i) j.past q i h)
    (learn_here p (λ i. length es == i) j.past (length es) (eq-eqb (length es) (length es) refl))
one_entry j es p (Forked c) k w =
    let e : Occurrence = record { who = p; what = Forked c } in
    let m : List Occurrence = es ++ e ∷ [] in
    let mid : Name → ℕ → Bool = learn p (λ i. length es == i) j.past in
    grown j es e k w refl (knowledge_after j (length es) p (Forked c)) refl
    (teach_all (IsPrefixClosed m) (union_fine m) (known_with j p (length es)) (mine j es e k w refl) p
    (j.forks p) 0 c mid
    (own_index j es e k w refl))
    (λ q i h. teach_more p (j.forks p) (known_with j p (length es)) 0 c mid q i
    (learn_more p (λ i. length es == i) j.past q i h))
    (teach_more p (j.forks p) (known_with j p (length es)) 0 c mid p (length es)
    (learn_here p (λ i. length es == i) j.past (length es) (eq-eqb (length es) (length es) refl)))
one_entry j es p Ended k w =
    let e : Occurrence = record { who = p; what = Ended } in
    let m : List Occurrence = es ++ e ∷ [] in
    let mid : Name → ℕ → Bool = learn p (λ i. length es == i) j.past in
    grown j es e k w refl (knowledge_after j (length es) p Ended) refl
    (report_all (IsPrefixClosed m) (union_fine m) (known_with j p (length es)) (mine j es e k w refl) p mid
    (own_index j es e k w refl))
    (λ q i h. report_more p (known_with j p (length es)) mid q i (learn_more p (λ i. length es == i) j.past q i h))
    (report_more p (known_with j p (length es)) mid p (length es)
    (learn_here p (λ i. length es == i) j.past (length es) (eq-eqb (length es) (length es) refl)))
one_entry j es p (Offered v c) k w = by (j.pending c) refl
  where
    by : (o : Option (Name × ℕ)) → j.pending c ≡ o
        → PrefixesAreKnown (knowledge_after_offer j p (length es) c o)
        (es ++ record { who = p; what = Offered v c } ∷ [])
    by None f = offer_waits j es (record { who = p; what = Offered v c }) k w refl c f
    by (Some o) f = offer_meets j es (record { who = p; what = Offered v c }) k w refl c o f
one_entry j es p (Faulted f) k w = uncounted j es (record { who = p; what = Faulted f }) k w refl
one_entry j es p Laid k w = uncounted j es (record { who = p; what = Laid }) k w refl
one_entry j es p Paused k w = uncounted j es (record { who = p; what = Paused }) k w refl

along : (j : Knowledge) (done es : List Occurrence) → PrefixesAreKnown j done → WaitersSilentFrom j (length done) es
    → PrefixesAreKnown (knowledge_from j (length done) es) (done ++ es)
along j done [] k q = subst (PrefixesAreKnown j) (sym (append-nil done)) k
along j done (e ∷ es) k q =
    let next : Knowledge = knowledge_after j (length done) e.who e.what in
    let one : PrefixesAreKnown next (done ++ e ∷ []) = one_entry j done e.who e.what k q.0 in
    let l : length (done ++ e ∷ []) ≡ suc (length done) = length-append done (e ∷ []) ∙ (omega arith) in
    let r : PrefixesAreKnown (knowledge_from next (length (done ++ e ∷ [])) es) ((done ++ e ∷ []) ++ es) =
    along next (done ++ e ∷ []) es one (subst (λ (x : ℕ). WaitersSilentFrom next x es) (sym l) q.1) in
    subst (PrefixesAreKnown (knowledge_from next (suc (length done)) es)) (append_assoc done (e ∷ []) es)
    (subst (λ (x : ℕ). PrefixesAreKnown (knowledge_from next x es) ((done ++ e ∷ []) ++ es)) l r)

pub nothing_kept : PrefixesAreKnown no_knowledge []
nothing_kept = record {
  fine = λ q. record { closed = λ p i k h. absurd (false≢true h); counted = λ i h. absurd (false≢true h) };
  own = λ q k c. absurd (let l = slice_get_within [] k _ c.1 in omega arith);
  waiting = λ c z k h. absurd (none-some (z, k) h);
  single = λ c d z k l h. absurd (none-some (z, k) h);
}

pub prefixes : (es : List Occurrence) → WaitersAreSilent es → KnowsPrefixes es
prefixes es q p r i k h c d l = ((along no_knowledge [] es nothing_kept q).fine p).closed r i k h c d l

pub counted_alone : (es : List Occurrence) → WaitersAreSilent es → KnowsCounted es
counted_alone es q p i h = ((along no_knowledge [] es nothing_kept q).fine p).counted i h
