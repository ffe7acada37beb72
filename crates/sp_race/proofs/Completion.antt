-- The order condition by completions and that by the earlier offer's own index are the same.
use Rattle.std.proofs.Common.{◌≡◌, ◌≢◌, ◌⊎◌, ⊎_elim, inl, inr, ℕ, zero, suc, ◌<◌, ◌≤◌, le_refl, lt_irrefl, eqb-true}
use Rattle.std.proofs.Common.{eq-eqb, Bool, true, false, cond, ◌||◌, ◌==◌, List, [], ◌∷◌, ◌++◌, length, slice_get}
use Rattle.std.proofs.Common.{Option, Some, None, refl, sym, ap, ◌∙◌, subst, arith}
use Rattle.std.proofs.lemmas.Bool.{cases_eq, false≢true, ne_eqb, or_cases, or_left, or_right}
use Rattle.std.proofs.lemmas.Option.{none-some, same_Some}
use Rattle.sp_journal.specs.declared.entry.Way.{Way}
use Rattle.sp_journal.specs.Names.{Name, Channel, same_name, same_channel, Happening, Opened, Forked, Offered, Ended}
use Rattle.sp_journal.specs.Names.{Faulted, Laid, Paused, Occurrence}
use Rattle.sp_journal.specs.Past.{Knowledge, learn, teach, report, known_with, knowledge_after_offer, knowledge_after}
use Rattle.sp_journal.specs.Past.{no_knowledge}
use Rattle.sp_journal.specs.Past.{KnowsCompletions, CompletedFrom, AreOrdered}
use Rattle.sp_meaning.specs.Maps.{at_key}
use Rattle.sp_meaning.proofs.Maps.{same_or_not, at_other}
use Rattle.sp_meaning.proofs.Keys.{channel_test}
use Rattle.sp_race.specs.OfferOrder.{KnowsOffers, KnownFrom, AreKnown}
use Rattle.sp_race.proofs.NoteLaws.{grown_size, kept_entry, last_entry}
use Rattle.sp_race.proofs.LinkedSteps.{learn_below, teach_below, now_below, report_below}

-- where it holds a completion, it holds what was completed
abbrev pub KnowsCompletedOffers : (ℕ → Option ℕ) → (ℕ → Bool) → Type 0
KnowsCompletedOffers done known = (i m : ℕ) → done i ≡ Some m → known m ≡ true → known i ≡ true

pub record Paired (j : Knowledge) (n : ℕ) : Type 0 where
  pub closed : (q : Name) → KnowsCompletedOffers j.completed (j.past q)
  pub below : (q : Name) (i : ℕ) → j.past q i ≡ true → i < n
  bound : (i m : ℕ) → j.completed i ≡ Some m → m < n
  itself : (i m : ℕ) → j.completed i ≡ Some m → j.completed m ≡ Some m
  waits : (c : Channel) (z : Name) (k : ℕ) → j.pending c ≡ Some (z, k) → (k < n) × (j.completed k ≡ None)
  single : (c d : Channel) (z y : Name) (k : ℕ) → j.pending c ≡ Some (z, k) → j.pending d ≡ Some (y, k) → c ≡ d
  later : (i : ℕ) → n ≤ i → j.completed i ≡ None

union_closed : (d : ℕ → Option ℕ) (f g : ℕ → Bool) → KnowsCompletedOffers d f → KnowsCompletedOffers d g
    → KnowsCompletedOffers d (λ i. f i || g i)
union_closed d f g a b i m e h = ⊎_elim (λ (k : f m ≡ true). or_left (f i) (g i) (a i m e k))
    (λ (k : g m ≡ true). or_right (f i) (g i) (b i m e k)) (or_cases (f m) (g m) h)

learn_closed : (d : ℕ → Option ℕ) (p : Name) (known : ℕ → Bool) (past : Name → ℕ → Bool) → KnowsCompletedOffers d known
    → ((q : Name) → KnowsCompletedOffers d (past q)) → (q : Name) → KnowsCompletedOffers d (learn p known past q)
learn_closed d p known past a b q i m e h = by (same_name p q) h
  where
    by : (c : Bool) → cond c (past q m || known m) (past q m) ≡ true → cond c (past q i || known i) (past q i) ≡ true
    by true k = union_closed d (past q) known (b q) a i m e k
    by false k = b q i m e k

teach_closed : (d : ℕ → Option ℕ) (p : Name) (f : ℕ) (known : ℕ → Bool) → KnowsCompletedOffers d known
    → (x k : ℕ) (past : Name → ℕ → Bool) → ((q : Name) → KnowsCompletedOffers d (past q)) → (q : Name)
    → KnowsCompletedOffers d (teach p f known x k past q)
teach_closed d p f known a x zero past b = b
teach_closed d p f known a x (suc k) past b =
    teach_closed d p f known a (suc x) k (learn ((f, x) ∷ p) known past) (learn_closed d ((f, x) ∷ p) known past a b)

report_closed : (d : ℕ → Option ℕ) (p : Name) (known : ℕ → Bool) (past : Name → ℕ → Bool) → KnowsCompletedOffers d known
    → ((q : Name) → KnowsCompletedOffers d (past q)) → (q : Name) → KnowsCompletedOffers d (report p known past q)
report_closed d [] known past a b = b
report_closed d (x ∷ p) known past a b = learn_closed d p known past a b

module _ (j : Knowledge) (n : ℕ) (paired : Paired j n) (p : Name) where
  this_closed : KnowsCompletedOffers j.completed (λ i. n == i)
  this_closed i m e h = let l = paired.bound i m e in let k = eqb-true n m h in absurd (omega (arith, l, k))

  now_closed : KnowsCompletedOffers j.completed (known_with j p n)
  now_closed = union_closed j.completed (j.past p) (λ i. n == i) (paired.closed p) this_closed

  this_below : (i : ℕ) → n == i ≡ true → i < suc n
  this_below i h = let k = eqb-true n i h in omega (arith, k)

  past_below : (q : Name) (i : ℕ) → j.past q i ≡ true → i < suc n
  past_below q i h = let k = paired.below q i h in omega (arith, k)

  -- an entry that is no offer
  same_offers : (j' : Knowledge) → ((q : Name) → KnowsCompletedOffers j.completed (j'.past q))
      → ((q : Name) (i : ℕ) → j'.past q i ≡ true → i < suc n) → j'.completed ≡ j.completed → j'.pending ≡ j.pending
      → Paired j' (suc n)
  same_offers j' closed below c_is p_is = record {
    closed = λ q i m e. closed q i m (ap (λ f. f i) (sym c_is) ∙ e);
    below = below;
    bound = λ i m e. let k = paired.bound i m (ap (λ f. f i) (sym c_is) ∙ e) in omega (arith, k);
    itself = λ i m e. ap (λ f. f m) c_is ∙ paired.itself i m (ap (λ f. f i) (sym c_is) ∙ e);
    waits = λ c z k e. let h = paired.waits c z k (ap (λ f. f c) (sym p_is) ∙ e) in
        (omega (arith, h.0), ap (λ f. f k) c_is ∙ h.1);
    single = λ c d z y k e h. paired.single c d z y k (ap (λ f. f c) (sym p_is) ∙ e) (ap (λ f. f d) (sym p_is) ∙ h);
    later = λ i h. ap (λ f. f i) c_is ∙ paired.later i (omega (arith, h));
  }

  waits_paired : (c : Channel) → Paired (knowledge_after_offer j p n c None) (suc n)
  waits_paired c = record {
    closed = paired.closed;
    below = past_below;
    bound = λ i m e. let k = paired.bound i m e in omega (arith, k);
    itself = paired.itself;
    waits = λ d z k e. ⊎_elim
        (λ (same : c ≡ d). let h : n ≡ k = ap (λ (x : Name × ℕ). x.1) (same_Some _ _ (sym (here d same) ∙ e)) in
        (omega (arith, h), subst (λ x. j.completed x ≡ None) h (paired.later n (le_refl n))))
        (λ (other : c ≢ d). let h = paired.waits d z k
        (sym (at_other channel_test j.pending c d (Some (p, n)) other) ∙ e) in (omega (arith, h.0), h.1))
        (same_or_not channel_test c d);
    single = λ d f z y k e h. ⊎_elim
        (λ (a : c ≡ d). ⊎_elim
        (λ (b : c ≡ f). sym a ∙ b)
        (λ (b : c ≢ f).
        let x : n ≡ k = ap (λ (x : Name × ℕ). x.1) (same_Some _ _ (sym (here d a) ∙ e)) in
        let l = (paired.waits f y k (sym (at_other channel_test j.pending c f (Some (p, n)) b) ∙ h)).0 in
        absurd (omega (arith, x, l)))
        (same_or_not channel_test c f))
        (λ (a : c ≢ d). ⊎_elim
        (λ (b : c ≡ f).
        let x : n ≡ k = ap (λ (x : Name × ℕ). x.1) (same_Some _ _ (sym (here f b) ∙ h)) in
        let l = (paired.waits d z k (sym (at_other channel_test j.pending c d (Some (p, n)) a) ∙ e)).0 in
        absurd (omega (arith, x, l)))
        (λ (b : c ≢ f). paired.single d f z y k (sym (at_other channel_test j.pending c d (Some (p, n)) a) ∙ e)
        (sym (at_other channel_test j.pending c f (Some (p, n)) b) ∙ h))
        (same_or_not channel_test c f))
        (same_or_not channel_test c d);
    later = λ i h. paired.later i (omega (arith, h));
  }
    where
      here : (d : Channel) → c ≡ d → at_key same_channel c (Some (p, n)) j.pending d ≡ Some (p, n)
      here d e = rw ((channel_test c d).1 e) refl

  meets_paired : (c : Channel) (z : Name) (k : ℕ) → j.pending c ≡ Some (z, k)
      → Paired (knowledge_after_offer j p n c (Some (z, k))) (suc n)
  meets_paired c z k pe =
      let w = paired.waits c z k pe in
      let known : ℕ → Bool = λ i. known_with j p n i || known_with j z k i in
      let at_k : KnowsCompletedOffers j.completed (λ i. k == i) =
      λ i m e h. absurd (none-some _ (sym w.1 ∙ ap j.completed (eqb-true k m h) ∙ paired.itself i m e)) in
      let known_closed : KnowsCompletedOffers j.completed known =
      union_closed j.completed (known_with j p n) (known_with j z k) now_closed
      (union_closed j.completed (j.past z) (λ i. k == i) (paired.closed z) at_k) in
      let k_below : (i : ℕ) → k == i ≡ true → i < suc n = λ i h. (let e = eqb-true k i h in omega (arith, e, w.0)) in
      let known_below : (i : ℕ) → known i ≡ true
      → i < suc n = λ i h. ⊎_elim (λ (x : known_with j p n i ≡ true). now_below j p n (paired.below p) i x)
      (λ (x : known_with j z k i ≡ true). ⊎_elim (λ (y : j.past z i ≡ true). past_below z i y)
      (λ (y : k == i ≡ true). k_below i y) (or_cases (j.past z i) (k == i) x))
      (or_cases (known_with j p n i) (known_with j z k i) h) in
      let knows_k : known k ≡ true = or_right (known_with j p n k) (known_with j z k k)
      (or_right (j.past z k) (k == k) (eq-eqb k k refl)) in
      record {
        closed = λ q. extended (learn z known (learn p known j.past) q) k
            (learn_closed j.completed z known (learn p known j.past) known_closed
            (learn_closed j.completed p known j.past known_closed paired.closed) q)
            (λ h. gets (same_name z q) (same_name p q) (j.past q n) (j.past q k) (known n) (known k)
            (λ x. lt_irrefl n (paired.below q n x)) knows_k h);
        below = learn_below z known (suc n) known_below (learn p known j.past)
            (learn_below p known (suc n) known_below j.past past_below);
        bound = λ i m e. by_index i (λ o. o ≡ Some m → m < suc n) (λ x. let y = same_Some _ _ x in omega (arith, y))
            (λ x. let y = same_Some _ _ x in omega (arith, y)) (λ x. let y = paired.bound i m x in omega (arith, y)) e;
        itself = λ i m e. by_index i (λ o. o ≡ Some m
            → cond (n == m) (Some n) (cond (k == m) (Some n) (j.completed m)) ≡ Some m)
            (λ x. let y : n ≡ m = same_Some _ _ x in rw (eq-eqb n m y) (ap (λ u. Some u) y))
            (λ x. let y : n ≡ m = same_Some _ _ x in rw (eq-eqb n m y) (ap (λ u. Some u) y))
            (λ x. let y = paired.itself i m x in
            let l = paired.bound i m x in
            rw (ne_eqb n m (λ u. omega (arith, u, l)), ne_eqb k m (λ u. none-some _ (sym w.1 ∙ ap j.completed u ∙ y)))
            y) e;
        waits = λ d y x e. ⊎_elim
            (λ (same : c ≡ d). absurd (none-some _ (sym (gone_at d same) ∙ e)))
            (λ (other : c ≢ d).
            let before = sym (at_other channel_test j.pending c d None other) ∙ e in
            let h = paired.waits d y x before in (
              omega (arith, h.0),
              rw (
                ne_eqb n x (λ u. omega (arith, u, h.0)),
                ne_eqb k x (λ u. other (paired.single c d z y x (pe ∙ ap (λ v. Some (z, v)) u) before)),
              ) h.1,
            ))
            (same_or_not channel_test c d);
        single = λ d f y v x e h. ⊎_elim
            (λ (a : c ≡ d). absurd (none-some _ (sym (gone_at d a) ∙ e)))
            (λ (a : c ≢ d). ⊎_elim
            (λ (b : c ≡ f). absurd (none-some _ (sym (gone_at f b) ∙ h)))
            (λ (b : c ≢ f). paired.single d f y v x (sym (at_other channel_test j.pending c d None a) ∙ e)
            (sym (at_other channel_test j.pending c f None b) ∙ h))
            (same_or_not channel_test c f))
            (same_or_not channel_test c d);
        later = λ i h. rw (ne_eqb n i (λ u. omega (arith, u, h)), ne_eqb k i (λ u. omega (arith, u, h, w.0)))
            (paired.later i (omega (arith, h)));
      }
    where
      gone_at : (d : Channel) → c ≡ d → at_key same_channel c None j.pending d ≡ None
      gone_at d e = rw ((channel_test c d).1 e) refl

      by_index : (i : ℕ) (P : Option ℕ → Type 0) → P (Some n) → P (Some n) → P (j.completed i)
          → P (cond (n == i) (Some n) (cond (k == i) (Some n) (j.completed i)))
      by_index i P a b d = pick (n == i) (k == i)
        where
          pick : (x y : Bool) → P (cond x (Some n) (cond y (Some n) (j.completed i)))
          pick true y = a
          pick false true = b
          pick false false = d

      extended : (s : ℕ → Bool) (k : ℕ) → KnowsCompletedOffers j.completed s → (s n ≡ true → s k ≡ true)
          → KnowsCompletedOffers (λ i. cond (n == i) (Some n) (cond (k == i) (Some n) (j.completed i))) s
      extended s k a b i m e h = ⊎_elim
          (λ (x : n ≡ i). let y : n ≡ m = same_Some _ _ (sym (first i x) ∙ e) in subst (λ u. s u ≡ true) (sym y ∙ x) h)
          (λ (x : n ≢ i). ⊎_elim
          (λ (y : k ≡ i). let v : n ≡ m = same_Some _ _ (sym (second i x y) ∙ e) in
          subst (λ u. s u ≡ true) y (b (subst (λ u. s u ≡ true) (sym v) h)))
          (λ (y : k ≢ i). a i m (sym (third i x y) ∙ e) h)
          (cases_eq k i))
          (cases_eq n i)
        where
          first : (i : ℕ) → n ≡ i → cond (n == i) (Some n) (cond (k == i) (Some n) (j.completed i)) ≡ Some n
          first i x = rw (eq-eqb n i x) refl

          second : (i : ℕ) → n ≢ i → k ≡ i → cond (n == i) (Some n) (cond (k == i) (Some n) (j.completed i)) ≡ Some n
          second i x y = rw (ne_eqb n i x, eq-eqb k i y) refl

          third : (i : ℕ) → n ≢ i → k ≢ i → cond (n == i) (Some n) (cond (k == i) (Some n) (j.completed i))
              ≡ j.completed i
          third i x y = rw (ne_eqb n i x, ne_eqb k i y) refl

      gets : (zq pq qn qk kn kk : Bool) → (qn ≡ true → ⊥) → kk ≡ true
          → cond zq (cond pq (qn || kn) qn || kn) (cond pq (qn || kn) qn) ≡ true
          → cond zq (cond pq (qk || kk) qk || kk) (cond pq (qk || kk) qk) ≡ true
      gets zq pq true qk kn kk a b h = absurd (a refl)
      gets true pq false qk kn kk a b h = or_right (cond pq (qk || kk) qk) kk b
      gets false true false qk kn kk a b h = or_right qk kk b
      gets false false false qk kn kk a b h = absurd (cc h)

  -- an entry that adds nothing
  stays_paired : Paired j (suc n)
  stays_paired = same_offers j paired.closed past_below refl refl

  pub judged_paired : (h : Happening) → Paired (knowledge_after j n p h) (suc n)
  judged_paired Opened = same_offers (knowledge_after j n p Opened)
      (learn_closed j.completed p (λ i. n == i) j.past this_closed paired.closed)
      (learn_below p (λ i. n == i) (suc n) this_below j.past past_below) refl refl
  judged_paired (Forked k) = same_offers (knowledge_after j n p (Forked k))
      (teach_closed j.completed p (j.forks p) (known_with j p n) now_closed 0 k (learn p (λ i. n == i) j.past)
      (learn_closed j.completed p (λ i. n == i) j.past this_closed paired.closed))
      (teach_below p (j.forks p) (known_with j p n) (suc n) (now_below j p n (paired.below p)) 0 k
      (learn p (λ i. n == i) j.past)
      (learn_below p (λ i. n == i) (suc n) this_below j.past past_below)) refl refl
  judged_paired (Offered w c) =
      elim (j.pending c) as (λ m. j.pending c ≡ m → Paired (knowledge_after_offer j p n c m) (suc n))
      [ None ↦ λ e. waits_paired c | Some o ↦ λ e. meets_paired c o.0 o.1 e ] refl
  judged_paired (Faulted f) = stays_paired
  judged_paired Laid = stays_paired
  judged_paired Paused = stays_paired
  judged_paired Ended = same_offers (knowledge_after j n p Ended)
      (report_closed j.completed p (known_with j p n) (learn p (λ i. n == i) j.past) now_closed
      (learn_closed j.completed p (λ i. n == i) j.past this_closed paired.closed))
      (report_below p (known_with j p n) (suc n) (now_below j p n (paired.below p)) (learn p (λ i. n == i) j.past)
      (learn_below p (λ i. n == i) (suc n) this_below j.past past_below)) refl refl

  known_by : (done : List Occurrence) (h : Happening) → KnowsCompletions j done p h → KnowsOffers j done p h
  known_by done (Offered w c) k = λ i z e. let x = k i z e in paired.closed p i x.0 x.1 x.2
  known_by _ _ _ = tt

pub nothing_paired : Paired no_knowledge 0
nothing_paired = record {
  closed = λ q i m e h. absurd (none-some _ e);
  below = λ q i h. absurd (false≢true h);
  bound = λ i m e. absurd (none-some _ e);
  itself = λ i m e. absurd (none-some _ e);
  waits = λ c z k e. absurd (none-some _ e);
  single = λ c d z y k e h. absurd (none-some _ e);
  later = λ i h. refl;
}

-- What a process knows of an offer, it knows of its completion

abbrev pub IsComplete : List Occurrence → (ℕ → Option ℕ) → (ℕ → Bool) → Type 0
IsComplete es d known = (i : ℕ) (z : Name) (w : Way) (c : Channel)
    → slice_get es i ≡ Some (record { who = z; what = Offered w c }) → known i ≡ true → (m : ℕ) × (d i ≡ Some m)
    × (known m ≡ true)

pub record Rounded (j : Knowledge) (done : List Occurrence) (n : ℕ) : Type 0 where
  pub size : length done ≡ n
  pub complete : (q : Name) → IsComplete done j.completed (j.past q)
  pub entries : (c : Channel) (z : Name) (k : ℕ) → j.pending c ≡ Some (z, k) → (w : Way)
      × (slice_get done k ≡ Some (record { who = z; what = Offered w c }))

union_complete : (es : List Occurrence) (d : ℕ → Option ℕ) (f g : ℕ → Bool) → IsComplete es d f → IsComplete es d g
    → IsComplete es d (λ i. f i || g i)
union_complete es d f g a b i z w c e h = ⊎_elim
    (λ (k : f i ≡ true). let x = a i z w c e k in (x.0, x.1, or_left (f x.0) (g x.0) x.2))
    (λ (k : g i ≡ true). let x = b i z w c e k in (x.0, x.1, or_right (f x.0) (g x.0) x.2))
    (or_cases (f i) (g i) h)

learn_complete : (es : List Occurrence) (d : ℕ → Option ℕ) (p : Name) (known : ℕ → Bool) (past : Name → ℕ → Bool)
    → IsComplete es d known → ((q : Name) → IsComplete es d (past q)) → (q : Name)
    → IsComplete es d (learn p known past q)
learn_complete es d p known past a b q i z w c e h = by (same_name p q) h
  where
    by : (x : Bool) → cond x (past q i || known i) (past q i) ≡ true → (m : ℕ) × (d i ≡ Some m)
        × (cond x (past q m || known m) (past q m) ≡ true)
    by true k = union_complete es d (past q) known (b q) a i z w c e k
    by false k = b q i z w c e k

teach_complete : (es : List Occurrence) (d : ℕ → Option ℕ) (p : Name) (f : ℕ) (known : ℕ → Bool) → IsComplete es d known
    → (x k : ℕ) (past : Name → ℕ → Bool) → ((q : Name) → IsComplete es d (past q)) → (q : Name)
    → IsComplete es d (teach p f known x k past q)
teach_complete es d p f known a x zero past b = b
teach_complete es d p f known a x (suc k) past b =
    teach_complete es d p f known a (suc x) k (learn ((f, x) ∷ p) known past)
    (learn_complete es d ((f, x) ∷ p) known past a b)

report_complete : (es : List Occurrence) (d : ℕ → Option ℕ) (p : Name) (known : ℕ → Bool) (past : Name → ℕ → Bool)
    → IsComplete es d known → ((q : Name) → IsComplete es d (past q)) → (q : Name)
    → IsComplete es d (report p known past q)
report_complete es d [] known past a b = b
report_complete es d (x ∷ p) known past a b = learn_complete es d p known past a b

-- an entry of the longer list is one of the shorter, or the new one
grown_entry : (done : List Occurrence) (e x : Occurrence) (i n : ℕ) → length done ≡ n
    → slice_get (done ++ e ∷ []) i ≡ Some x → ((i < n) × (slice_get done i ≡ Some x)) ⊎ ((n ≡ i) × (e ≡ x))
grown_entry [] e x zero n size h = inr (sym size, same_Some _ _ h)
grown_entry [] e x (suc i) n size h = absurd (none-some _ h)
grown_entry (d ∷ done) e x zero n size h = inl (omega (arith, size), h)
grown_entry (d ∷ done) e x (suc i) n size h = ⊎_elim
    (λ (a : (i < length done) × (slice_get done i ≡ Some x)). let l = a.0 in inl (omega (arith, l, size), a.1))
    (λ (a : (length done ≡ i) × (e ≡ x)). let l = a.0 in inr (omega (arith, l, size), a.1))
    (grown_entry done e x i (length done) refl h)

abbrev IsNoOffer : Happening → Type 0
IsNoOffer (Offered w c) = ⊥
IsNoOffer _ = Unit {0}

module _ (j : Knowledge) (done : List Occurrence) (n : ℕ) (paired : Paired j n) (r : Rounded j done n) (p : Name) where
  abbrev longer : Happening → List Occurrence
  longer h = done ++ record { who = p; what = h } ∷ []

  old_complete : (h : Happening) (q : Name) → IsComplete (longer h) j.completed (j.past q)
  old_complete h q i z w c e k = ⊎_elim
      (λ (a : (i < n) × (slice_get done i ≡ Some (record { who = z; what = Offered w c }))). r.complete q i z w c a.1 k)
      (λ (a : (n ≡ i) × (◌≡◌ {A = Occurrence} (record { who = p; what = h }) (record { who = z; what = Offered w c }))).
      let l = paired.below q i k in let x = a.0 in absurd (omega (arith, l, x)))
      (grown_entry done (record { who = p; what = h }) (record { who = z; what = Offered w c }) i n r.size e)

  this_complete : (h : Happening) → IsNoOffer h → IsComplete (longer h) j.completed (λ i. n == i)
  this_complete h plain i z w c e k = ⊎_elim
      (λ (a : (i < n) × (slice_get done i ≡ Some (record { who = z; what = Offered w c }))). let l = a.0 in
      let x = eqb-true n i k in absurd (omega (arith, l, x)))
      (λ (a : (n ≡ i) × (◌≡◌ {A = Occurrence} (record { who = p; what = h }) (record { who = z; what = Offered w c }))).
      absurd (subst IsNoOffer (ap (λ (x : Occurrence). x.what) a.1) plain))
      (grown_entry done (record { who = p; what = h }) (record { who = z; what = Offered w c }) i n r.size e)

  now_complete : (h : Happening) → IsNoOffer h → IsComplete (longer h) j.completed (known_with j p n)
  now_complete h plain = union_complete (longer h) j.completed (j.past p) (λ i. n == i) (old_complete h p)
      (this_complete h plain)

  old_entries : (h : Happening) (c : Channel) (z : Name) (k : ℕ) → j.pending c ≡ Some (z, k) → (w : Way)
      × (slice_get (longer h) k ≡ Some (record { who = z; what = Offered w c }))
  old_entries h c z k e = let x = r.entries c z k e in (x.0, kept_entry done (record { who = p; what = h }) _ k x.1)

  size_of : (h : Happening) → length (longer h) ≡ suc n
  size_of h = grown_size done n (record { who = p; what = h }) r.size

  waits_rounded : (w : Way) (c : Channel) → Rounded (knowledge_after_offer j p n c None) (longer (Offered w c)) (suc n)
  waits_rounded w c = record {
    size = size_of (Offered w c);
    complete = old_complete (Offered w c);
    entries = λ d z k e. ⊎_elim
        (λ (same : c ≡ d).
        let x : ◌≡◌ {A = Name × ℕ} (p, n) (z, k) = same_Some _ _ (sym (here d same) ∙ e) in (
          w,
          subst (λ u. slice_get (longer (Offered w c)) u ≡ Some (record { who = z; what = Offered w d }))
              (ap (λ (y : Name × ℕ). y.1) x)
              (last_entry done n (record { who = p; what = Offered w c }) r.size
              ∙ (λ i. Some (record { who = (ap (λ (y : Name × ℕ). y.0) x) i; what = Offered w (same i) }))),
        ))
        (λ (other : c ≢ d). old_entries (Offered w c) d z k
        (sym (at_other channel_test j.pending c d (Some (p, n)) other) ∙ e))
        (same_or_not channel_test c d);
  }
    where
      here : (d : Channel) → c ≡ d → at_key same_channel c (Some (p, n)) j.pending d ≡ Some (p, n)
      here d e = rw ((channel_test c d).1 e) refl

  -- the index at which the offer of an index was completed, once the offer of index n has met that of index k
  abbrev met_at : ℕ → ℕ → Option ℕ
  met_at k i = cond (n == i) (Some n) (cond (k == i) (Some n) (j.completed i))

  met_n : (k i : ℕ) → n ≡ i → met_at k i ≡ Some n
  met_n k i a = rw (eq-eqb n i a) refl

  met_k : (k i : ℕ) → n ≢ i → k ≡ i → met_at k i ≡ Some n
  met_k k i a b = rw (ne_eqb n i a, eq-eqb k i b) refl

  met_other : (k i : ℕ) → n ≢ i → k ≢ i → met_at k i ≡ j.completed i
  met_other k i a b = rw (ne_eqb n i a, ne_eqb k i b) refl

  meets_rounded : (w : Way) (c : Channel) (z : Name) (k : ℕ) → j.pending c ≡ Some (z, k)
      → Rounded (knowledge_after_offer j p n c (Some (z, k))) (longer (Offered w c)) (suc n)
  meets_rounded w c z k pe =
      let x = paired.waits c z k pe in
      let ke = r.entries c z k pe in
      let known : ℕ → Bool = λ i. known_with j p n i || known_with j z k i in
      let known_n : known n ≡ true = or_left (known_with j p n n) (known_with j z k n)
      (or_right (j.past p n) (n == n) (eq-eqb n n refl)) in
      let not_k : (q : Name) → j.past q k ≡ true
      → ⊥ = λ q h. (let y = r.complete q k z ke.0 c ke.1 h in none-some _ (sym x.1 ∙ y.1)) in
      let not_n : (q : Name) → j.past q n ≡ true → ⊥ = λ q h. lt_irrefl n (paired.below q n h) in
      let past_complete : (q : Name) → IsComplete (longer (Offered w c)) (met_at k) (j.past q) = λ q i y v d e h.
      let old = old_complete (Offered w c) q i y v d e h in (
        old.0,
        met_other k i (λ a. not_n q (subst (λ u. j.past q u ≡ true) (sym a) h))
            (λ a. not_k q (subst (λ u. j.past q u ≡ true) (sym a) h)) ∙ old.1,
        old.2,
      ) in
      let known_complete : IsComplete (longer (Offered w c)) (met_at k) known = λ i y v d e h. ⊎_elim
      (λ (a : n ≡ i). (n, met_n k i a, known_n))
      (λ (a : n ≢ i). ⊎_elim
      (λ (b : k ≡ i). (n, met_k k i a b, known_n))
      (λ (b : k ≢ i). ⊎_elim
      (λ (f : known_with j p n i ≡ true). ⊎_elim
      (λ (g : j.past p i ≡ true). let o = past_complete p i y v d e g in
      (o.0, o.1, or_left (known_with j p n o.0) (known_with j z k o.0) (or_left (j.past p o.0) (n == o.0) o.2)))
      (λ (g : n == i ≡ true). absurd (a (eqb-true n i g)))
      (or_cases (j.past p i) (n == i) f))
      (λ (f : known_with j z k i ≡ true). ⊎_elim
      (λ (g : j.past z i ≡ true). let o = past_complete z i y v d e g in
      (o.0, o.1, or_right (known_with j p n o.0) (known_with j z k o.0) (or_left (j.past z o.0) (k == o.0) o.2)))
      (λ (g : k == i ≡ true). absurd (b (eqb-true k i g)))
      (or_cases (j.past z i) (k == i) f))
      (or_cases (known_with j p n i) (known_with j z k i) h))
      (cases_eq k i))
      (cases_eq n i) in
      record {
        size = size_of (Offered w c);
        complete = learn_complete (longer (Offered w c)) (met_at k) z known (learn p known j.past) known_complete
            (learn_complete (longer (Offered w c)) (met_at k) p known j.past known_complete past_complete);
        entries = λ d y u e. ⊎_elim
            (λ (same : c ≡ d). absurd (none-some _ (sym (gone d same) ∙ e)))
            (λ (other : c ≢ d). old_entries (Offered w c) d y u
            (sym (at_other channel_test j.pending c d None other) ∙ e))
            (same_or_not channel_test c d);
      }
    where
      gone : (d : Channel) → c ≡ d → at_key same_channel c None j.pending d ≡ None
      gone d e = rw ((channel_test c d).1 e) refl

  same_rounded : (h : Happening) (j' : Knowledge) → ((q : Name) → IsComplete (longer h) j.completed (j'.past q))
      → j'.completed ≡ j.completed → j'.pending ≡ j.pending → Rounded j' (longer h) (suc n)
  same_rounded h j' complete c_is p_is = record {
    size = size_of h;
    complete = λ q i z w c e k. let x = complete q i z w c e k in (x.0, ap (λ f. f i) c_is ∙ x.1, x.2);
    entries = λ c z k e. old_entries h c z k (ap (λ f. f c) (sym p_is) ∙ e);
  }

  pub judged_rounded : (h : Happening) → Rounded (knowledge_after j n p h) (longer h) (suc n)
  judged_rounded Opened = same_rounded Opened (knowledge_after j n p Opened)
      (learn_complete (longer Opened) j.completed p (λ i. n == i) j.past (this_complete Opened tt)
      (old_complete Opened)) refl refl
  judged_rounded (Forked k) = same_rounded (Forked k) (knowledge_after j n p (Forked k))
      (teach_complete (longer (Forked k)) j.completed p (j.forks p) (known_with j p n) (now_complete (Forked k) tt) 0 k
      (learn p (λ i. n == i) j.past) (learn_complete (longer (Forked k)) j.completed p (λ i. n == i) j.past
      (this_complete (Forked k) tt) (old_complete (Forked k)))) refl refl
  judged_rounded (Offered w c) = elim (j.pending c) as
      (λ m. j.pending c ≡ m → Rounded (knowledge_after_offer j p n c m) (longer (Offered w c)) (suc n))
      [ None ↦ λ e. waits_rounded w c | Some o ↦ λ e. meets_rounded w c o.0 o.1 e ] refl
  judged_rounded Ended = same_rounded Ended (knowledge_after j n p Ended)
      (report_complete (longer Ended) j.completed p (known_with j p n) (learn p (λ i. n == i) j.past)
      (now_complete Ended tt)
      (learn_complete (longer Ended) j.completed p (λ i. n == i) j.past (this_complete Ended tt)
      (old_complete Ended))) refl refl
  judged_rounded (Faulted f) = same_rounded (Faulted f) j (old_complete (Faulted f)) refl refl
  judged_rounded Laid = same_rounded Laid j (old_complete Laid) refl refl
  judged_rounded Paused = same_rounded Paused j (old_complete Paused) refl refl

  completed_by : (h : Happening) → KnowsOffers j done p h → KnowsCompletions j done p h
  completed_by (Offered w c) k = λ i z e. r.complete p i z w c e (k i z e)
  completed_by _ _ = tt

pub nothing_rounded : Rounded no_knowledge [] 0
nothing_rounded = record {
  size = refl;
  complete = λ q i z w c e h. absurd (none-some _ e);
  entries = λ c z k e. absurd (none-some _ e);
}

known_by_completions : (es done : List Occurrence) (j : Knowledge) → Paired j (length done) → CompletedFrom j done es
    → KnownFrom j done es
known_by_completions [] done j paired h = tt
known_by_completions (e ∷ es) done j paired h =
    let size : suc (length done) ≡ length (done ++ e ∷ []) = sym (grown_size done (length done) e refl) in (
      known_by j (length done) paired e.who done e.what h.0,
      known_by_completions es (done ++ e ∷ []) (knowledge_after j (length done) e.who e.what)
          (subst (Paired (knowledge_after j (length done) e.who e.what)) size
          (judged_paired j (length done) paired e.who e.what)) h.1,
    )

completions_by_known : (es done : List Occurrence) (j : Knowledge) → Paired j (length done)
    → Rounded j done (length done)
    → KnownFrom j done es → CompletedFrom j done es
completions_by_known [] done j paired r h = tt
completions_by_known (e ∷ es) done j paired r h =
    let size : suc (length done) ≡ length (done ++ e ∷ []) = sym (grown_size done (length done) e refl) in
    let j' = knowledge_after j (length done) e.who e.what in (
      completed_by j done (length done) paired r e.who e.what h.0,
      completions_by_known es (done ++ e ∷ []) j'
          (subst (Paired j') size (judged_paired j (length done) paired e.who e.what))
          (subst (Rounded j' (done ++ e ∷ [])) size (judged_rounded j done (length done) paired r e.who e.what)) h.1,
    )

-- the two order conditions are the same
pub ordered_known : (es : List Occurrence) → AreOrdered es → AreKnown es
ordered_known es h = known_by_completions es [] no_knowledge nothing_paired h

pub known_ordered : (es : List Occurrence) → AreKnown es → AreOrdered es
known_ordered es h = completions_by_known es [] no_knowledge nothing_paired nothing_rounded h
