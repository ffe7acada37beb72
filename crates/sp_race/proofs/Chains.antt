-- While the order condition holds, who knows an offer knows each earlier one of its way on its channel.
use Rattle.std.proofs.Common.{◌≡◌, ⊎_elim, ℕ, ◌<◌, ◌≤◌, Bool, true, false, cond, ◌||◌, ◌==◌, List, [], ◌∷◌, ◌++◌}
use Rattle.std.proofs.Common.{length, Option, Some, None, slice_get, refl, sym, ap, ◌∙◌, subst, arith, eqb-true, eq-eqb}
use Rattle.std.proofs.lemmas.Bool.{or_cases, or_left, or_right}
use Rattle.std.proofs.lemmas.Option.{none-some, same_Some, slice_get_within}
use Rattle.sp_base.proofs.Facts.{below_or_at}
use Rattle.sp_journal.specs.declared.entry.Way.{Way}
use Rattle.sp_journal.specs.Names.{Name, Channel, same_name, Happening, Opened, Forked, Offered, Ended, Faulted, Laid}
use Rattle.sp_journal.specs.Names.{Paused, Occurrence}
use Rattle.sp_journal.specs.Past.{Knowledge, learn, known_with, knowledge_after_offer, knowledge_after, no_knowledge}
use Rattle.sp_journal.proofs.NameLaws.{name_is}
use Rattle.sp_race.proofs.PrefixLaws.{get_low, get_last, learn_all, teach_all, report_all, learn_more, teach_more}
use Rattle.sp_race.proofs.PrefixLaws.{report_more, at_channel}
use Rattle.sp_race.specs.OfferOrder.{KnowsOffers}
use Rattle.sp_race.proofs.Completion.{Paired}

abbrev pub OfferAt : List Occurrence → ℕ → Name → Way → Channel → Type 0
OfferAt es i z w c = slice_get es i ≡ Some (record { who = z; what = Offered w c })

abbrev pub Chained : List Occurrence → (ℕ → Bool) → Type 0
Chained es f = (i k : ℕ) (w : Way) (c : Channel) (z y : Name) → OfferAt es i z w c → OfferAt es k y w c → k ≤ i
    → f i ≡ true → f k ≡ true

pub record Chains (j : Knowledge) (es : List Occurrence) : Type 0 where
  pub past : (q : Name) → Chained es (j.past q)
  pub waits : (c : Channel) (z : Name) (x : ℕ) → j.pending c ≡ Some (z, x) → (w : Way) × OfferAt es x z w c
      × ((k : ℕ) (y : Name) → OfferAt es k y w c → k < x → j.past z k ≡ true)

union_chained : (es : List Occurrence) (f g : ℕ → Bool) → Chained es f → Chained es g → Chained es (λ i. f i || g i)
union_chained es f g a b i k w c z y o p l h = ⊎_elim
    (λ (x : f i ≡ true). or_left (f k) (g k) (a i k w c z y o p l x))
    (λ (x : g i ≡ true). or_right (f k) (g k) (b i k w c z y o p l x))
    (or_cases (f i) (g i) h)

what_is : (a b : Occurrence) → ◌≡◌ {A = Option Occurrence} (Some a) (Some b) → a.what ≡ b.what
what_is a b h = ap (λ (x : Occurrence). x.what) (same_Some a b h)

abbrev pub way_of : Way → Happening → Way
way_of d (Offered w c) = w
way_of d _ = d

abbrev pub channel_of : Channel → Happening → Channel
channel_of d (Offered w c) = c
channel_of d _ = d

module _ (j : Knowledge) (es : List Occurrence) (chains : Chains j es) (paired : Paired j (length es)) (p : Name)
    (h : Happening) (knows : KnowsOffers j es p h) where
  abbrev n : ℕ
  n = length es

  abbrev entry : Occurrence
  entry = record { who = p; what = h }

  abbrev longer : List Occurrence
  longer = es ++ entry ∷ []

  low : (i : ℕ) (x : Occurrence) → i < n → slice_get longer i ≡ Some x → slice_get es i ≡ Some x
  low i x l o = sym (get_low es entry i l) ∙ o

  up : (i : ℕ) (x : Occurrence) → slice_get es i ≡ Some x → slice_get longer i ≡ Some x
  up i x o = get_low es entry i (slice_get_within es i x o) ∙ o

  -- a set of earlier indices
  still : (f : ℕ → Bool) → ((i : ℕ) → f i ≡ true → i < n) → Chained es f → Chained longer f
  still f below a i k w c z y o q l t = let b = below i t in a i k w c z y (low i _ b o) (low k _ (omega arith) q) l t

  past_still : (q : Name) → Chained longer (j.past q)
  past_still q = still (j.past q) (paired.below q) (chains.past q)

  mine_chained : Chained longer (known_with j p n)
  mine_chained i k w c z y o q l t = ⊎_elim
      (λ (x : j.past p i ≡ true). or_left (j.past p k) (n == k) (past_still p i k w c z y o q l x))
      (λ (x : n == i ≡ true).
      let e : n ≡ i = eqb-true n i x in
      let is : h ≡ Offered w c = what_is entry _
      (sym (get_last es entry) ∙ subst (λ u. slice_get longer u ≡ Some (record { who = z; what = Offered w c }))
      (sym e) o) in
      let all : KnowsOffers j es p (Offered w c) = subst (KnowsOffers j es p) is knows in
      ⊎_elim
      (λ (a : k < n). or_left (j.past p k) (n == k) (all k y (low k _ a q)))
      (λ (a : k ≡ n). or_right (j.past p k) (n == k) (eq-eqb n k (sym a)))
      (below_or_at k n (omega arith)))
      (or_cases (j.past p i) (n == i) t)

  own_chained : (q : Name) → Chained longer (learn p (λ i. n == i) j.past q)
  own_chained q = by (same_name p q) (name_is p q)
    where
      by : (t : Bool) → (t ≡ true → p ≡ q) → Chained longer (λ i. cond t (j.past q i || (n == i)) (j.past q i))
      by true f = subst (λ (x : Name). Chained longer (λ i. j.past x i || (n == i))) (f refl) mine_chained
      by false f = past_still q

  theirs_chained : (c : Channel) (z : Name) (x : ℕ) → j.pending c ≡ Some (z, x) → Chained longer (known_with j z x)
  theirs_chained c z x met i k w d y u o q l t =
      let a = chains.waits c z x met in
      let inside = slice_get_within es x _ a.1 in
      ⊎_elim
      (λ (b : j.past z i ≡ true). or_left (j.past z k) (x == k) (past_still z i k w d y u o q l b))
      (λ (b : x == i ≡ true).
      let e : x ≡ i = eqb-true x i b in
      let is : Offered a.0 c ≡ Offered w d =
      what_is _ _ (sym (up x _ a.1) ∙ subst
      (λ v. slice_get longer v ≡ Some (record { who = y; what = Offered w d })) (sym e) o) in
      let same_way : w ≡ a.0 = sym (ap (way_of w) is) in
      let same_chan : d ≡ c = sym (ap (channel_of d) is) in
      ⊎_elim
      (λ (f : k < x). or_left (j.past z k) (x == k)
      (a.2 k u (low k _ (omega arith) (subst (λ v. OfferAt longer k u v c) same_way
      (subst (OfferAt longer k u w) same_chan q))) f))
      (λ (f : k ≡ x). or_right (j.past z k) (x == k) (eq-eqb x k (sym f)))
      (below_or_at k x (omega arith)))
      (or_cases (j.past z i) (x == i) t)

  -- the offers that waited before wait on
  old_waits : (past : Name → ℕ → Bool) → ((q : Name) (i : ℕ) → j.past q i ≡ true → past q i ≡ true)
      → (c : Channel) (z : Name) (x : ℕ) → j.pending c ≡ Some (z, x) → (w : Way) × OfferAt longer x z w c
      × ((k : ℕ) (y : Name) → OfferAt longer k y w c → k < x → past z k ≡ true)
  old_waits past more c z x e =
      let a = chains.waits c z x e in
      let inside = slice_get_within es x _ a.1 in
      (a.0, up x _ a.1, λ k y o l. more z k (a.2 k y (low k _ (omega arith) o) l))

  no_offer : (j' : Knowledge) → ((q : Name) → Chained longer (j'.past q))
      → ((q : Name) (i : ℕ) → j.past q i ≡ true → j'.past q i ≡ true) → j'.pending ≡ j.pending → Chains j' longer
  no_offer j' past more same = record {
    past = past;
    waits = λ c z x e. old_waits j'.past more c z x (sym (ap (λ f. f c) same) ∙ e);
  }

  offer_waits : (w : Way) (c : Channel) → h ≡ Offered w c → Chains (knowledge_after_offer j p n c None) longer
  offer_waits w c is = record {
    past = past_still;
    waits = λ d z x e. ⊎_elim
        (λ (a : (c ≡ d) × (◌≡◌ {A = Option (Name × ℕ)} (Some (p, n)) (Some (z, x)))). new d z x a.0 (same_Some _ _ a.1))
        (λ (a : j.pending d ≡ Some (z, x)). old_waits j.past (λ q i t. t) d z x a)
        (at_channel c d (Some (p, n)) j.pending (z, x) e);
  }
    where
      new : (d : Channel) (z : Name) (x : ℕ) → c ≡ d → ◌≡◌ {A = Name × ℕ} (p, n) (z, x) → (v : Way)
          × OfferAt longer x z v d × ((k : ℕ) (y : Name) → OfferAt longer k y v d → k < x → j.past z k ≡ true)
      new d z x same e =
          let who : p ≡ z = ap (λ (a : Name × ℕ). a.0) e in
          let at : n ≡ x = ap (λ (a : Name × ℕ). a.1) e in
          let all : KnowsOffers j es p (Offered w c) = subst (KnowsOffers j es p) is knows in (
            w,
            subst (λ u. slice_get longer u ≡ Some (record { who = z; what = Offered w d })) at
                (get_last es entry ∙ (λ i. Some (record { who = who i; what = (is ∙ ap (Offered w) same) i }))),
            λ k y o l. subst (λ (r : Name). j.past r k ≡ true) who
                (all k y (low k _ (omega arith) (subst (OfferAt longer k y w) (sym same) o))),
          )

  offer_meets : (c : Channel) (o : Name × ℕ) → j.pending c ≡ Some o
      → Chains (knowledge_after_offer j p n c (Some o)) longer
  offer_meets c o met = record {
    past = learn_all (Chained longer) (union_chained longer) known known_chained o.0 (learn p known j.past)
        (learn_all (Chained longer) (union_chained longer) known known_chained p j.past past_still);
    waits = λ d z x e. ⊎_elim
        (λ (a : (c ≡ d) × (◌≡◌ {A = Option (Name × ℕ)} None (Some (z, x)))). absurd (none-some (z, x) a.1))
        (λ (a : j.pending d ≡ Some (z, x)). old_waits (knowledge_after_offer j p n c (Some o)).past
        (λ q i t. learn_more o.0 known (learn p known j.past) q i (learn_more p known j.past q i t)) d z x a)
        (at_channel c d None j.pending (z, x) e);
  }
    where
      known : ℕ → Bool
      known i = known_with j p n i || known_with j o.0 o.1 i

      known_chained : Chained longer known
      known_chained = union_chained longer (known_with j p n) (known_with j o.0 o.1) mine_chained
          (theirs_chained c o.0 o.1 met)

pub chains_more : (j : Knowledge) (es : List Occurrence) → Chains j es → Paired j (length es)
    → (p : Name) (h : Happening)
    → KnowsOffers j es p h → Chains (knowledge_after j (length es) p h) (es ++ record { who = p; what = h } ∷ [])
chains_more j es c d p Opened k = no_offer j es c d p Opened k (knowledge_after j (length es) p Opened)
    (own_chained j es c d p Opened k) (λ q i t. learn_more p (λ i. length es == i) j.past q i t) refl
chains_more j es c d p (Forked m) k =
    let l : List Occurrence = es ++ record { who = p; what = Forked m } ∷ [] in
    let mid : Name → ℕ → Bool = learn p (λ i. length es == i) j.past in
    no_offer j es c d p (Forked m) k (knowledge_after j (length es) p (Forked m))
    (teach_all (Chained l) (union_chained l) (known_with j p (length es)) (mine_chained j es c d p (Forked m) k) p
    (j.forks p)
    0 m mid (own_chained j es c d p (Forked m) k))
    (λ q i t. teach_more p (j.forks p) (known_with j p (length es)) 0 m mid q i
    (learn_more p (λ i. length es == i) j.past q i t)) refl
chains_more j es c d p Ended k =
    let l : List Occurrence = es ++ record { who = p; what = Ended } ∷ [] in
    let mid : Name → ℕ → Bool = learn p (λ i. length es == i) j.past in
    no_offer j es c d p Ended k (knowledge_after j (length es) p Ended)
    (report_all (Chained l) (union_chained l) (known_with j p (length es)) (mine_chained j es c d p Ended k) p mid
    (own_chained j es c d p Ended k))
    (λ q i t. report_more p (known_with j p (length es)) mid q i (learn_more p (λ i. length es == i) j.past q i t)) refl
chains_more j es c d p (Offered w e) k = by (j.pending e) refl
  where
    by : (o : Option (Name × ℕ)) → j.pending e ≡ o
        → Chains (knowledge_after_offer j p (length es) e o) (es ++ record { who = p; what = Offered w e } ∷ [])
    by None f = offer_waits j es c d p (Offered w e) k w e refl
    by (Some o) f = offer_meets j es c d p (Offered w e) k e o f
chains_more j es c d p (Faulted f) k = no_offer j es c d p (Faulted f) k j (past_still j es c d p (Faulted f) k)
    (λ q i t. t) refl
chains_more j es c d p Laid k = no_offer j es c d p Laid k j (past_still j es c d p Laid k) (λ q i t. t) refl
chains_more j es c d p Paused k = no_offer j es c d p Paused k j (past_still j es c d p Paused k) (λ q i t. t) refl

pub nothing_chained : Chains no_knowledge []
nothing_chained = record {
  past = λ q i k w c z y o. absurd (let l = slice_get_within [] i _ o in omega arith);
  waits = λ c z x e. absurd (none-some (z, x) e);
}

-- who knows the last offer of a way on a channel knows all of them
pub knows_by_last : (j : Knowledge) (es : List Occurrence) → Chains j es
    → (p : Name) (w : Way) (c : Channel) (i : ℕ) (z : Name) → OfferAt es i z w c
    → ((k : ℕ) (y : Name) → OfferAt es k y w c → k ≤ i) → j.past p i ≡ true → KnowsOffers j es p (Offered w c)
knows_by_last j es chains p w c i z o last t k y q = chains.past p i k w c z y o q (last k y q) t
