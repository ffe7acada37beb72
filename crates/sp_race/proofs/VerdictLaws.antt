-- From the tables to the verdict.
use Rattle.std.proofs.Common.{◌≡◌, ◌⊎◌, inl, inr, ⊎_elim, ℕ, zero, suc, ◌<◌, ◌≤◌, ◌↔◌, Bool, true, false, nat_lt, List}
use Rattle.std.proofs.Common.{[], ◌∷◌, ◌++◌, take, length, append_assoc, append-nil, Some, None, slice_get, refl, sym}
use Rattle.std.proofs.Common.{ap, ◌∙◌, subst, arith}
use Rattle.std.proofs.lemmas.Bool.{cases_lt, false≢true, lt-ltb, ltb-true}
use Rattle.std.proofs.lemmas.Option.{same_Some, none-some}
use Rattle.sp_journal.specs.declared.entry.Entry.{Entry}
use Rattle.sp_journal.specs.declared.entry.Event.{Event}
use Rattle.sp_journal.specs.declared.entry.Event.TheVariants as event
use Rattle.sp_journal.specs.declared.entry.Way.{Way}
use Rattle.sp_journal.specs.declared.entry.Way.TheVariants as way
use Rattle.sp_journal.specs.Names.{Name, Channel, Happening, Offered}
use Rattle.sp_journal.specs.Names.{Occurrence}
use Rattle.sp_journal.specs.Births.{Births, first_births, births, channel, GivesNumbers, NameableFrom, happening}
use Rattle.sp_journal.specs.Births.{occurrence}
use Rattle.sp_journal.specs.Past.{Knowledge, knowledge_of, knowledge_after, knowledge_from, no_knowledge}
use Rattle.sp_journal.proofs.BirthLaws.{Lawful}
use Rattle.sp_race.specs.Prefixes.{WaitersAreSilent}
use Rattle.sp_race.specs.OfferOrder.{KnowsOffers, KnownFrom, AreKnown}
use Rattle.sp_race.proofs.Completion.{Paired, judged_paired, nothing_paired}
use Rattle.sp_race.specs.declared.judge_tables.Offer.{Offer}
use Rattle.sp_race.specs.declared.judge_tables.JudgeTables.{JudgeTables}
use Rattle.sp_race.specs.Clocks.{clock_at, IsAsked}
use Rattle.sp_race.specs.Counts.{count_of_entries, clocks_of}
use Rattle.sp_race.specs.JudgeTables.{entries_by_names, OfferIn, IsLast, TablesHold, offer_event, IsLastOffer}
use Rattle.sp_race.specs.JudgeTables.{IsUnknown, IsFirstUnknown}
use Rattle.sp_race.specs.Races.{KnowsCompletion, Race, IsLeastRace}
use Rattle.sp_race.proofs.EntryFacts.{EntryFacts, size_more}
use Rattle.sp_race.proofs.Chains.{Chains, chains_more, nothing_chained, knows_by_last, channel_of, way_of}
use Rattle.sp_race.proofs.Numbers.{one_channel}
use Rattle.sp_race.proofs.Fronts.{get_within, named_get}
use Rattle.sp_race.proofs.Fronts as front

chains_along : (j : Knowledge) (done es : List Occurrence) → Chains j done → Paired j (length done)
    → KnownFrom j done es
    → Chains (knowledge_from j (length done) es) (done ++ es)
chains_along j done [] c p k = subst (Chains j) (sym (append-nil done)) c
chains_along j done (e ∷ es) c p k =
    let j' : Knowledge = knowledge_after j (length done) e.who e.what in
    let l : suc (length done) ≡ length (done ++ e ∷ []) = size_more done e in
    let r : Chains (knowledge_from j' (length (done ++ e ∷ [])) es) ((done ++ e ∷ []) ++ es) =
    chains_along j' (done ++ e ∷ []) es (chains_more j done c p e.who e.what k.0)
    (subst (Paired j') l (judged_paired j (length done) p e.who e.what)) k.1 in
    subst (λ x. Chains (knowledge_from j' x es) (done ++ e ∷ es)) (sym l)
    (subst (Chains (knowledge_from j' (length (done ++ e ∷ [])) es)) (append_assoc done (e ∷ []) es) r)

chains_of : (es : List Occurrence) → AreKnown es → Chains (knowledge_of es) es
chains_of es k = chains_along no_knowledge [] es nothing_chained nothing_paired k

-- one more entry is in order
known_more_from : (j : Knowledge) (done es : List Occurrence) (e : Occurrence) → KnownFrom j done es
    → KnowsOffers (knowledge_from j (length done) es) (done ++ es) e.who e.what → KnownFrom j done (es ++ e ∷ [])
known_more_from j done [] e k h = (subst (λ xs. KnowsOffers j xs e.who e.what) (append-nil done) h, tt)
known_more_from j done (x ∷ es) e k h =
    let j' : Knowledge = knowledge_after j (length done) x.who x.what in
    let l : suc (length done) ≡ length (done ++ x ∷ []) = size_more done x in (
      k.0,
      known_more_from j' (done ++ x ∷ []) es e k.1
          (subst (λ y. KnowsOffers (knowledge_from j' y es) ((done ++ x ∷ []) ++ es) e.who e.what) l
          (subst (λ xs. KnowsOffers (knowledge_from j' (suc (length done)) es) xs e.who e.what)
          (sym (append_assoc done (x ∷ []) es)) h)),
    )

pub known_more : (es : List Occurrence) (e : Occurrence) → AreKnown es → KnowsOffers (knowledge_of es) es e.who e.what
    → AreKnown (es ++ e ∷ [])
known_more es e k h = known_more_from no_knowledge [] es e k h

-- where all are in order, so is this one
known_at_from : (j : Knowledge) (done es : List Occurrence) (e : Occurrence) (rest : List Occurrence)
    → KnownFrom j done (es ++ e ∷ rest) → KnowsOffers (knowledge_from j (length done) es) (done ++ es) e.who e.what
known_at_from j done [] e rest k = subst (λ xs. KnowsOffers j xs e.who e.what) (sym (append-nil done)) k.0
known_at_from j done (x ∷ es) e rest k =
    let j' : Knowledge = knowledge_after j (length done) x.who x.what in
    let l : suc (length done) ≡ length (done ++ x ∷ []) = size_more done x in
    let r = known_at_from j' (done ++ x ∷ []) es e rest k.1 in
    subst (λ y. KnowsOffers (knowledge_from j' y es) (done ++ x ∷ es) e.who e.what) (sym l)
    (subst (λ xs. KnowsOffers (knowledge_from j' (length (done ++ x ∷ [])) es) xs e.who e.what)
    (append_assoc done (x ∷ []) es) r)

parts_at : (es : List Occurrence) (i : ℕ) (e : Occurrence) → slice_get es i ≡ Some e → (rest : List Occurrence)
    × (es ≡ take i es ++ e ∷ rest)
parts_at [] i e h = absurd (none-some _ h)
parts_at (x ∷ xs) zero e h = (xs, ap (λ y. y ∷ xs) (same_Some x e h))
parts_at (x ∷ xs) (suc i) e h = let r = parts_at xs i e h in (r.0, ap (λ ys. x ∷ ys) r.1)

pub known_at : (es : List Occurrence) (i : ℕ) (e : Occurrence) → slice_get es i ≡ Some e → AreKnown es
    → KnowsOffers (knowledge_of (take i es)) (take i es) e.who e.what
known_at es i e h k = let r = parts_at es i e h in
    known_at_from no_knowledge [] (take i es) e r.0 (subst AreKnown r.1 k)

-- an offer among the names is one among the numbers
pub named_some : (s : Births) (es : List Entry) (i : ℕ) (o : Occurrence) → slice_get (entries_by_names s es) i ≡ Some o
    → (e : Entry) × (slice_get es i ≡ Some e) × (occurrence s e ≡ o)
named_some s [] i o h = absurd (none-some _ h)
named_some s (x ∷ es) zero o h = (x, refl, same_Some (occurrence s x) o h)
named_some s (x ∷ es) (suc i) o h = named_some s es i o h

pub named_take : (s : Births) (es : List Entry) (i : ℕ) → entries_by_names s (take i es)
    ≡ take i (entries_by_names s es)
named_take s [] zero = refl
named_take s [] (suc i) = refl
named_take s (x ∷ es) zero = refl
named_take s (x ∷ es) (suc i) = ap (λ ys. occurrence s x ∷ ys) (named_take s es i)

abbrev pub IsOffer : Happening → Type 0
IsOffer (Offered w c) = Unit {0}
IsOffer _ = ⊥

pub event_is : (s : Births) (v : Event) (w : Way) (d : Channel) → happening s v ≡ Offered w d → (c : ℕ)
    × (v ≡ offer_event w c) × (channel s c ≡ d)
event_is s (event.Send c) w d h = let a : way.Send ≡ w = ap (way_of w) h in
    (c, ap (λ x. offer_event x c) a, ap (channel_of d) h)
event_is s (event.Receive c) w d h = let a : way.Receive ≡ w = ap (way_of w) h in
    (c, ap (λ x. offer_event x c) a, ap (channel_of d) h)
event_is _ _ _ _ h = absurd (subst IsOffer (sym h) tt)

pub offer_happens : (s : Births) (w : Way) (c : ℕ) → happening s (offer_event w c) ≡ Offered w (channel s c)
offer_happens s way.Send c = refl
offer_happens s way.Receive c = refl

offer_given : (s : Births) (p : ℕ) (w : Way) (c : ℕ) → GivesNumbers s p (offer_event w c) → c < s.channels
offer_given s p way.Send c g = g
offer_given s p way.Receive c g = g

module _ (all : List Entry) (nameable : NameableFrom first_births all)
    (silent : WaitersAreSilent (entries_by_names (births all) all))
    (lawful : Lawful (births all)) where
  abbrev s : Births
  s = births all

  -- the channel of an offer is there
  pub channel_there : (at : ℕ) (e : Entry) (w : Way) (c : ℕ) → slice_get all at ≡ Some e → e.event ≡ offer_event w c
      → c < s.channels
  channel_there at e w c inside is =
      let f = front.follows all nameable silent lawful at e inside in
      let a = offer_given (births (take at all)) e.process w c
      (subst (GivesNumbers (births (take at all)) e.process) is f.1) in
      let b = (front.stays_on all nameable silent lawful at e inside).channels in
      omega arith

  -- before entry e of index at
  module _ (at : ℕ) (e : Entry) (inside : slice_get all at ≡ Some e) where
    abbrev os : List Occurrence
    os = entries_by_names s (take at all)

    stands : EntryFacts (knowledge_of os) os (clocks_of os)
    stands = front.stands all nameable silent lawful at e inside

    front_is : take at (entries_by_names s all) ≡ os
    front_is = sym (named_take s all at)

    -- to know an offer and to know its completion is the same
    knows_completion : (p : Name) (i : ℕ) (z : Name) (w : Way) (d : Channel) → OfferIn os i z w d
        → (knowledge_of os).past p i ≡ true → KnowsCompletion (knowledge_of os) p i
    knows_completion p i z w d o k = stands.rounded.complete p i z w d o k

    knows_offer : (p : Name) (i : ℕ) → KnowsCompletion (knowledge_of os) p i → (knowledge_of os).past p i ≡ true
    knows_offer p i k = stands.paired.closed p i k.0 k.1 k.2

    there : e.process < s.processes
    there = front.there all nameable silent lawful at e inside

    -- the counts say which offers are known
    pub counts_say : (p : Name) (q i k : ℕ) (w : Way) (d : Channel) → OfferIn os i (s.name q) w d
        → k ≡ count_of_entries (take i os) (s.name q) → (knowledge_of os).past p i
        ≡ nat_lt k (clocks_of os p (s.name q))
    counts_say p q i k w d o place = (stands.says p).says (s.name q) i k (Offered w d, o, refl, place)

    module _ (until : List ℕ) (b : JudgeTables) (h : TablesHold s until (take at all) b) where
      -- the clocks say which offers are known
      known_is : (q i k : ℕ) (w : Way) (d : Channel) → q < s.processes → IsAsked until at q
          → OfferIn os i (s.name q) w d → k ≡ count_of_entries (take i os) (s.name q)
          → (knowledge_of os).past (s.name e.process) i ≡ nat_lt k (clock_at b.clocks.items e.process q)
      known_is q i k w d l asked o place = counts_say (s.name e.process) q i k w d o place
          ∙ ap (nat_lt k) (sym (h.clocks e.process q there l
          (let n = front.at_length all nameable silent lawful at e inside in omega arith)))

      pub last_known : (w : Way) (d : Channel) (o : Offer) → IsAsked until at o.process → IsLast s os w d (Some o)
          → AreKnown os → (o.place < clock_at b.clocks.items e.process o.process)
          ↔ KnowsOffers (knowledge_of os) os (s.name e.process) (Offered w d)
      last_known w d o asked (i, there_too, offered, place_is, none_later) known = (
        λ x. knows_by_last (knowledge_of os) os (chains_of os known) (s.name e.process) w d i (s.name o.process)
            offered none_later
            (known_is o.process i o.place w d there_too asked offered place_is
            ∙ lt-ltb o.place (clock_at b.clocks.items e.process o.process) x),
        λ x. ltb-true o.place (clock_at b.clocks.items e.process o.process)
            (sym (known_is o.process i o.place w d there_too asked offered place_is) ∙ x i (s.name o.process) offered),
      )

    -- the same by the counts
    pub last_counted : (w : Way) (d : Channel) (o : Offer) → IsLast s os w d (Some o) → AreKnown os
        → (o.place < clocks_of os (s.name e.process) (s.name o.process))
        ↔ KnowsOffers (knowledge_of os) os (s.name e.process) (Offered w d)
    last_counted w d o (i, _, offered, place_is, none_later) known = (
      λ x. knows_by_last (knowledge_of os) os (chains_of os known) (s.name e.process) w d i (s.name o.process) offered
          none_later
          (counts_say (s.name e.process) o.process i o.place w d offered place_is
          ∙ lt-ltb o.place (clocks_of os (s.name e.process) (s.name o.process)) x),
      λ x. ltb-true o.place (clocks_of os (s.name e.process) (s.name o.process))
          (sym (counts_say (s.name e.process) o.process i o.place w d offered place_is) ∙ x i (s.name o.process)
          offered),
    )

    -- an offer of its own is known to a process that makes an entry
    pub own_known : (w : Way) (d : Channel) (o : Offer) → o.process ≡ e.process → IsLast s os w d (Some o) → AreKnown os
        → KnowsOffers (knowledge_of os) os (s.name e.process) (Offered w d)
    own_known w d o same (i, _, offered, _, none_later) known =
        knows_by_last (knowledge_of os) os (chains_of os known) (s.name e.process) w d i
        (s.name o.process) offered none_later
        (⊎_elim
        (λ (k : (knowledge_of os).past (s.name o.process) i ≡ true). subst
        (λ (x : ℕ). (knowledge_of os).past (s.name x) i ≡ true) same k)
        (λ (k : (c : Channel) × ((knowledge_of os).pending c ≡ Some (s.name o.process, i))).
        absurd (front.waits_not all nameable silent lawful at e inside k.0 i
        (k.1 ∙ ap (λ (x : ℕ). Some (s.name x, i)) same)))
        (stands.kept.own (s.name o.process) i (Offered w d, offered, refl)))

    pub none_known : (w : Way) (d : Channel) → IsLast s os w d None
        → KnowsOffers (knowledge_of os) os (s.name e.process) (Offered w d)
    none_known w d l i z o = absurd (l i z o)

    low_entry : (i : ℕ) (x : Entry) → slice_get (take at all) i ≡ Some x → slice_get all i ≡ Some x
    low_entry i x g = taken all at i g
      where
        taken : (xs : List Entry) (n i : ℕ) → slice_get (take n xs) i ≡ Some x → slice_get xs i ≡ Some x
        taken [] zero i g = g
        taken [] (suc n) i g = g
        taken (y ∷ xs) zero i g = absurd (none-some _ g)
        taken (y ∷ xs) (suc n) zero g = g
        taken (y ∷ xs) (suc n) (suc i) g = taken xs n i g

    pub into_front : (i : ℕ) (x : Entry) → i < at → slice_get all i ≡ Some x → slice_get (take at all) i ≡ Some x
    into_front i x l g = given all at i l g
      where
        given : (xs : List Entry) (n i : ℕ) → i < n → slice_get xs i ≡ Some x → slice_get (take n xs) i ≡ Some x
        given [] zero i l g = g
        given [] (suc n) i l g = g
        given (y ∷ xs) zero i l g = absurd (omega arith)
        given (y ∷ xs) (suc n) zero l g = g
        given (y ∷ xs) (suc n) (suc i) l g = given xs n i (omega arith) g

    offer_in : (w : Way) (c : ℕ) (i : ℕ) (x : Entry) → i < at → slice_get all i ≡ Some x → x.event ≡ offer_event w c
        → OfferIn os i (s.name x.process) w (channel s c)
    offer_in w c i x l g is = named_get s (take at all) i x (into_front i x l g)
        ∙ (λ j. Some (record { who = s.name x.process; what = (ap (happening s) is ∙ offer_happens s w c) j }))

    module _ (w : Way) (c : ℕ) (is : e.event ≡ offer_event w c) where
      open_channel : c < s.channels
      open_channel = channel_there at e w c inside is

      -- where nothing is unknown to the tables, the entry is in order
      pub nothing_unknown : ((i : ℕ) → i < at → IsUnknown s os all e.process w c i → ⊥)
          → KnowsOffers (knowledge_of os) os (s.name e.process) (Offered w (channel s c))
      nothing_unknown none i z o = by ((knowledge_of os).past (s.name e.process) i) refl
        where
          found : (y : Entry) × (slice_get (take at all) i ≡ Some y)
              × (occurrence s y ≡ record { who = z; what = Offered w (channel s c) })
          found = named_some s (take at all) i _ o

          x : Entry
          x = found.0

          g : slice_get all i ≡ Some x
          g = low_entry i x found.1

          l : i < at
          l = let a = get_within (take at all) i x found.1 in
              let m = front.at_length all nameable silent lawful at e inside in omega arith

          its : (k : ℕ) × (x.event ≡ offer_event w k) × (channel s k ≡ channel s c)
          its = event_is s x.event w (channel s c) (ap (λ (y : Occurrence). y.what) found.2)

          is_x : x.event ≡ offer_event w c
          is_x = its.1 ∙ ap (offer_event w) (one_channel s lawful its.0 c (channel_there i x w its.0 g its.1)
              open_channel its.2)

          by : (t : Bool) → (knowledge_of os).past (s.name e.process) i ≡ t
              → (knowledge_of os).past (s.name e.process) i ≡ true
          by true f = f
          by false f = absurd (none i l (x, g, is_x, λ y. false≢true (sym f ∙ y)))

      later_offer : slice_get (entries_by_names s all) at
          ≡ Some (record { who = s.name e.process; what = Offered w (channel s c) })
      later_offer = named_get s all at e inside
          ∙ (λ j. Some (record { who = s.name e.process; what = (ap (happening s) is ∙ offer_happens s w c) j }))

      -- where the last offer before an index is known, so are all before that index
      pub all_below : AreKnown os → (middle i : ℕ) → middle ≤ at → IsLastOffer all middle w c i
          → (knowledge_of os).past (s.name e.process) i ≡ true → (k : ℕ) → k < middle
          → IsUnknown s os all e.process w c k → ⊥
      all_below known middle i m (below, (last_offer, last_at, last_is), none_later) k_i k l
          (offer, offer_at, offer_is, unknown) =
          unknown ((chains_of os known).past (s.name e.process) i k w (channel s c) (s.name last_offer.process)
          (s.name offer.process)
          (offer_in w c i last_offer (omega arith) last_at last_is)
          (offer_in w c k offer (omega arith) offer_at offer_is) no_later k_i)
        where
          no_later : k ≤ i
          no_later =
              ⊎_elim (λ (a : i < k). absurd (none_later k a l (offer, offer_at, offer_is))) (λ (a : k ≤ i). a)
              (cases_lt i k)

      -- what the counts say of an offer
      pub counted_offer : (i place : ℕ) (x : Entry) → i < at → slice_get all i ≡ Some x → x.event ≡ offer_event w c
          → place ≡ count_of_entries (take i os) (s.name x.process)
          → (place < clocks_of os (s.name e.process) (s.name x.process))
          ↔ ((knowledge_of os).past (s.name e.process) i ≡ true)
      counted_offer i place x l g is_x place_is =
          let says = counts_say (s.name e.process) x.process i place w (channel s c) (offer_in w c i x l g is_x)
          place_is in
          (λ y. says ∙ lt-ltb place _ y, λ y. ltb-true place _ (sym says ∙ y))

      -- the first unknown offer and this one are the least race
      pub first_race : (i : ℕ) → IsFirstUnknown s os all at e.process w c i → AreKnown os
          → IsLeastRace (entries_by_names s all) w (channel s c) i at
      first_race i (before_it, (x, x_at, x_is, not_known), none_before) known = (race, least)
        where
          race : Race (entries_by_names s all) w (channel s c) i at
          race = record {
            before = before_it;
            first = s.name x.process;
            offered_first = named_get s all i x x_at
                ∙ (λ j. Some (record {
                  who = s.name x.process;
                  what = (ap (happening s) x_is ∙ offer_happens s w c) j;
                }));
            second = s.name e.process;
            offered_second = later_offer;
            unknown = λ k. not_known (knows_offer (s.name e.process) i
                (subst (λ (xs : List Occurrence). KnowsCompletion (knowledge_of xs) (s.name e.process) i) front_is k));
          }

          least : (v : Way) (d : Channel) (m n : ℕ) → Race (entries_by_names s all) v d m n → (at < n)
              ⊎ ((at ≡ n) × (i ≤ m))
          least v d m n r = ⊎_elim
              (λ (l : n < at). absurd (earlier l))
              (λ (l : at ≤ n). ⊎_elim (λ (y : at < n). inl y) (λ (y : at ≡ n). inr (y, here y)) (more_or_same at n l))
              (cases_lt n at)
            where
              more_or_same : (a b : ℕ) → a ≤ b → (a < b) ⊎ (a ≡ b)
              more_or_same a b l = grind (arith)

              later : (y : Entry) × (slice_get all n ≡ Some y)
                  × (occurrence s y ≡ record { who = r.second; what = Offered v d })
              later = named_some s all n _ r.offered_second

              -- no race ends before this entry
              earlier : n < at → ⊥
              earlier l =
                  let low : slice_get os n ≡ Some (record { who = r.second; what = Offered v d }) =
                  named_get s (take at all) n later.0 (into_front n later.0 l later.1) ∙ ap (λ y. Some y) later.2 in
                  let front_of : take n os ≡ take n (entries_by_names s all) = ap (take n) (sym front_is)
                  ∙ take_take n at (entries_by_names s all) (omega arith) in
                  let knows : KnowsOffers (knowledge_of (take n os)) (take n os) r.second (Offered v d) =
                  known_at os n _ low known in
                  let again : KnowsOffers (knowledge_of (take n (entries_by_names s all)))
                  (take n (entries_by_names s all)) r.second
                  (Offered v d) = subst (λ xs. KnowsOffers (knowledge_of xs) xs r.second (Offered v d)) front_of
                  knows in
                  let is_front : entries_by_names s (take n all) ≡ take n (entries_by_names s all) =
                  named_take s all n in
                  let st : EntryFacts (knowledge_of (take n (entries_by_names s all))) (take n (entries_by_names s all))
                  (clocks_of (take n (entries_by_names s all))) =
                  subst (λ xs. EntryFacts (knowledge_of xs) xs (clocks_of xs)) is_front
                  (front.stands all nameable silent lawful n later.0 later.1) in
                  let o : slice_get (take n (entries_by_names s all)) m
                  ≡ Some (record { who = r.first; what = Offered v d }) =
                  take_get (entries_by_names s all) n m _ r.before r.offered_first in
                  r.unknown (st.rounded.complete r.second m r.first v d o (again m r.first o))
                where
                  take_take : (a b : ℕ) (xs : List Occurrence) → a ≤ b → take a (take b xs) ≡ take a xs
                  take_take zero b [] l = refl
                  take_take zero b (o ∷ xs) l = refl
                  take_take (suc a) zero xs l = absurd (omega arith)
                  take_take (suc a) (suc b) [] l = refl
                  take_take (suc a) (suc b) (o ∷ xs) l = ap (λ ys. o ∷ ys) (take_take a b xs (omega arith))

                  take_get : (xs : List Occurrence) (a k : ℕ) (o : Occurrence) → k < a → slice_get xs k ≡ Some o
                      → slice_get (take a xs) k ≡ Some o
                  take_get [] zero k o l g = g
                  take_get [] (suc a) k o l g = g
                  take_get (y ∷ xs) zero k o l g = absurd (omega arith)
                  take_get (y ∷ xs) (suc a) zero o l g = g
                  take_get (y ∷ xs) (suc a) (suc k) o l g = take_get xs a k o (omega arith) g

              -- of those that end here, this one begins first
              here : at ≡ n → i ≤ m
              here y = ⊎_elim (λ (l : m < i). absurd (none_before m l unknown)) (λ (l : i ≤ m). l) (cases_lt m i)
                where
                  this : ◌≡◌ {A = Occurrence} (record { who = s.name e.process; what = Offered w (channel s c) })
                      (record { who = r.second; what = Offered v d })
                  this = same_Some _ _ (sym later_offer ∙ ap (slice_get (entries_by_names s all)) y ∙ r.offered_second)

                  is_way : w ≡ v
                  is_way = ap (λ (a : Occurrence). way_of w a.what) this

                  is_channel : channel s c ≡ d
                  is_channel = ap (λ (a : Occurrence). channel_of d a.what) this

                  is_who : s.name e.process ≡ r.second
                  is_who = ap (λ (a : Occurrence). a.who) this

                  first : (a : Entry) × (slice_get all m ≡ Some a)
                      × (occurrence s a ≡ record { who = r.first; what = Offered v d })
                  first = named_some s all m _ r.offered_first

                  inside_m : m < at
                  inside_m = let a = r.before in omega arith

                  its : (k : ℕ) × (first.0.event ≡ offer_event v k) × (channel s k ≡ d)
                  its = event_is s first.0.event v d (ap (λ (a : Occurrence). a.what) first.2)

                  is_first : first.0.event ≡ offer_event w c
                  is_first = its.1 ∙ ap (λ a. offer_event a its.0) (sym is_way)
                      ∙ ap (offer_event w) (one_channel s lawful its.0 c (channel_there m first.0 v its.0 first.1 its.1)
                      open_channel (its.2 ∙ sym is_channel))

                  unknown : IsUnknown s os all e.process w c m
                  unknown = (
                    first.0,
                    first.1,
                    is_first,
                    λ k.
                        let done = knows_completion (s.name e.process) m (s.name first.0.process) w (channel s c)
                        (offer_in w c m first.0 inside_m first.1 is_first) k in
                        r.unknown (subst (λ (xs : List Occurrence). KnowsCompletion (knowledge_of xs) r.second m)
                        (sym front_is ∙ ap (λ a. take a (entries_by_names s all)) y)
                        (subst (λ (a : Name). KnowsCompletion (knowledge_of os) a m) is_who done)),
                  )
