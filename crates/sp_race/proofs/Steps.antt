-- Each kind of entry keeps what the tables hold.
use Rattle.std.proofs.Common.{◌≡◌, ◌≢◌, ℕ, ◌+◌, ◌^◌, ◌<◌, ◌≤◌, ◌↔◌, true, false, cond, max, ◌&&◌}
use Rattle.std.proofs.Common.{◌==◌, nat_le, nat_lt, List, [], ◌∷◌, ◌++◌, take, length, get_or, Some, None}
use Rattle.std.proofs.Common.{slice_get, slice_set, refl, sym, ap, ◌∙◌, subst, arith, Result, Ok, Err}
use Rattle.std.proofs.lemmas.Option.{same_Some}
use Rattle.std.specs.Result.{OnOk}
use Rattle.std.proofs.lemmas.List.{length-set}
use Rattle.sp_journal.specs.declared.entry.Entry.{Entry}
use Rattle.sp_journal.specs.declared.entry.Event.{Event}
use Rattle.sp_journal.specs.declared.entry.Event.TheVariants as event
use Rattle.sp_journal.specs.declared.entry.Way.{Way}
use Rattle.sp_journal.specs.declared.entry.Way.TheVariants as way
use Rattle.sp_journal.specs.declared.entry.Birth.{Birth}
use Rattle.sp_journal.specs.Names.{Name, Channel, Offered, Ended}
use Rattle.sp_journal.specs.Births.{Births, births, channel, births_after_event, births_after_entry, happening}
use Rattle.sp_journal.specs.Past.{knowledge_of, knowledge_after}
use Rattle.sp_journal.proofs.BirthLaws.{Lawful, lawful, parent_older}
use Rattle.sp_race.specs.Prefixes.{is_counted}
use Rattle.sp_race.specs.OfferOrder.{KnowsOffers, AreKnown}
use Rattle.sp_race.specs.declared.clock.Clock.{Clock}
use Rattle.sp_race.specs.declared.judge_tables.Offer.{Offer}
use Rattle.sp_race.specs.declared.judge_tables.ChannelOffers.{ChannelOffers}
use Rattle.sp_race.specs.declared.judge_tables.JudgeTables.{JudgeTables}
use Rattle.sp_race.specs.Clocks.{count_of, clock_at, with_own, clocks_after_meeting, number_at, IsAsked}
use Rattle.sp_race.specs.Counts.{count_of_entries, clocks_of, clocks_after_entry}
use Rattle.sp_race.specs.JudgeTables.{entries_by_names, IsLast, IsChannelOffers, last_of, TablesHold}
use Rattle.sp_race.specs.JudgeTables.{IsNameableAndSilent, IsPlain, offer_event, channel_offers_with}
use Rattle.sp_race.proofs.TableLaws.{clock_is}
use Rattle.sp_race.proofs.Numbers.{ExtendsBirths}
use Rattle.sp_race.proofs.Fronts as front
use Rattle.sp_race.proofs.JudgeTableLaws as laws
use Rattle.sp_race.proofs.OfferLaws as offers
use Rattle.sp_race.proofs.VerdictLaws.{offer_happens, channel_there, IsOffer, none_known, last_known, last_counted}
use Rattle.sp_race.proofs.VerdictLaws.{own_known}

-- the own count was raised, told over other names of the same tables
pub raised_over : (p : ℕ) (cs0 cs1 : List Clock) → cs1 ≡ cs0 → (k m : ℕ) → k ≡ m → (A : ℕ → Type 0) (c' : ℕ → ℕ → ℕ)
    → ((r q : ℕ) → A q → c' r q ≡ cond (p == r) (with_own (clock_at cs1) p k q) (clock_at cs1 r q))
    → (r q : ℕ) → A q → c' r q ≡ cond (p == r) (with_own (clock_at cs0) p m q) (clock_at cs0 r q)
raised_over p cs0 cs1 e k m f A c' is r q a = is r q a
    ∙ (λ i. cond (p == r) (with_own (clock_at (e i)) p (f i) q) (clock_at (e i) r q))

pub shared_over : (f0 f1 : ℕ) → f0 ≡ f1 → (n p : ℕ) (c1 c2 : ℕ → ℕ → ℕ)
    → ((r q : ℕ) → c2 r q ≡ cond (nat_le f0 r && nat_lt r (f0 + n)) (max (c1 r q) (c1 p q)) (c1 r q))
    → (r q : ℕ) → c2 r q ≡ cond (nat_le f1 r && nat_lt r (f1 + n)) (max (c1 r q) (c1 p q)) (c1 r q)
shared_over f0 f1 e n p c1 c2 is r q = is r q
    ∙ ap (λ f. cond (nat_le f r && nat_lt r (f + n)) (max (c1 r q) (c1 p q)) (c1 r q)) e

pub inside_over : (p : ℕ) (cs1 cs0 : List Clock) → cs1 ≡ cs0 → p < length cs0 → p < length cs1
inside_over p cs1 cs0 e l = subst (λ cs. p < length cs) (sym e) l

module _ (all : List Entry) (t : IsNameableAndSilent all) (at : ℕ) (e : Entry) (inside : slice_get all at ≡ Some e)
    (until : List ℕ)
    (b : JudgeTables) (h : TablesHold (births all) until (take at all) b) where
  abbrev s : Births
  s = births all

  law : Lawful s
  law = lawful all t.nameable

  abbrev p : ℕ
  p = e.process

  abbrev Asked : ℕ → Type 0
  Asked = laws.Live all t.nameable t.silent law at e inside until b h

  there : p < s.processes
  there = front.there all t.nameable t.silent law at e inside

  pub made_inside : p < length b.made.items
  made_inside = let a = there in let c = h.all_made in omega arith

  pub clocks_inside : p < length b.clocks.items
  clocks_inside = let a = there in let c = h.all_clocks in omega arith

  pub before_next : p < b.next
  before_next = let a = (front.follows all t.nameable t.silent law at e inside).0 in let c = h.next in omega arith

  children_fit : (n : ℕ) → e.event ≡ event.Fork n → b.next + n ≤ s.processes
  children_fit n is =
      let a : ExtendsBirths (births_after_event (births (take at all)) p (event.Fork n)) s =
      subst (λ v. ExtendsBirths (births_after_event (births (take at all)) p v) s) is
      (front.stays_after all t.nameable t.silent law at e inside) in
      let f = a.processes in
      let c = h.next in
      omega arith

  pub children_inside : (n : ℕ) → e.event ≡ event.Fork n → b.next + n ≤ length b.clocks.items
  children_inside n is = let a = children_fit n is in let c = h.all_clocks in omega arith

  pub children_few : (n : ℕ) → e.event ≡ event.Fork n → b.next + n ≤ 2 ^ 32
  children_few n is = let a = children_fit n is in let c = law.few in omega arith

  pub parent_inside : (u : Birth) → Some u ≡ s.birth p → u.parent < length b.clocks.items
  parent_inside u born = let a = parent_older s law p there u born in let c = there in let d = h.all_clocks in
      omega arith

  pub is_there : p < s.processes
  is_there = there

  -- what follows from what each table holds
  holds_then : (b' : JudgeTables) → length b'.clocks.items ≡ length b.clocks.items
      → ((r q : ℕ) → r < s.processes → Asked q
      → clock_at b'.clocks.items r q ≡ clocks_after_entry (clocks_of (entries_by_names s (take at all)))
      (knowledge_of (entries_by_names s (take at all)))
      (entries_by_names s (take at all)) (s.name p) (happening s e.event) (s.name r) (s.name q))
      → length b'.made.items ≡ s.processes → ((r : ℕ) → r < s.processes
      → slice_get b'.made.items r ≡ Some (count_of_entries (entries_by_names s (take (at + 1) all)) (s.name r)))
      → length b'.lines.items ≡ s.channels → ((c : ℕ) → c < s.channels → (l : ChannelOffers)
      × (slice_get b'.lines.items c ≡ Some l) × IsChannelOffers s (entries_by_names s (take (at + 1) all))
      (channel s c) l)
      → b'.places.items ≡ b.places.items ++ number_at b.made.items p ∷ []
      → b'.next ≡ (births_after_entry (births (take at all)) e).processes
      → TablesHold s until (take (at + 1) all) b'
  holds_then b' len clocks lm made_is ll lines places next = record {
    all_clocks = len ∙ h.all_clocks;
    all_made = lm;
    all_lines = ll;
    all_places = ap length places ∙ laws.places_length all t.nameable t.silent law at e inside until b h;
    clocks = laws.clocks_more all t.nameable t.silent law at e inside until b h b' clocks;
    made_is = made_is;
    lines = lines;
    places = λ i x g. ap (λ xs. slice_get xs i) places
        ∙ laws.places_more all t.nameable t.silent law at e inside until b h i x g;
    next = next ∙ ap (λ (x : Births). x.processes) (sym (front.births_more all t.nameable t.silent law at e inside));
  }

  -- where the process's count of entries was raised
  counted_then : (b' : JudgeTables) → is_counted (happening s e.event) ≡ true
      → length b'.clocks.items ≡ length b.clocks.items
      → ((r q : ℕ) → r < s.processes → Asked q
      → clock_at b'.clocks.items r q ≡ clocks_after_entry (clocks_of (entries_by_names s (take at all)))
      (knowledge_of (entries_by_names s (take at all)))
      (entries_by_names s (take at all)) (s.name p) (happening s e.event) (s.name r) (s.name q))
      → b'.made.items ≡ slice_set b.made.items p (number_at b.made.items p + 1)
      → length b'.lines.items ≡ s.channels → ((c : ℕ) → c < s.channels → (l : ChannelOffers)
      × (slice_get b'.lines.items c ≡ Some l) × IsChannelOffers s (entries_by_names s (take (at + 1) all))
      (channel s c) l)
      → b'.places.items ≡ b.places.items ++ number_at b.made.items p ∷ []
      → b'.next ≡ (births_after_entry (births (take at all)) e).processes
      → TablesHold s until (take (at + 1) all) b'
  counted_then b' counted len clocks mk ll lines places next = holds_then b' len clocks
      (ap length mk ∙ length-set b.made.items p (number_at b.made.items p + 1) ∙ h.all_made)
      (λ r l. ap (λ xs. slice_get xs r) mk ∙ laws.made_counted all t.nameable t.silent law at e inside until b h counted
      r l)
      ll lines places next

  old_lines : (b' : JudgeTables) → b'.lines.items ≡ b.lines.items
      → ((d : Channel) (w : Way) → happening s e.event ≡ Offered w d → ⊥)
      → (knowledge_after (knowledge_of (entries_by_names s (take at all))) (length (entries_by_names s (take at all)))
      (s.name p)
      (happening s e.event)).pending ≡ (knowledge_of (entries_by_names s (take at all))).pending
      → (c : ℕ) → c < s.channels → (l : ChannelOffers) × (slice_get b'.lines.items c ≡ Some l)
      × IsChannelOffers s (entries_by_names s (take (at + 1) all)) (channel s c) l
  old_lines b' same off pend c l = let x = laws.lines_stay all t.nameable t.silent law at e inside until b h off pend c
      l in (x.0, ap (λ xs. slice_get xs c) same ∙ x.1, x.2)

  module _ (b' : JudgeTables) (len : length b'.clocks.items ≡ length b.clocks.items)
      (places : b'.places.items ≡ b.places.items ++ number_at b.made.items p ∷ []) where
    module _ (mk : b'.made.items ≡ slice_set b.made.items p (number_at b.made.items p + 1)) where
      module _ (lines : b'.lines.items ≡ b.lines.items) where
        pub opened : e.event ≡ event.Open → b'.next ≡ b.next
            → ((r q : ℕ) → IsAsked until (at + 1) q
            → clock_at b'.clocks.items r q
            ≡ cond (p == r) (with_own (clock_at b.clocks.items) p (number_at b.made.items p + 1) q)
            (clock_at b.clocks.items r q))
            → TablesHold s until (take (at + 1) all) b'
        opened is next clocks = counted_then b' (ap (λ v. is_counted (happening s v)) is) len
            (λ r q l k. laws.own_raised_is all t.nameable t.silent law at e inside until b h (clock_at b'.clocks.items)
            clocks r q l k ∙ sym (ap (λ v. clocks_after_entry (clocks_of (entries_by_names s (take at all)))
            (knowledge_of (entries_by_names s (take at all))) (entries_by_names s (take at all)) (s.name p)
            (happening s v) (s.name r)
            (s.name q)) is))
            mk (ap length lines ∙ h.all_lines)
            (old_lines b' lines (λ d w f. subst IsOffer (sym f ∙ ap (happening s) is) tt)
            (ap (λ v. (knowledge_after (knowledge_of (entries_by_names s (take at all)))
            (length (entries_by_names s (take at all))) (s.name p)
            (happening s v)).pending) is))
            places (next ∙ h.next ∙ sym (ap (λ v. (births_after_event (births (take at all)) p v).processes) is))

        pub forked : (n : ℕ) → e.event ≡ event.Fork n → b'.next ≡ b.next + n → (c1 : ℕ → ℕ → ℕ)
            → ((r q : ℕ) → IsAsked until (at + 1) q
            → c1 r q ≡ cond (p == r) (with_own (clock_at b.clocks.items) p (number_at b.made.items p + 1) q)
            (clock_at b.clocks.items r q))
            → ((r q : ℕ) → clock_at b'.clocks.items r q
            ≡ cond (nat_le b.next r && nat_lt r (b.next + n)) (max (c1 r q) (c1 p q)) (c1 r q))
            → TablesHold s until (take (at + 1) all) b'
        forked n is next c1 one two = counted_then b' (ap (λ v. is_counted (happening s v)) is) len
            (λ r q l k. laws.forked_is all t.nameable t.silent law at e inside until b h n is c1
            (clock_at b'.clocks.items) one two r q l k
            ∙ sym (ap (λ v. clocks_after_entry (clocks_of (entries_by_names s (take at all)))
            (knowledge_of (entries_by_names s (take at all)))
            (entries_by_names s (take at all)) (s.name p) (happening s v) (s.name r) (s.name q)) is))
            mk (ap length lines ∙ h.all_lines)
            (old_lines b' lines (λ d w f. subst IsOffer (sym f ∙ ap (happening s) is) tt)
            (ap (λ v. (knowledge_after (knowledge_of (entries_by_names s (take at all)))
            (length (entries_by_names s (take at all))) (s.name p)
            (happening s v)).pending) is))
            places (next ∙ ap (λ x. x + n) h.next
            ∙ sym (ap (λ v. (births_after_event (births (take at all)) p v).processes) is))

        ended_with : e.event ≡ event.End → b'.next ≡ b.next
            → ((r q : ℕ) → r < s.processes → Asked q
            → clock_at b'.clocks.items r q
            ≡ clocks_after_entry (clocks_of (entries_by_names s (take at all)))
            (knowledge_of (entries_by_names s (take at all))) (entries_by_names s (take at all))
            (s.name p) Ended (s.name r) (s.name q))
            → TablesHold s until (take (at + 1) all) b'
        ended_with is next clocks = counted_then b' (ap (λ v. is_counted (happening s v)) is) len
            (λ r q l k. clocks r q l k ∙ sym
            (ap (λ v. clocks_after_entry (clocks_of (entries_by_names s (take at all)))
            (knowledge_of (entries_by_names s (take at all)))
            (entries_by_names s (take at all)) (s.name p) (happening s v) (s.name r) (s.name q)) is))
            mk (ap length lines ∙ h.all_lines)
            (old_lines b' lines (λ d w f. subst IsOffer (sym f ∙ ap (happening s) is) tt)
            (ap (λ v. (knowledge_after (knowledge_of (entries_by_names s (take at all)))
            (length (entries_by_names s (take at all))) (s.name p)
            (happening s v)).pending) is))
            places (next ∙ h.next ∙ sym (ap (λ v. (births_after_event (births (take at all)) p v).processes) is))

        pub ended_root : e.event ≡ event.End → b'.next ≡ b.next → None ≡ s.birth p
            → ((r q : ℕ) → IsAsked until (at + 1) q
            → clock_at b'.clocks.items r q
            ≡ cond (p == r) (with_own (clock_at b.clocks.items) p (number_at b.made.items p + 1) q)
            (clock_at b.clocks.items r q))
            → TablesHold s until (take (at + 1) all) b'
        ended_root is next none one = ended_with is next
            (laws.ended_root_is all t.nameable t.silent law at e inside until b h none (clock_at b'.clocks.items) one)

        pub ended : e.event ≡ event.End → b'.next ≡ b.next → (u : Birth) → Some u ≡ s.birth p → (c1 : ℕ → ℕ → ℕ)
            → ((r q : ℕ) → IsAsked until (at + 1) q
            → c1 r q ≡ cond (p == r) (with_own (clock_at b.clocks.items) p (number_at b.made.items p + 1) q)
            (clock_at b.clocks.items r q))
            → ((r q : ℕ) → clock_at b'.clocks.items r q ≡ cond (u.parent == r) (max (c1 u.parent q) (c1 p q)) (c1 r q))
            → TablesHold s until (take (at + 1) all) b'
        ended is next u born c1 one two = ended_with is next
            (laws.ended_is all t.nameable t.silent law at e inside until b h u born
            (let a = parent_older s law p there u born in let c = there in omega arith) c1 (clock_at b'.clocks.items)
            one two)

      -- an offer
      module _ (w : Way) (c : ℕ) (is : e.event ≡ offer_event w c) (l : ChannelOffers)
          (line : slice_get b.lines.items c ≡ Some l)
          (next : b'.next ≡ b.next) where
        happens : happening s e.event ≡ Offered w (channel s c)
        happens = ap (happening s) is ∙ offer_happens s w c

        c_there : c < s.channels
        c_there = channel_there all t.nameable t.silent law at e w c inside is

        same_next : b'.next ≡ (births_after_entry (births (take at all)) e).processes
        same_next = next ∙ h.next ∙ sym (ap (λ v. (births_after_event (births (take at all)) p v).processes) is ∙ by w)
          where
            by : (w : Way) → (births_after_event (births (take at all)) p (offer_event w c)).processes
                ≡ (births (take at all)).processes
            by way.Send = refl
            by way.Receive = refl

        abbrev offer : Offer
        offer = record { process = p; place = number_at b.made.items p }

        pub offer_waits : l.waiting ≡ None → b'.lines.items
            ≡ slice_set b.lines.items c (channel_offers_with w offer (Some offer) l) → b'.clocks.items ≡ b.clocks.items
            → TablesHold s until (take (at + 1) all) b'
        offer_waits free ls clocks = counted_then b' (ap is_counted happens) len
            (λ r q a k. ap (λ cs. clock_at cs r q) clocks
            ∙ offers.clocks_wait all t.nameable t.silent law at e inside until b h w c happens c_there l line free r
            q a k)
            mk (ap length ls ∙ length-set b.lines.items c (channel_offers_with w offer (Some offer) l) ∙ h.all_lines)
            (λ k a. let x = offers.offer_lines all t.nameable t.silent law at e inside until b h w c happens c_there l
            line (Some offer) (offers.waits_now all t.nameable t.silent law at e inside until b h w c happens c_there
            l line free) k a in (x.0, ap (λ xs. slice_get xs k) ls ∙ x.1, x.2))
            places same_next

        pub offer_meets : (z : Offer) → l.waiting ≡ Some z
            → b'.lines.items ≡ slice_set b.lines.items c (channel_offers_with w offer None l)
            → ((r q : ℕ) → IsAsked until (at + 1) q
            → clock_at b'.clocks.items r q
            ≡ clocks_after_meeting (clock_at b.clocks.items) p (number_at b.made.items p + 1) z.process
            (z.place + 1) r q)
            → TablesHold s until (take (at + 1) all) b'
        offer_meets z waiting ls clocks = counted_then b' (ap is_counted happens) len
            (offers.clocks_met all t.nameable t.silent law at e inside until b h w c happens c_there l line z waiting
            (clock_at b'.clocks.items) clocks)
            mk (ap length ls ∙ length-set b.lines.items c (channel_offers_with w offer None l) ∙ h.all_lines)
            (λ k a. let x = offers.offer_lines all t.nameable t.silent law at e inside until b h w c happens c_there l
            line None (offers.waits_no_more all t.nameable t.silent law at e inside until b h w c happens c_there l
            line z waiting) k a in (x.0, ap (λ xs. slice_get xs k) ls ∙ x.1, x.2))
            places same_next

    -- an entry that nobody comes to know
    pub passed : IsPlain e.event → b'.made.items ≡ b.made.items → b'.lines.items ≡ b.lines.items
        → b'.clocks.items ≡ b.clocks.items → b'.next ≡ b.next → TablesHold s until (take (at + 1) all) b'
    passed plain mk lines clocks next = by e.event refl plain
      where
        all_of : (v : Event) → e.event ≡ v → is_counted (happening s v) ≡ false
            → ((d : Channel) (w : Way) → happening s v ≡ Offered w d → ⊥)
            → ((r q : Name) → clocks_after_entry (clocks_of (entries_by_names s (take at all)))
            (knowledge_of (entries_by_names s (take at all)))
            (entries_by_names s (take at all)) (s.name p) (happening s v) r q
            ≡ clocks_of (entries_by_names s (take at all)) r q)
            → (knowledge_after (knowledge_of (entries_by_names s (take at all)))
            (length (entries_by_names s (take at all))) (s.name p)
            (happening s v)).pending ≡ (knowledge_of (entries_by_names s (take at all))).pending
            → (births_after_event (births (take at all)) p v).processes ≡ (births (take at all)).processes
            → TablesHold s until (take (at + 1) all) b'
        all_of v is counted off same pend still = holds_then b' len
            (λ r q l k. ap (λ cs. clock_at cs r q) clocks
            ∙ laws.clock_is all t.nameable t.silent law at e inside until b h r q l k
            ∙ sym (ap (λ x. clocks_after_entry (clocks_of (entries_by_names s (take at all)))
            (knowledge_of (entries_by_names s (take at all)))
            (entries_by_names s (take at all)) (s.name p) (happening s x) (s.name r) (s.name q)) is
            ∙ same (s.name r) (s.name q)))
            (ap length mk ∙ h.all_made)
            (λ r l. ap (λ xs. slice_get xs r) mk
            ∙ laws.made_kept all t.nameable t.silent law at e inside until b h
            (ap (λ x. is_counted (happening s x)) is ∙ counted) r l)
            (ap length lines ∙ h.all_lines)
            (old_lines b' lines (λ d w f. off d w (sym (ap (happening s) is) ∙ f))
            (ap (λ x. (knowledge_after (knowledge_of (entries_by_names s (take at all)))
            (length (entries_by_names s (take at all))) (s.name p)
            (happening s x)).pending) is ∙ pend))
            places (next ∙ h.next ∙ sym (ap (λ x. (births_after_event (births (take at all)) p x).processes) is
            ∙ still))

        by : (v : Event) → e.event ≡ v → IsPlain v → TablesHold s until (take (at + 1) all) b'
        by (event.Fault x) is f = all_of (event.Fault x) is refl (λ d w g. subst IsOffer (sym g) tt) (λ r q. refl) refl
            refl
        by event.Laid is f = all_of event.Laid is refl (λ d w g. subst IsOffer (sym g) tt) (λ r q. refl) refl refl
        by event.Pause is f = all_of event.Pause is refl (λ d w g. subst IsOffer (sym g) tt) (λ r q. refl) refl refl
        by _ _ f = absurd f

  -- an offer and its line
  module _ (w : Way) (c : ℕ) (is : e.event ≡ offer_event w c) where
    this_channel : c < s.channels
    this_channel = channel_there all t.nameable t.silent law at e w c inside is

    this_happens : happening s e.event ≡ Offered w (channel s c)
    this_happens = ap (happening s) is ∙ offer_happens s w c

    pub channel_inside : c < length b.lines.items
    channel_inside = let a = this_channel in let d = h.all_lines in omega arith

    module _ (l : ChannelOffers) (line : slice_get b.lines.items c ≡ Some l) where
      pub waits_there : (z : Offer) → l.waiting ≡ Some z → z.process < length b.clocks.items
      waits_there z f =
          let a = offers.z_there all t.nameable t.silent law at e inside until b h w c this_happens this_channel l
          line z
          f in
          let d = h.all_clocks in
          omega arith

      pub waits_apart : (z : Offer) → l.waiting ≡ Some z → p ≢ z.process
      waits_apart z f = offers.apart all t.nameable t.silent law at e inside until b h w c this_happens this_channel l
          line z f

      its_last : IsLast s (entries_by_names s (take at all)) w (channel s c) (last_of w l)
      its_last = let x = h.lines c this_channel in
          by w (subst (IsChannelOffers s (entries_by_names s (take at all)) (channel s c))
          (same_Some x.0 l (sym x.1 ∙ line)) x.2)
        where
          by : (v : Way) → IsChannelOffers s (entries_by_names s (take at all)) (channel s c) l
              → IsLast s (entries_by_names s (take at all)) v (channel s c) (last_of v l)
          by way.Send i = i.sent
          by way.Receive i = i.received

      pub knows_none : last_of w l ≡ None → KnowsOffers (knowledge_of (entries_by_names s (take at all)))
          (entries_by_names s (take at all))
          (s.name p) (Offered w (channel s c))
      knows_none none = none_known all t.nameable t.silent law at e inside w (channel s c)
          (subst (IsLast s (entries_by_names s (take at all)) w (channel s c)) none its_last)

      module _ (o : Offer) (some : last_of w l ≡ Some o) (known : AreKnown (entries_by_names s (take at all))) where
        is_last : IsLast s (entries_by_names s (take at all)) w (channel s c) (Some o)
        is_last = subst (IsLast s (entries_by_names s (take at all)) w (channel s c)) some its_last

        pub last_there : o.process < s.processes
        last_there = is_last.1

        pub knows_own : o.process ≡ p → KnowsOffers (knowledge_of (entries_by_names s (take at all)))
            (entries_by_names s (take at all)) (s.name p)
            (Offered w (channel s c))
        knows_own same = own_known all t.nameable t.silent law at e inside w (channel s c) o same is_last known

        pub knows_counted : (o.place < clocks_of (entries_by_names s (take at all)) (s.name p) (s.name o.process))
            ↔ KnowsOffers (knowledge_of (entries_by_names s (take at all))) (entries_by_names s (take at all))
            (s.name p) (Offered w (channel s c))
        knows_counted = last_counted all t.nameable t.silent law at e inside w (channel s c) o is_last known

        pub knows_last : IsAsked until at o.process → (cl : Clock) → cl ≡ get_or b.clocks.items p cl
            → (o.place < count_of cl o.process)
            ↔ KnowsOffers (knowledge_of (entries_by_names s (take at all))) (entries_by_names s (take at all))
            (s.name p)
            (Offered w (channel s c))
        knows_last asked cl is_cl =
            let f = last_known all t.nameable t.silent law at e inside until b h w
            (channel s c) o asked is_last known in
            let g : count_of cl o.process ≡ clock_at b.clocks.items p o.process = ap (λ x. count_of x o.process) is_cl
            ∙ clock_is b.clocks.items p cl o.process clocks_inside in
            (λ x. f.0 (subst (λ n. o.place < n) g x), λ x. subst (λ n. o.place < n) (sym g) (f.1 x))

pub ok_both : {T E : Type 0} (A B : Type 0) (r : Result T E) → OnOk r A → OnOk r B → OnOk r (A × B)
ok_both A B (Ok x) a b = (a, b)
ok_both A B (Err x) a b = tt
