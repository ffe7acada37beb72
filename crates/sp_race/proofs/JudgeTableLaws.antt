-- The judge's tables after one more entry.
use Rattle.std.proofs.Common.{◌≡◌, ◌⊎◌, inl, inr, ⊎_elim, ℕ, suc, ◌+◌, ◌<◌, ◌≤◌, true, false, cond, max, ◌&&◌, ◌==◌}
use Rattle.std.proofs.Common.{nat_le, nat_lt, List, [], ◌∷◌, ◌++◌, take, length, length-append, Option, Some, None}
use Rattle.std.proofs.Common.{slice_get, slice_set, unwrap_or, refl, sym, ap, ◌∙◌, subst, arith, eq-eqb}
use Rattle.std.proofs.lemmas.Bool.{and_from, and_right}
use Rattle.std.proofs.lemmas.Option.{same_Some}
use Rattle.sp_base.proofs.Facts.{below_or_at, get_before_last, get_last}
use Rattle.sp_journal.specs.declared.entry.Entry.{Entry}
use Rattle.sp_journal.specs.declared.entry.Event.TheVariants as event
use Rattle.sp_journal.specs.declared.entry.Way.{Way}
use Rattle.sp_journal.specs.declared.entry.Way.TheVariants as way
use Rattle.sp_journal.specs.declared.entry.Birth.{Birth}
use Rattle.sp_journal.specs.Names.{Name, Channel, same_name, Forked, Offered, Ended, Occurrence}
use Rattle.sp_journal.specs.Births.{Births, first_births, births_after_event, births, channel, NameableFrom, happening}
use Rattle.sp_journal.specs.Births.{occurrence}
use Rattle.sp_journal.specs.Past.{Knowledge, knowledge_of, knowledge_after}
use Rattle.sp_journal.proofs.BirthLaws.{Lawful, name_by_birth, name_of_root}
use Rattle.sp_journal.proofs.NameLaws.{name_itself}
use Rattle.sp_race.specs.Prefixes.{WaitersAreSilent, is_counted}
use Rattle.sp_race.specs.declared.judge_tables.Offer.{Offer}
use Rattle.sp_race.specs.declared.judge_tables.ChannelOffers.{ChannelOffers}
use Rattle.sp_race.specs.declared.judge_tables.JudgeTables.{JudgeTables}
use Rattle.sp_race.specs.Clocks.{clock_at, with_own, number_at, IsAsked}
use Rattle.sp_race.specs.Counts.{count_of_entries, clocks_of, clocks_after_entry, with_clock, with_parent_merged}
use Rattle.sp_race.specs.Counts.{clock_with_entry}
use Rattle.sp_race.specs.JudgeTables.{entries_by_names, IsWaitingOffer, OfferIn, IsLast, IsChannelOffers, TablesHold}
use Rattle.sp_race.proofs.Tallies.{index_or_not, made_last, take_low, take_all}
use Rattle.sp_race.proofs.TableLaws.{get_set}
use Rattle.sp_race.proofs.EntryFacts.{EntryFacts}
use Rattle.sp_race.proofs.Numbers.{ExtendsBirths, same_process, shares_is, children_named}
use Rattle.sp_race.proofs.Fronts.{judged_last, counts_last, get_within, take_next, named_length}
use Rattle.sp_race.proofs.Fronts as front

pub next_is_suc : (a b : ℕ) → a ≡ b → a + 1 ≡ suc b
next_is_suc a b e = omega arith

-- what is said of an offer that waits, and of a last offer, still stands
waits_stay : (s : Births) (os : List Occurrence) (e : Occurrence) (o : Option Offer) (x : Option (Name × ℕ))
    → ((y : Name × ℕ) → x ≡ Some y → y.1 ≤ length os) → IsWaitingOffer s os o x → IsWaitingOffer s (os ++ e ∷ []) o x
waits_stay s os e None None low w = w
waits_stay s os e None (Some y) low w = w
waits_stay s os e (Some o) None low w = w
waits_stay s os e (Some o) (Some y) low w = (
  w.0,
  w.1,
  w.2
      ∙ ap (λ xs. count_of_entries xs y.0) (sym (take_low os e y.1 (low y refl))),
)

module _ (s : Births) (os : List Occurrence) (e : Occurrence) (w : Way) (d : Channel) where
  old_or_last : (i : ℕ) (z : Name) → OfferIn (os ++ e ∷ []) i z w d → ((i < length os) × OfferIn os i z w d)
      ⊎ ((i ≡ length os) × (e.what ≡ Offered w d))
  old_or_last i z o = ⊎_elim
      (λ (l : i < length os). inl (l, sym (get_before_last os e i l) ∙ o))
      (λ (l : i ≡ length os). inr (
        l,
        ap (λ (x : Occurrence). x.what)
            (same_Some e _ (sym (get_last os e) ∙ subst (λ k. OfferIn (os ++ e ∷ []) k z w d) l o)),
      ))
      (below_or_at i (length os) (let a = get_within (os ++ e ∷ []) i _ o in let b = length-append os (e ∷ []) in
      omega arith))

  pub last_stays : (e.what ≡ Offered w d → ⊥) → (o : Option Offer) → IsLast s os w d o → IsLast s (os ++ e ∷ []) w d o
  last_stays off None h = λ i z a. ⊎_elim (λ (x : (i < length os) × OfferIn os i z w d). h i z x.1)
      (λ (x : (i ≡ length os) × (e.what ≡ Offered w d)). off x.1) (old_or_last i z a)
  last_stays off (Some o) (last, there, offered, place_is, none_later) =
      let l = get_within os last _ offered in (
        last,
        there,
        get_before_last os e last l ∙ offered,
        place_is ∙ ap (λ xs. count_of_entries xs (s.name o.process)) (sym (take_low os e last (omega arith))),
        λ k y a. ⊎_elim (λ (x : (k < length os) × OfferIn os k y w d). none_later k y x.1)
            (λ (x : (k ≡ length os) × (e.what ≡ Offered w d)). absurd (off x.1)) (old_or_last k y a),
      )

  -- the new entry is the last offer
  pub new_last : (o : Offer) → o.process < s.processes → e ≡ record { who = s.name o.process; what = Offered w d }
      → o.place ≡ count_of_entries os (s.name o.process) → IsLast s (os ++ e ∷ []) w d (Some o)
  new_last o there is place = (
    length os,
    there,
    get_last os e ∙ ap (λ x. Some x) is,
    place ∙ ap (λ xs. count_of_entries xs (s.name o.process))
        (sym (take_low os e (length os) (omega arith) ∙ take_all os)),
    λ k y a. (let b = get_within (os ++ e ∷ []) k _ a in let c = length-append os (e ∷ []) in omega arith),
  )

module _ (all : List Entry) (nameable : NameableFrom first_births all)
    (silent : WaitersAreSilent (entries_by_names (births all) all))
    (lawful : Lawful (births all)) (at : ℕ) (e : Entry) (inside : slice_get all at ≡ Some e) (until : List ℕ)
    (b : JudgeTables) (h : TablesHold (births all) until (take at all) b) where
  abbrev s : Births
  s = births all

  abbrev os : List Occurrence
  os = front.past all nameable silent lawful at e inside

  abbrev o : Occurrence
  o = occurrence s e

  abbrev p : ℕ
  p = e.process

  pub here : p < s.processes
  here = front.there all nameable silent lawful at e inside

  pub grown : entries_by_names s (take (at + 1) all) ≡ os ++ o ∷ []
  grown = front.grown all nameable silent lawful at e inside

  pub stands : EntryFacts (knowledge_of os) os (clocks_of os)
  stands = front.stands all nameable silent lawful at e inside

  pub its_made : number_at b.made.items p ≡ count_of_entries os (s.name p)
  its_made = ap (λ x. unwrap_or x 0) (h.made_is p here)

  -- it is there, and after this entry its count is still asked for
  abbrev pub Live : ℕ → Type 0
  Live q = (q < s.processes) × IsAsked until (at + 1) q

  pub clocks_more : (b' : JudgeTables) → ((r q : ℕ) → r < s.processes → Live q
      → clock_at b'.clocks.items r q ≡ clocks_after_entry (clocks_of os) (knowledge_of os) os (s.name p)
      (happening s e.event) (s.name r)
      (s.name q))
      → (r q : ℕ) → r < s.processes → q < s.processes → IsAsked until (length (take (at + 1) all)) q
      → clock_at b'.clocks.items r q ≡ clocks_of (entries_by_names s (take (at + 1) all)) (s.name r) (s.name q)
  clocks_more b' f r q l k asked = f r q l (
    k,
    let n = front.next_length all nameable silent lawful at e inside in
        omega arith,
  ) ∙ sym (ap (λ xs. clocks_of xs (s.name r) (s.name q)) grown
      ∙ ap (λ g. g (s.name r) (s.name q)) (counts_last os o))

  made_now : (r : ℕ) → count_of_entries (entries_by_names s (take (at + 1) all)) (s.name r)
      ≡ cond (same_name (s.name p) (s.name r) && is_counted (happening s e.event))
      (suc (count_of_entries os (s.name r)))
      (count_of_entries os (s.name r))
  made_now r = ap (λ xs. count_of_entries xs (s.name r)) grown ∙ made_last os o (s.name r)

  pub made_counted : is_counted (happening s e.event) ≡ true → (r : ℕ) → r < s.processes
      → slice_get (slice_set b.made.items p (number_at b.made.items p + 1)) r
      ≡ Some (count_of_entries (entries_by_names s (take (at + 1) all)) (s.name r))
  made_counted counted r l =
      get_set b.made.items p (number_at b.made.items p + 1) r (let a = h.all_made in let c = here in omega arith)
      ∙ (⊎_elim
      (λ (i : p ≡ r).
      let t : same_name (s.name p) (s.name r)
      && is_counted (happening s e.event) ≡ true =
      ap (λ x. same_name (s.name p) (s.name x) && is_counted (happening s e.event)) (sym i)
      ∙ and_from (same_name (s.name p) (s.name p)) (is_counted (happening s e.event)) (name_itself (s.name p))
      counted in
      let m : number_at b.made.items p ≡ count_of_entries os (s.name r) =
      its_made ∙ ap (λ x. count_of_entries os (s.name x)) i in
      ap (λ x. cond x (Some (number_at b.made.items p + 1)) (slice_get b.made.items r)) (eq-eqb p r i)
      ∙ ap (λ x. Some x) (next_is_suc (number_at b.made.items p) (count_of_entries os (s.name r)) m)
      ∙ sym (ap (λ x. Some x) (made_now r
      ∙ ap (λ x. cond x (suc (count_of_entries os (s.name r))) (count_of_entries os (s.name r))) t)))
      (λ (i : p == r ≡ false).
      let t : same_name (s.name p) (s.name r)
      && is_counted (happening s e.event) ≡ false =
      ap (λ x. x && is_counted (happening s e.event)) (sym (same_process s lawful p r here l) ∙ i) in
      ap (λ x. cond x (Some (number_at b.made.items p + 1)) (slice_get b.made.items r)) i
      ∙ h.made_is r l ∙ sym (ap (λ x. Some x)
      (made_now r ∙ ap (λ x. cond x (suc (count_of_entries os (s.name r))) (count_of_entries os (s.name r))) t)))
      (index_or_not p r))

  pub made_kept : is_counted (happening s e.event) ≡ false → (r : ℕ) → r < s.processes
      → slice_get b.made.items r ≡ Some (count_of_entries (entries_by_names s (take (at + 1) all)) (s.name r))
  made_kept counted r l = h.made_is r l ∙ sym
      (ap (λ x. Some x) (made_now r
      ∙ ap (λ x. cond x (suc (count_of_entries os (s.name r))) (count_of_entries os (s.name r)))
      (and_right (same_name (s.name p) (s.name r)) (is_counted (happening s e.event)) counted)))

  pub places_length : length (b.places.items ++ number_at b.made.items p ∷ []) ≡ length (take (at + 1) all)
  places_length =
      let a = length-append b.places.items (number_at b.made.items p ∷ []) in
      let c = h.all_places in
      let d : length (take (at + 1) all) ≡ length (take at all) + 1 = ap length (take_next all at e inside)
      ∙ length-append (take at all) (e ∷ []) in
      omega arith

  pub places_more : (i : ℕ) (x : Entry) → slice_get (take (at + 1) all) i ≡ Some x
      → slice_get (b.places.items ++ number_at b.made.items p ∷ []) i
      ≡ Some (count_of_entries (take i (entries_by_names s (take (at + 1) all))) (s.name x.process))
  places_more i x f =
      let g : slice_get (take at all ++ e ∷ []) i ≡ Some x = ap (λ ys. slice_get ys i) (sym (take_next all at e inside))
      ∙ f in
      ap_made i x (⊎_elim
      (λ (l : i < length (take at all)).
      get_before_last b.places.items (number_at b.made.items p) i (let c = h.all_places in omega arith)
      ∙ h.places i x (sym (get_before_last (take at all) e i l) ∙ g)
      ∙ ap (λ ys. Some (count_of_entries ys (s.name x.process)))
      (sym (take_low os o i (let n = named_length s (take at all) in omega arith))))
      (λ (l : i ≡ length (take at all)).
      let is : e ≡ x = same_Some e x (sym (get_last (take at all) e)
      ∙ subst (λ k. slice_get (take at all ++ e ∷ []) k ≡ Some x) l g) in
      let n = named_length s (take at all) in
      let k : i ≡ length b.places.items = let c = h.all_places in omega arith in
      let m : i ≡ length os = omega arith in
      subst (λ k. slice_get (b.places.items ++ number_at b.made.items p ∷ []) k ≡ Some (number_at b.made.items p))
      (sym k) (get_last b.places.items (number_at b.made.items p))
      ∙ ap (λ y. Some y) (its_made ∙ ap (λ (y : Entry). count_of_entries os (s.name y.process)) is)
      ∙ ap (λ ys. Some (count_of_entries ys (s.name x.process)))
      (sym (ap (λ k. take k (os ++ o ∷ [])) m ∙ take_low os o (length os) (omega arith) ∙ take_all os)))
      (below_or_at i (length (take at all)) (let a = get_within (take at all ++ e ∷ []) i x g in
      let c = length-append (take at all) (e ∷ []) in omega arith)))
    where
      ap_made : (i : ℕ) (x : Entry) → slice_get (b.places.items ++ number_at b.made.items p ∷ []) i
          ≡ Some (count_of_entries (take i (os ++ o ∷ [])) (s.name x.process))
          → slice_get (b.places.items ++ number_at b.made.items p ∷ []) i
          ≡ Some (count_of_entries (take i (entries_by_names s (take (at + 1) all))) (s.name x.process))
      ap_made i x f = f ∙ ap (λ xs. Some (count_of_entries (take i xs) (s.name x.process))) (sym grown)

  pending_low : (d : Channel) (y : Name × ℕ) → (knowledge_of os).pending d ≡ Some y → y.1 ≤ length os
  pending_low d y f =
      let w = stands.kept.waiting d y.0 y.1 f in
      let l = get_within os y.1 _ w.1 in
      omega arith

  -- a line on which the entry makes no offer
  pub line_stays : (d : Channel) (l : ChannelOffers) → ((w : Way) → o.what ≡ Offered w d → ⊥)
      → (knowledge_after (knowledge_of os) (length os) o.who o.what).pending d ≡ (knowledge_of os).pending d
      → IsChannelOffers s os d l
      → IsChannelOffers s (entries_by_names s (take (at + 1) all)) d l
  line_stays d l off same i = subst (λ xs. IsChannelOffers s xs d l) (sym grown) (record {
    waiting = subst (IsWaitingOffer s (os ++ o ∷ []) l.waiting)
        (sym (ap (λ (j : Knowledge). j.pending d) (judged_last os o) ∙ same))
        (waits_stay s os o l.waiting ((knowledge_of os).pending d) (pending_low d) i.waiting);
    sent = last_stays s os o way.Send d (off way.Send) l.sent i.sent;
    received = last_stays s os o way.Receive d (off way.Receive) l.received i.received;
  })

  pub lines_stay : ((d : Channel) (w : Way) → o.what ≡ Offered w d → ⊥)
      → (knowledge_after (knowledge_of os) (length os) o.who o.what).pending ≡ (knowledge_of os).pending
      → (c : ℕ) → c < s.channels → (l : ChannelOffers) × (slice_get b.lines.items c ≡ Some l)
      × IsChannelOffers s (entries_by_names s (take (at + 1) all)) (channel s c) l
  lines_stay off same c k = let x = h.lines c k in
      (x.0, x.1, line_stays (channel s c) x.0 (off (channel s c)) (ap (λ f. f (channel s c)) same) x.2)

  -- the clocks, by numbers

  pub clock_is : (r q : ℕ) → r < s.processes → Live q → clock_at b.clocks.items r q ≡ clocks_of os (s.name r) (s.name q)
  clock_is r q l k = h.clocks r q l k.0 (let n = front.at_length all nameable silent lawful at e inside in
      let a = k.1 in
      omega arith)

  abbrev m : ℕ
  m = number_at b.made.items p + 1

  m_is : m ≡ suc (count_of_entries os (s.name p))
  m_is = let a = its_made in omega arith

  pub own_is : (q : ℕ) → Live q → with_own (clock_at b.clocks.items) p m q ≡ clock_with_entry (clocks_of os) os
      (s.name p) (s.name q)
  own_is q l =
      let t = same_process s lawful p q here l.0 in
      let c = clock_is p q here l in
      let n = m_is in
      λ i. cond (t i) (max (c i) (n i)) (c i)

  pub own_raised_is : (c' : ℕ → ℕ → ℕ) → ((r q : ℕ) → IsAsked until (at + 1) q
      → c' r q ≡ cond (p == r) (with_own (clock_at b.clocks.items) p m q) (clock_at b.clocks.items r q))
      → (r q : ℕ) → r < s.processes → Live q
      → c' r q ≡ with_clock (s.name p) (clock_with_entry (clocks_of os) os (s.name p)) (clocks_of os) (s.name r)
      (s.name q)
  own_raised_is c' is r q l k =
      let t = same_process s lawful p r here l in
      let x = own_is q k in
      let y = clock_is r q l k in
      is r q k.1 ∙ (λ i. cond (t i) (x i) (y i))

  -- what the entry's process knows with its own entry
  own_itself : (c' : ℕ → ℕ → ℕ) → ((r q : ℕ) → IsAsked until (at + 1) q
      → c' r q ≡ cond (p == r) (with_own (clock_at b.clocks.items) p m q) (clock_at b.clocks.items r q))
      → (q : ℕ) → Live q → c' p q ≡ clock_with_entry (clocks_of os) os (s.name p) (s.name q)
  own_itself c' is q k = is p q k.1 ∙ ap (λ x. cond x (with_own (clock_at b.clocks.items) p m q)
      (clock_at b.clocks.items p q)) (eq-eqb p p refl) ∙ own_is q k

  pub forked_is : (n : ℕ) → e.event ≡ event.Fork n → (c1 c2 : ℕ → ℕ → ℕ)
      → ((r q : ℕ) → IsAsked until (at + 1) q
      → c1 r q ≡ cond (p == r) (with_own (clock_at b.clocks.items) p m q) (clock_at b.clocks.items r q))
      → ((r q : ℕ) → c2 r q ≡ cond (nat_le b.next r && nat_lt r (b.next + n)) (max (c1 r q) (c1 p q)) (c1 r q))
      → (r q : ℕ) → r < s.processes → Live q
      → c2 r q ≡ clocks_after_entry (clocks_of os) (knowledge_of os) os (s.name p) (Forked n) (s.name r) (s.name q)
  forked_is n is c1 c2 one two r q l k =
      two r q ∙ (λ i. cond (nat_le (first_is i) r && nat_lt r (first_is i + n)) (max (c1 r q) (c1 p q)) (c1 r q))
      ∙ shares_is s lawful p ((knowledge_of os).forks (s.name p)) (births (take at all)).processes n fits children Live
      (clock_with_entry (clocks_of os) os (s.name p)) (c1 p) (own_itself c1 one) n 0 (omega arith)
      (with_clock (s.name p) (clock_with_entry (clocks_of os) os (s.name p)) (clocks_of os)) c1 (own_raised_is c1 one)
      r q l k
    where
      first_is : b.next ≡ (births (take at all)).processes + 0
      first_is = let a = h.next in omega arith

      after : ExtendsBirths (births_after_event (births (take at all)) p (event.Fork n)) s
      after = subst (λ v. ExtendsBirths (births_after_event (births (take at all)) p v) s) is
          (front.stays_after all nameable silent lawful at e inside)

      fits : (births (take at all)).processes + n ≤ s.processes
      fits = after.processes

      children : (i : ℕ) → i < n → s.name ((births (take at all)).processes + i)
          ≡ ((knowledge_of os).forks (s.name p), i)
          ∷ s.name p
      children i l =
          let f = front.forks_named all nameable silent lawful at e inside p here in
          children_named (births (take at all)) s p n (front.follows all nameable silent lawful at e inside).0
          (front.stays_on all nameable silent lawful at e inside) after i l
          ∙ (λ j. (sym f j, i) ∷ s.name p)

  pub ended_root_is : None ≡ s.birth p → (c1 : ℕ → ℕ → ℕ)
      → ((r q : ℕ) → IsAsked until (at + 1) q
      → c1 r q ≡ cond (p == r) (with_own (clock_at b.clocks.items) p m q) (clock_at b.clocks.items r q))
      → (r q : ℕ) → r < s.processes → Live q
      → c1 r q ≡ clocks_after_entry (clocks_of os) (knowledge_of os) os (s.name p) Ended (s.name r) (s.name q)
  ended_root_is none c1 one r q l k =
      own_raised_is c1 one r q l k
      ∙ ap (λ (x : Name). with_parent_merged x (clock_with_entry (clocks_of os) os (s.name p))
      (with_clock (s.name p) (clock_with_entry (clocks_of os) os (s.name p)) (clocks_of os)) (s.name r) (s.name q))
      (sym (name_of_root s lawful p here none))

  pub ended_is : (t : Birth) → Some t ≡ s.birth p → t.parent < s.processes → (c1 c2 : ℕ → ℕ → ℕ)
      → ((r q : ℕ) → IsAsked until (at + 1) q
      → c1 r q ≡ cond (p == r) (with_own (clock_at b.clocks.items) p m q) (clock_at b.clocks.items r q))
      → ((r q : ℕ) → c2 r q ≡ cond (t.parent == r) (max (c1 t.parent q) (c1 p q)) (c1 r q))
      → (r q : ℕ) → r < s.processes → Live q
      → c2 r q ≡ clocks_after_entry (clocks_of os) (knowledge_of os) os (s.name p) Ended (s.name r) (s.name q)
  ended_is t born there c1 c2 one two r q l k =
      two r q ∙ swap
      ∙ (λ i. cond (test i) (max (own_raised_is c1 one r q l k i) (own_itself c1 one q k i))
      (own_raised_is c1 one r q l k i))
      ∙ ap (λ (x : Name). with_parent_merged x (clock_with_entry (clocks_of os) os (s.name p))
      (with_clock (s.name p) (clock_with_entry (clocks_of os) os (s.name p)) (clocks_of os)) (s.name r) (s.name q))
      (sym (name_by_birth s lawful p here t born))
    where
      test : t.parent == r ≡ same_name (s.name t.parent) (s.name r)
      test = same_process s lawful t.parent r there l

      swap : cond (t.parent == r) (max (c1 t.parent q) (c1 p q)) (c1 r q)
          ≡ cond (t.parent == r) (max (c1 r q) (c1 p q)) (c1 r q)
      swap = ⊎_elim
          (λ (i : t.parent ≡ r). ap (λ x. cond (t.parent == r) (max (c1 x q) (c1 p q)) (c1 r q)) i)
          (λ (i : t.parent == r ≡ false). ap (λ x. cond x (max (c1 t.parent q) (c1 p q)) (c1 r q)) i
          ∙ sym (ap (λ x. cond x (max (c1 r q) (c1 p q)) (c1 r q)) i))
          (index_or_not t.parent r)
