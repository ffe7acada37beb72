-- The judge's tables after an offer, and what an offer's process knows before it.
use Rattle.std.proofs.Common.{◌≡◌, ◌≢◌, ⊎_elim, ℕ, suc, ◌+◌, ◌<◌, ◌≤◌, Bool, true, false, cond, max, ◌==◌, List, []}
use Rattle.std.proofs.Common.{◌∷◌, ◌++◌, take, length, Option, Some, None, slice_get, slice_set, refl, sym, ap, ◌∙◌}
use Rattle.std.proofs.Common.{subst, arith, eq-eqb}
use Rattle.std.proofs.Math.Nat.{max-eq_left, max_comm, le-max_left, le-max_right}
use Rattle.std.proofs.lemmas.Bool.{eqb-false, false_from_ne_true}
use Rattle.std.proofs.lemmas.Option.{same_Some}
use Rattle.sp_journal.specs.declared.entry.Entry.{Entry}
use Rattle.sp_journal.specs.declared.entry.Way.{Way}
use Rattle.sp_journal.specs.declared.entry.Way.TheVariants as way
use Rattle.sp_journal.specs.Names.{Name, Channel, same_name, same_channel, Offered, Occurrence}
use Rattle.sp_journal.specs.Births.{Births, first_births, births, channel, NameableFrom, happening, occurrence}
use Rattle.sp_journal.specs.Past.{Knowledge, knowledge_of, knowledge_after, knowledge_after_offer}
use Rattle.sp_journal.proofs.BirthLaws.{Lawful}
use Rattle.sp_race.specs.Prefixes.{WaitersAreSilent}
use Rattle.sp_race.proofs.Keys.{channel_itself, channel_is}
use Rattle.sp_race.specs.declared.judge_tables.Offer.{Offer}
use Rattle.sp_race.specs.declared.judge_tables.ChannelOffers.{ChannelOffers}
use Rattle.sp_race.specs.declared.judge_tables.JudgeTables.{JudgeTables}
use Rattle.sp_race.specs.Clocks.{clock_at, with_own, clocks_after_meeting, number_at, IsAsked}
use Rattle.sp_race.specs.Counts.{count_of_entries, clocks_of, clocks_after_entry, clock_with_entry, clock_of_waiter}
use Rattle.sp_race.specs.Counts.{merged_clock, clocks_after_offer}
use Rattle.sp_race.specs.JudgeTables.{entries_by_names, IsWaitingOffer, IsLast, IsChannelOffers, TablesHold}
use Rattle.sp_race.specs.JudgeTables.{channel_offers_with}
use Rattle.sp_race.proofs.Tallies.{index_or_not, take_low, take_all}
use Rattle.sp_race.proofs.TableLaws.{get_set}
use Rattle.sp_race.proofs.Numbers.{same_process, one_channel}
use Rattle.sp_race.proofs.Chains.{channel_of, way_of}
use Rattle.sp_race.proofs.Fronts.{judged_last}
use Rattle.sp_race.proofs.Fronts as front
use Rattle.sp_race.proofs.JudgeTableLaws.{last_stays, new_last, line_stays, Live, clock_is, own_is, here, grown}
use Rattle.sp_race.proofs.JudgeTableLaws.{its_made}
use Rattle.sp_race.proofs.JudgeTableLaws.{next_is_suc}

-- a clock with its own count raised has no smaller count
with_own_more : (c : ℕ → ℕ → ℕ) (p n q : ℕ) → c p q ≤ with_own c p n q
with_own_more c p n q = by (p == q)
  where
    by : (b : Bool) → c p q ≤ cond b (max (c p q) n) (c p q)
    by true = le-max_left (c p q) n
    by false = omega arith

-- who met took in what both know
met_gains : (c : ℕ → ℕ → ℕ) (p n z m r q : ℕ) → p ≢ z → let w = max (with_own c p n q) (with_own c z m q) in
    clocks_after_meeting c p n z m r q ≡ cond (z == r) (max (cond (p == r) (max (c r q) w) (c r q)) w)
    (cond (p == r) (max (c r q) w) (c r q))
met_gains c p n z m r q d = ⊎_elim
    (λ (e : z ≡ r).
    let zr = eq-eqb z r e in
    let pr : p == r ≡ false = not_same (λ f. d (f ∙ sym e)) in
    let low : c r q ≤ w = (let a = with_own_more c z m q in
    let b = le-max_right (with_own c p n q) (with_own c z m q) in let f = ap (λ x. c x q) e in omega arith) in
    ap (λ x. cond x w (cond (z == r) w (c r q))) pr ∙ ap (λ x. cond x w (c r q)) zr
    ∙ sym (ap (λ x. cond x (max (cond (p == r) (max (c r q) w) (c r q)) w) (cond (p == r) (max (c r q) w) (c r q))) zr
    ∙ ap (λ x. max (cond x (max (c r q) w) (c r q)) w) pr ∙ max_comm (c r q) w ∙ max-eq_left low))
    (λ (zr : z == r ≡ false).
    ⊎_elim
    (λ (e : p ≡ r).
    let pr = eq-eqb p r e in
    let low : c r q ≤ w = (let a = with_own_more c p n q in let b = le-max_left (with_own c p n q) (with_own c z m q) in
    let f = ap (λ x. c x q) e in omega arith) in
    ap (λ x. cond x w (cond (z == r) w (c r q))) pr
    ∙ sym (ap (λ x. cond x (max (cond (p == r) (max (c r q) w) (c r q)) w) (cond (p == r) (max (c r q) w) (c r q))) zr
    ∙ ap (λ x. cond x (max (c r q) w) (c r q)) pr ∙ max_comm (c r q) w ∙ max-eq_left low))
    (λ (pr : p == r ≡ false).
    ap (λ x. cond x w (cond (z == r) w (c r q))) pr ∙ ap (λ x. cond x w (c r q)) zr
    ∙ sym (ap (λ x. cond x (max (cond (p == r) (max (c r q) w) (c r q)) w) (cond (p == r) (max (c r q) w) (c r q))) zr
    ∙ ap (λ x. cond x (max (c r q) w) (c r q)) pr))
    (index_or_not p r))
    (index_or_not z r)
  where
    w : ℕ
    w = max (with_own c p n q) (with_own c z m q)

    not_same : (p ≡ r → ⊥) → p == r ≡ false
    not_same f = ⊎_elim (λ (e : p ≡ r). absurd (f e)) (λ (e : p == r ≡ false). e) (index_or_not p r)

module _ (all : List Entry) (nameable : NameableFrom first_births all)
    (silent : WaitersAreSilent (entries_by_names (births all) all))
    (lawful : Lawful (births all)) (at : ℕ) (e : Entry) (inside : slice_get all at ≡ Some e) (until : List ℕ)
    (b : JudgeTables) (h : TablesHold (births all) until (take at all) b)
    (w : Way) (c : ℕ) (is : happening (births all) e.event ≡ Offered w (channel (births all) c))
    (is_open : c < (births all).channels) (l : ChannelOffers) (line : slice_get b.lines.items c ≡ Some l) where
  abbrev s : Births
  s = births all

  abbrev os : List Occurrence
  os = front.past all nameable silent lawful at e inside

  abbrev p : ℕ
  p = e.process

  abbrev Asked : ℕ → Type 0
  Asked = Live all nameable silent lawful at e inside until b h

  abbrev d : Channel
  d = channel s c

  abbrev offer : Offer
  offer = record { process = p; place = number_at b.made.items p }

  its_line : IsChannelOffers s os d l
  its_line = let x = h.lines c is_open in subst (IsChannelOffers s os d) (same_Some x.0 l (sym x.1 ∙ line)) x.2

  this_there : p < s.processes
  this_there = here all nameable silent lawful at e inside until b h

  occurrence_is : occurrence s e ≡ record { who = s.name p; what = Offered w d }
  occurrence_is = λ i. record { who = s.name p; what = is i }

  new_sent : IsLast s (os ++ occurrence s e ∷ []) w d (Some offer)
  new_sent = new_last s os (occurrence s e) w d offer this_there occurrence_is
      (its_made all nameable silent lawful at e inside until b h)

  other_way : (v : Way) → (v ≡ w → ⊥) → (o : Option Offer) → IsLast s os v d o
      → IsLast s (os ++ occurrence s e ∷ []) v d o
  other_way v off o f = last_stays s os (occurrence s e) v d (λ g. off (sym (ap (way_of v) (sym is ∙ g)))) o f

  lines_with : (waiting : Option Offer) → IsWaitingOffer s (os ++ occurrence s e ∷ []) waiting
      ((knowledge_after (knowledge_of os) (length os) (s.name p) (Offered w d)).pending d) → (v : Way) → v ≡ w
      → IsChannelOffers s (entries_by_names s (take (at + 1) all)) d (channel_offers_with v offer waiting l)
  lines_with waiting f v same = subst (λ xs. IsChannelOffers s xs d (channel_offers_with v offer waiting l))
      (sym (grown all nameable silent lawful at e inside until b h)) (by v same)
    where
      wait : IsWaitingOffer s (os ++ occurrence s e ∷ []) waiting ((knowledge_of (os ++ occurrence s e ∷ [])).pending d)
      wait = subst (IsWaitingOffer s (os ++ occurrence s e ∷ []) waiting)
          (sym (ap (λ (j : Knowledge). j.pending d)
          (judged_last os (occurrence s e) ∙ ap (knowledge_after (knowledge_of os) (length os) (s.name p)) is))) f

      by : (v : Way) → v ≡ w → IsChannelOffers s (os ++ occurrence s e ∷ []) d (channel_offers_with v offer waiting l)
      by way.Send g = record {
        waiting = wait;
        sent = subst (λ x. IsLast s (os ++ occurrence s e ∷ []) x d (Some offer)) (sym g) new_sent;
        received = other_way way.Receive (λ x. send_receive (sym (x ∙ sym g))) l.received its_line.received;
      }
        where
          send_receive : way.Send ≡ way.Receive → ⊥
          send_receive x = absurd (cc)
      by way.Receive g = record {
        waiting = wait;
        sent = other_way way.Send (λ x. send_receive (x ∙ sym g)) l.sent its_line.sent;
        received = subst (λ x. IsLast s (os ++ occurrence s e ∷ []) x d (Some offer)) (sym g) new_sent;
      }
        where
          send_receive : way.Send ≡ way.Receive → ⊥
          send_receive x = absurd (cc)

  met_same : (x : Option (Name × ℕ)) (f : Channel) → same_channel d f ≡ false
      → (knowledge_after_offer (knowledge_of os) (s.name p) (length os) d x).pending f ≡ (knowledge_of os).pending f
  met_same None f n = ap (λ y. cond y (Some (s.name p, length os)) ((knowledge_of os).pending f)) n
  met_same (Some y) f n = ap (λ y. cond y None ((knowledge_of os).pending f)) n

  pub offer_lines : (waiting : Option Offer)
      → IsWaitingOffer s (os ++ occurrence s e ∷ []) waiting
      ((knowledge_after (knowledge_of os) (length os) (s.name p) (Offered w d)).pending d)
      → (k : ℕ) → k < s.channels → (x : ChannelOffers)
      × (slice_get (slice_set b.lines.items c (channel_offers_with w offer waiting l)) k ≡ Some x)
      × IsChannelOffers s (entries_by_names s (take (at + 1) all)) (channel s k) x
  offer_lines waiting f k inside' = ⊎_elim
      (λ (g : c ≡ k). (
        channel_offers_with w offer waiting l,
        get_set b.lines.items c (channel_offers_with w offer waiting l) k c_inside
            ∙ ap (λ x. cond x (Some (channel_offers_with w offer waiting l)) (slice_get b.lines.items k))
            (eq-eqb c k g),
        subst (λ x. IsChannelOffers s (entries_by_names s (take (at + 1) all)) (channel s x)
            (channel_offers_with w offer waiting l)) g
            (lines_with waiting f w refl),
      ))
      (λ (g : c == k ≡ false).
      let x = h.lines k inside' in
      let apart : channel s c ≡ channel s k → ⊥ = λ y. eqb-false c k g (one_channel s lawful c k is_open inside' y) in (
        x.0,
        get_set b.lines.items c (channel_offers_with w offer waiting l) k c_inside
            ∙ ap (λ y. cond y (Some (channel_offers_with w offer waiting l)) (slice_get b.lines.items k)) g ∙ x.1,
        line_stays all nameable silent lawful at e inside until b h (channel s k) x.0
            (λ v y. apart (ap (channel_of d) (sym is ∙ y)))
            (ap (λ y. (knowledge_after (knowledge_of os) (length os) (s.name p) y).pending (channel s k)) is
            ∙ met_same ((knowledge_of os).pending d) (channel s k)
            (false_from_ne_true (same_channel d (channel s k)) (λ y. apart (channel_is d (channel s k) y)))) x.2,
      ))
      (index_or_not c k)
    where
      c_inside : c < length b.lines.items
      c_inside = let a = h.all_lines in omega arith

  counted_is : clocks_after_entry (clocks_of os) (knowledge_of os) os (s.name p) (happening s e.event)
      ≡ clocks_after_offer (clocks_of os) os (s.name p) ((knowledge_of os).pending d)
  counted_is = ap (clocks_after_entry (clocks_of os) (knowledge_of os) os (s.name p)) is

  -- no offer waits: this one does
  module _ (free : l.waiting ≡ None) where
    pending_none : (knowledge_of os).pending d ≡ None
    pending_none = by ((knowledge_of os).pending d) (subst (λ x. IsWaitingOffer s os x ((knowledge_of os).pending d))
        free its_line.waiting)
      where
        by : (x : Option (Name × ℕ)) → IsWaitingOffer s os None x → x ≡ None
        by None f = refl
        by (Some y) f = absurd f

    pub waits_now : IsWaitingOffer s (os ++ occurrence s e ∷ []) (Some offer)
        ((knowledge_after (knowledge_of os) (length os) (s.name p) (Offered w d)).pending d)
    waits_now = subst (IsWaitingOffer s (os ++ occurrence s e ∷ []) (Some offer)) (sym pending) (
      this_there,
      refl,
      its_made all nameable silent lawful at e inside until b h
          ∙ ap (λ xs. count_of_entries xs (s.name p))
          (sym (take_low os (occurrence s e) (length os) (omega arith) ∙ take_all os)),
    )
      where
        pending : (knowledge_after (knowledge_of os) (length os) (s.name p) (Offered w d)).pending d
            ≡ Some (s.name p, length os)
        pending = ap (λ x. (knowledge_after_offer (knowledge_of os) (s.name p) (length os) d x).pending d) pending_none
            ∙ ap (λ x. cond x (Some (s.name p, length os)) ((knowledge_of os).pending d)) (channel_itself d)

    pub clocks_wait : (r q : ℕ) → r < s.processes → Asked q
        → clock_at b.clocks.items r q ≡ clocks_after_entry (clocks_of os) (knowledge_of os) os (s.name p)
        (happening s e.event)
        (s.name r) (s.name q)
    clocks_wait r q a k = clock_is all nameable silent lawful at e inside until b h r q a k
        ∙ sym (ap (λ f. f (s.name r) (s.name q)) (counted_is ∙ ap (clocks_after_offer (clocks_of os) os (s.name p))
        pending_none))

  -- an offer waits: they meet
  module _ (z : Offer) (waiting : l.waiting ≡ Some z) where
    -- the offer that waits there, by the name of its process and its index
    pub record PendingOffer : Type 0 where
      pub offer : Name × ℕ
      pub pending_is : (knowledge_of os).pending d ≡ Some offer
      pub there : z.process < s.processes
      pub name_is : s.name z.process ≡ offer.0
      pub place_is : z.place ≡ count_of_entries (take offer.1 os) offer.0

    pub its_pending : PendingOffer
    its_pending = by ((knowledge_of os).pending d) refl
        (subst (λ x. IsWaitingOffer s os x ((knowledge_of os).pending d)) waiting its_line.waiting)
      where
        by : (x : Option (Name × ℕ)) → (knowledge_of os).pending d ≡ x → IsWaitingOffer s os (Some z) x → PendingOffer
        by None e f = absurd f
        by (Some y) e f = record { offer = y; pending_is = e; there = f.0; name_is = f.1; place_is = f.2 }

    abbrev y : Name × ℕ
    y = its_pending.offer

    pub z_there : z.process < s.processes
    z_there = its_pending.there

    pub apart : p ≢ z.process
    apart f = front.waits_not all nameable silent lawful at e inside d y.1
        (its_pending.pending_is ∙ (λ i. Some ((sym its_pending.name_is ∙ ap s.name (sym f)) i, y.1)))

    pub waits_no_more : IsWaitingOffer s (os ++ occurrence s e ∷ []) None
        ((knowledge_after (knowledge_of os) (length os) (s.name p) (Offered w d)).pending d)
    waits_no_more = subst (IsWaitingOffer s (os ++ occurrence s e ∷ []) None) (sym pending) tt
      where
        pending : (knowledge_after (knowledge_of os) (length os) (s.name p) (Offered w d)).pending d ≡ None
        pending =
            ap (λ x. (knowledge_after_offer (knowledge_of os) (s.name p) (length os) d x).pending d)
            its_pending.pending_is
            ∙ ap (λ x. cond x None ((knowledge_of os).pending d)) (channel_itself d)

    pub clocks_met : (c' : ℕ → ℕ → ℕ) → ((r q : ℕ) → IsAsked until (at + 1) q
        → c' r q ≡ clocks_after_meeting (clock_at b.clocks.items) p (number_at b.made.items p + 1) z.process
        (z.place + 1) r q)
        → (r q : ℕ) → r < s.processes → Asked q
        → c' r q ≡ clocks_after_entry (clocks_of os) (knowledge_of os) os (s.name p) (happening s e.event) (s.name r)
        (s.name q)
    clocks_met c' met r q a k =
        met r q k.1 ∙ met_gains (clock_at b.clocks.items) p (number_at b.made.items p + 1) z.process (z.place + 1) r q
        apart
        ∙ (λ i. cond (tz i) (max (cond (tp i) (max (x i) (whole i)) (x i)) (whole i))
        (cond (tp i) (max (x i) (whole i)) (x i)))
        ∙ sym (ap (λ f. f (s.name r) (s.name q)) (counted_is ∙ ap (clocks_after_offer (clocks_of os) os (s.name p))
        its_pending.pending_is))
      where
        tz : z.process == r ≡ same_name y.0 (s.name r)
        tz = same_process s lawful z.process r z_there a ∙ ap (λ n. same_name n (s.name r)) its_pending.name_is

        tp : p == r ≡ same_name (s.name p) (s.name r)
        tp = same_process s lawful p r this_there a

        x : clock_at b.clocks.items r q ≡ clocks_of os (s.name r) (s.name q)
        x = clock_is all nameable silent lawful at e inside until b h r q a k

        theirs_is : with_own (clock_at b.clocks.items) z.process (z.place + 1) q
            ≡ clock_of_waiter (clocks_of os) os y.0 y.1 (s.name q)
        theirs_is =
            let t : z.process == q ≡ same_name y.0 (s.name q) = same_process s lawful z.process q z_there k.0
            ∙ ap (λ n. same_name n (s.name q)) its_pending.name_is in
            let u : clock_at b.clocks.items z.process q ≡ clocks_of os y.0 (s.name q) =
            clock_is all nameable silent lawful at e inside until b h z.process q z_there k
            ∙ ap (λ n. clocks_of os n (s.name q)) its_pending.name_is in
            let v : z.place + 1 ≡ suc (count_of_entries (take y.1 os) y.0) = next_is_suc z.place _ its_pending.place_is
            in
            λ i. cond (t i) (max (u i) (v i)) (u i)

        whole : max (with_own (clock_at b.clocks.items) p (number_at b.made.items p + 1) q)
            (with_own (clock_at b.clocks.items) z.process (z.place + 1) q)
            ≡ merged_clock (clock_with_entry (clocks_of os) os (s.name p)) (clock_of_waiter (clocks_of os) os y.0 y.1)
            (s.name q)
        whole = λ i. max (own_is all nameable silent lawful at e inside until b h q k i) (theirs_is i)
