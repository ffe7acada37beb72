-- From the numbers of a nameable journal to the names that its entries give in the end.
use Rattle.std.proofs.Common.{◌≡◌, ◌≢◌, ⊎_elim, ℕ, zero, suc, ◌+◌, ◌-◌, ◌<◌, ◌≤◌, true, false, cond, max, ◌&&◌, ◌==◌}
use Rattle.std.proofs.Common.{nat_le, nat_lt, List, [], ◌∷◌, map, refl, sym, ap, ◌∙◌, subst, arith, eq-eqb}
use Rattle.std.proofs.lemmas.Bool.Decides.{nat_tests}
use Rattle.std.proofs.lemmas.Bool.{eqb-false, ne_eqb, false_from_ne_true}
use Rattle.sp_journal.specs.declared.entry.Entry.{Entry}
use Rattle.sp_journal.specs.declared.entry.Event.{Event}
use Rattle.sp_journal.specs.declared.entry.Event.TheVariants as event
use Rattle.sp_journal.specs.declared.entry.Opening.{Opening}
use Rattle.sp_journal.specs.declared.entry.Way.TheVariants as way
use Rattle.sp_journal.specs.Names.{Name, Channel, same_name, same_channel, Offered}
use Rattle.sp_journal.specs.Births.{Births, first_births, births_after_event, births_after_entry, births_from, births}
use Rattle.sp_journal.specs.Births.{channel, CanFollow}
use Rattle.sp_journal.specs.Births.{GivesNumbers, NameableFrom, happening, occurrence, occurrences_from}
use Rattle.sp_journal.proofs.Facts.{below, between}
use Rattle.sp_journal.proofs.BirthLaws.{Lawful, lawful_start, lawful_after, lawful}
use Rattle.sp_journal.proofs.NameLaws.{name_itself, name_is}
use Rattle.sp_race.proofs.Keys.{channel_itself, channel_is}
use Rattle.sp_race.specs.Counts.{with_merged_clock, with_children_merged}
use Rattle.sp_race.proofs.Tallies.{index_or_not}

-- what was given before is there after
pub record ExtendsBirths (s t : Births) : Type 0 where
  pub names : (q : ℕ) → q < s.processes → t.name q ≡ s.name q
  pub openings : (c : ℕ) → c < s.channels → t.opening c ≡ s.opening c
  pub processes : s.processes ≤ t.processes
  pub channels : s.channels ≤ t.channels

event_stays : (s : Births) (p : ℕ) (e : Event) → ExtendsBirths s (births_after_event s p e)
event_stays s p (event.Fork n) = record {
  names = λ q l. ap (λ b. cond b ((s.forks p, q - s.processes) ∷ s.name p) (s.name q))
      (below s.processes q (s.processes + n) l);
  openings = λ c l. refl;
  processes = omega arith;
  channels = omega arith;
}
event_stays s p event.Open = record {
  names = λ q l. refl;
  openings = λ c l. ap (λ b. cond b (record { owner = p; nth = s.opens p }) (s.opening c))
      (ne_eqb s.channels c (λ e. omega arith));
  processes = omega arith;
  channels = omega arith;
}
event_stays s p (event.Send c) = record {
  names = λ q l. refl;
  openings = λ d l. refl;
  processes = omega arith;
  channels = omega arith;
}
event_stays s p (event.Receive c) = record {
  names = λ q l. refl;
  openings = λ d l. refl;
  processes = omega arith;
  channels = omega arith;
}
event_stays s p event.End = record {
  names = λ q l. refl;
  openings = λ d l. refl;
  processes = omega arith;
  channels = omega arith;
}
event_stays s p (event.Fault f) = record {
  names = λ q l. refl;
  openings = λ d l. refl;
  processes = omega arith;
  channels = omega arith;
}
event_stays s p event.Laid = record {
  names = λ q l. refl;
  openings = λ d l. refl;
  processes = omega arith;
  channels = omega arith;
}
event_stays s p event.Pause = record {
  names = λ q l. refl;
  openings = λ d l. refl;
  processes = omega arith;
  channels = omega arith;
}

pub stays : (s : Births) (es : List Entry) → ExtendsBirths s (births_from s es)
stays s [] = record { names = λ q l. refl; openings = λ c l. refl; processes = omega arith; channels = omega arith }
stays s (e ∷ es) =
    let a = event_stays s e.process e.event in
    let b = stays (births_after_entry s e) es in
    let x = a.processes in
    let y = b.processes in
    let z = a.channels in
    let u = b.channels in
    record {
      names = λ q l. b.names q (omega arith) ∙ a.names q l;
      openings = λ c l. b.openings c (omega arith) ∙ a.openings c l;
      processes = omega arith;
      channels = omega arith;
    }

pub channel_stays : (s t : Births) → Lawful s → ExtendsBirths s t → (c : ℕ) → c < s.channels → channel s c ≡ channel t c
channel_stays s t lawful st c l =
    let o : s.opening c ≡ t.opening c = sym (st.openings c l) in
    let n : s.name (s.opening c).owner ≡ t.name (t.opening c).owner =
    sym (st.names (s.opening c).owner (lawful.owned c l)) ∙ ap (λ (x : Opening). t.name x.owner) o in
    λ i. record { owner = n i; nth = (o i).nth }

happening_stays : (s t : Births) → Lawful s → ExtendsBirths s t → (e : Entry) → CanFollow s e
    → happening s e.event ≡ happening t e.event
happening_stays s t lawful st e f = by e.event f.1
  where
    by : (v : Event) → GivesNumbers s e.process v → happening s v ≡ happening t v
    by (event.Fork n) g = refl
    by event.Open g = refl
    by (event.Send c) g = ap (Offered way.Send) (channel_stays s t lawful st c g)
    by (event.Receive c) g = ap (Offered way.Receive) (channel_stays s t lawful st c g)
    by event.End g = refl
    by (event.Fault x) g = refl
    by event.Laid g = refl
    by event.Pause g = refl

pub occurrence_stays : (s t : Births) → Lawful s → ExtendsBirths s t → (e : Entry) → CanFollow s e
    → occurrence s e ≡ occurrence t e
occurrence_stays s t lawful st e f =
    let n = sym (st.names e.process f.0) in
    let h = happening_stays s t lawful st e f in
    λ i. record { who = n i; what = h i }

-- the entries by the names that stand in the end
all_named_from : (s : Births) (es : List Entry) → Lawful s → NameableFrom s es
    → occurrences_from s es ≡ map (occurrence (births_from s es)) es
all_named_from s [] lawful f = refl
all_named_from s (e ∷ es) lawful f =
    let a = occurrence_stays s (births_from s (e ∷ es)) lawful (stays s (e ∷ es)) e f.0 in
    let r = all_named_from (births_after_entry s e) es (lawful_after s e lawful f.0) f.1 in
    λ i. a i ∷ r i

pub all_named : (es : List Entry) → NameableFrom first_births es
    → occurrences_from first_births es ≡ map (occurrence (births es)) es
all_named es f = all_named_from first_births es lawful_start f

-- tests of names are tests of numbers
module _ (s : Births) (lawful : Lawful s) where
  pub same_process : (p q : ℕ) → p < s.processes → q < s.processes → p == q ≡ same_name (s.name p) (s.name q)
  same_process p q l h = ⊎_elim
      (λ (e : p ≡ q). eq-eqb p q e ∙ sym (subst (λ r. same_name (s.name p) (s.name r) ≡ true) e
      (name_itself (s.name p))))
      (λ (d : p == q ≡ false). d ∙ sym (false_from_ne_true (same_name (s.name p) (s.name q))
      (λ e. eqb-false p q d (lawful.one_name p q l h (name_is (s.name p) (s.name q) e)))))
      (index_or_not p q)

  pub one_channel : (c d : ℕ) → c < s.channels → d < s.channels → channel s c ≡ channel s d → c ≡ d
  one_channel c d l h e =
      let owners = lawful.one_name (s.opening c).owner (s.opening d).owner (lawful.owned c l) (lawful.owned d h)
      (ap (λ (x : Channel). x.owner) e) in
      let nths : (s.opening c).nth ≡ (s.opening d).nth = ap (λ (x : Channel). x.nth) e in
      lawful.one_opening c d l h (λ i. record { owner = owners i; nth = nths i })

  pub same_chan : (c d : ℕ) → c < s.channels → d < s.channels → c == d ≡ same_channel (channel s c) (channel s d)
  same_chan c d l h = ⊎_elim
      (λ (e : c ≡ d). eq-eqb c d e ∙ sym (subst (λ r. same_channel (channel s c) (channel s r) ≡ true) e
      (channel_itself (channel s c))))
      (λ (n : c == d ≡ false). n ∙ sym (false_from_ne_true (same_channel (channel s c) (channel s d))
      (λ e. eqb-false c d n (one_channel c d l h (channel_is (channel s c) (channel s d) e)))))
      (index_or_not c d)

  -- the children of a fork learn
  module _ (p fork first k : ℕ) (fits : first + k ≤ s.processes)
      (child : (i : ℕ) → i < k → s.name (first + i) ≡ (fork, i) ∷ s.name p) (A : ℕ → Type 0) (clock : Name → ℕ)
      (known : ℕ → ℕ) (knows : (q : ℕ) → A q → known q ≡ clock (s.name q)) where
    pub shares_is : (n i : ℕ) → i + n ≤ k → (count : Name → Name → ℕ) (c : ℕ → ℕ → ℕ)
        → ((r q : ℕ) → r < s.processes → A q → c r q ≡ count (s.name r) (s.name q))
        → (r q : ℕ) → r < s.processes → A q → cond (nat_le (first + i) r && nat_lt r ((first + i) + n))
        (max (c r q) (known q)) (c r q) ≡ with_children_merged (s.name p) fork clock i n count (s.name r) (s.name q)
    shares_is zero i room count c is r q a b = ap (λ x. cond x (max (c r q) (known q)) (c r q)) (nothing (first + i) r)
        ∙ is r q a b
      where
        nothing : (a r : ℕ) → nat_le a r && nat_lt r (a + 0) ≡ false
        nothing a r = grind (arith, nat_tests)
    shares_is (suc n) i room count c is r q a b =
        step ∙ shares_is n (suc i) (omega arith) (with_merged_clock ((fork, i) ∷ s.name p) clock count) c' is' r q a b
      where
        c' : ℕ → ℕ → ℕ
        c' r q = cond (first + i == r) (max (c r q) (known q)) (c r q)

        is' : (r q : ℕ) → r < s.processes → A q
            → c' r q ≡ with_merged_clock ((fork, i) ∷ s.name p) clock count (s.name r) (s.name q)
        is' r q a b =
            let t : first + i == r ≡ same_name ((fork, i) ∷ s.name p) (s.name r) =
            same_process (first + i) r (omega arith) a ∙ ap (λ x. same_name x (s.name r)) (child i (omega arith)) in
            let x = is r q a b in
            let y = knows q b in
            λ j. cond (t j) (max (x j) (y j)) (x j)

        at_one : (f i n r : ℕ) → f + i ≡ r → nat_le (f + i) r && nat_lt r ((f + i) + suc n) ≡ true
        at_one f i n r e = grind (arith, nat_tests)

        past_one : (f i n r : ℕ) → f + i ≡ r → nat_le (f + suc i) r && nat_lt r ((f + suc i) + n) ≡ false
        past_one f i n r e = grind (arith, nat_tests)

        others : (f i n r : ℕ) → f + i ≢ r → nat_le (f + i) r && nat_lt r ((f + i) + suc n) ≡ nat_le (f + suc i) r
            && nat_lt r ((f + suc i) + n)
        others f i n r d = grind (arith, nat_tests)

        step : cond (nat_le (first + i) r && nat_lt r ((first + i) + suc n)) (max (c r q) (known q)) (c r q)
            ≡ cond (nat_le (first + suc i) r && nat_lt r ((first + suc i) + n)) (max (c' r q) (known q)) (c' r q)
        step = ⊎_elim
            (λ (e : first + i ≡ r).
            ap (λ x. cond x (max (c r q) (known q)) (c r q)) (at_one first i n r e)
            ∙ sym (ap (λ x. cond x (max (c' r q) (known q)) (c' r q)) (past_one first i n r e)
            ∙ ap (λ x. cond x (max (c r q) (known q)) (c r q)) (eq-eqb (first + i) r e)))
            (λ (d : first + i == r ≡ false).
            let z : c r q ≡ c' r q = sym (ap (λ x. cond x (max (c r q) (known q)) (c r q)) d) in
            let o = others first i n r (eqb-false (first + i) r d) in
            λ j. cond (o j) (max (z j) (known q)) (z j))
            (index_or_not (first + i) r)

-- the names of the children of a fork
pub children_named : (s t : Births) (p n : ℕ) → p < s.processes → ExtendsBirths s t
    → ExtendsBirths (births_after_event s p (event.Fork n)) t
    → (i : ℕ) → i < n → t.name (s.processes + i) ≡ (s.forks p, i) ∷ t.name p
children_named s t p n there st after i l =
    after.names (s.processes + i) (omega arith)
    ∙ ap (λ b. cond b ((s.forks p, (s.processes + i) - s.processes) ∷ s.name p) (s.name (s.processes + i)))
    (between s.processes (s.processes + i) (s.processes + n) (omega arith) (omega arith))
    ∙ (λ j. (s.forks p, gone s.processes i j) ∷ sym (st.names p there) j)
  where
    gone : (a b : ℕ) → (a + b) - a ≡ b
    gone a b = omega arith
