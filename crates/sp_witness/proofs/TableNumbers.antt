-- Numbering by tables gives the entries of a nameable journal with the same names.
use Rattle.std.proofs.Common.{◌≡◌, ◌≢◌, ⊎_elim, ℕ, ◌+◌, ◌-◌, ◌<◌, ◌≤◌, Bool, true, false, cond, ◌==◌, List, [], ◌∷◌}
use Rattle.std.proofs.Common.{◌++◌, map, eqb-true, eq-eqb, refl, sym, ap, ◌∙◌, subst, arith}
use Rattle.std.proofs.lemmas.Bool.{cases_lt, eqb-false, true≢false}
use Rattle.sp_base.proofs.Facts.{cons_is_not_nil, nil_is_not_cons, same_head, same_tail}
use Rattle.sp_journal.specs.declared.entry.Event.{Event}
use Rattle.sp_journal.specs.declared.entry.Event.TheVariants as event
use Rattle.sp_journal.specs.declared.entry.Entry.{Entry}
use Rattle.sp_journal.specs.declared.entry.Way.TheVariants as way
use Rattle.sp_journal.specs.Maps.{at_key}
use Rattle.sp_journal.specs.Names.{Channel, Forked, Offered, Faulted, Occurrence}
use Rattle.sp_journal.specs.Births.{Births, births_after_event, births_after_entry, births_from, channel, CanFollow}
use Rattle.sp_journal.specs.Births.{GivesNumbers}
use Rattle.sp_journal.specs.Births.{NameableFrom, happening, occurrence, occurrences_from}
use Rattle.sp_journal.proofs.Facts.{below, between}
use Rattle.sp_journal.proofs.BirthLaws.{Lawful, lawful_after}
use Rattle.sp_race.proofs.Numbers.{ExtendsBirths, stays, one_channel, channel_stays, children_named}
use Rattle.sp_witness.specs.TableNumbers.{IsPlain, Table, renumbered_event, renumbered_entry, table_after}
use Rattle.sp_witness.specs.TableNumbers.{marked_entries}
use Rattle.sp_witness.specs.TableNumbers.{renumbered_entries, table_of}
use Rattle.sp_witness.specs.TableNumbers.{IsOwnFront}

-- who is not there yet has made nothing
abbrev pub IsBlank : Births → Type 0
IsBlank s = (q : ℕ) → s.processes ≤ q → (s.forks q ≡ 0) × (s.opens q ≡ 0)

-- the number that an old one has now, as a witness of the new one
pub record Origin (t s' : Births) (m : Table) (s : Births) (r : ℕ) : Type 0 where
  pub old : ℕ
  pub there : old < s.processes
  pub process_is : m.process old ≡ r
  pub name : t.name old ≡ s'.name r

pub record Source (t s' : Births) (m : Table) (s : Births) (d : ℕ) : Type 0 where
  pub old : ℕ
  pub there : old < s.channels
  pub channel_is : m.channel old ≡ d
  pub name : channel t old ≡ channel s' d

-- s is what the run has given so far, s' what the new entries have given, t what the whole run gives
pub record TableFollows (t s s' : Births) (m : Table) (dirty : ℕ → Bool) : Type 0 where
  pub lawful : Lawful s
  pub lawful_new : Lawful s'
  pub blank : IsBlank s
  pub blank_new : IsBlank s'
  pub processes : m.processes ≡ s'.processes
  pub channels : m.channels ≡ s'.channels
  pub origin : (r : ℕ) → r < s'.processes → Origin t s' m s r
  pub source : (d : ℕ) → d < s'.channels → Source t s' m s d
  pub made : (q r : ℕ) → q < s.processes → r < s'.processes → t.name q ≡ s'.name r → dirty q ≡ false
      → (s'.forks r ≡ s.forks q) × (s'.opens r ≡ s.opens q)

-- a mark for each entry
abbrev pub AreMarks : List Entry → List Bool → Type 0
AreMarks [] [] = Unit {0}
AreMarks [] (b ∷ marks) = ⊥
AreMarks (e ∷ es) [] = ⊥
AreMarks (e ∷ es) (b ∷ marks) = AreMarks es marks

abbrev pub ArePlain : Births → List Entry → Type 0
ArePlain s [] = Unit {0}
ArePlain s (e ∷ es) = CanFollow s e × IsPlain e.event × ArePlain s es

module _ (t : Births) (law : Lawful t) where
  -- a new entry with the name of an old one has its moved numbers
  module _ (s s' : Births) (m : Table) (dirty : ℕ → Bool) (f : TableFollows t s s' m dirty) (stay : ExtendsBirths s t)
      (e e' : Entry)
      (can : CanFollow s e) (can' : CanFollow s' e') (same : occurrence s' e' ≡ occurrence t e) where
    there : e.process < t.processes
    there = let a = can.0 in let b = stay.processes in omega (arith, a, b)

    name_is : t.name e.process ≡ s'.name e'.process
    name_is = ap (λ (o : Occurrence). o.who) (sym same)

    process_is : m.process e.process ≡ e'.process
    process_is =
        let o = f.origin e'.process can'.0 in
        let a = o.there in
        let b = stay.processes in
        let is : o.old ≡ e.process = law.one_name o.old e.process (omega (arith, a, b)) there (o.name ∙ sym name_is) in
        ap m.process (sym is) ∙ o.process_is

    channel_is : (c d : ℕ) → c < s.channels → d < s'.channels → channel s' d ≡ channel t c → m.channel c ≡ d
    channel_is c d l k h =
        let o = f.source d k in
        let a = o.there in
        let b = stay.channels in
        let is : o.old ≡ c = one_channel t law o.old c (omega (arith, a, b)) (omega (arith, l, b)) (o.name ∙ h) in
        ap m.channel (sym is) ∙ o.channel_is

    event_is : renumbered_event m e.event ≡ e'.event
    event_is = by e.event e'.event can.1 can'.1 (ap (λ (o : Occurrence). o.what) same)
      where
        by : (v v' : Event) → GivesNumbers s e.process v → GivesNumbers s' e'.process v'
            → happening s' v' ≡ happening t v → renumbered_event m v ≡ v'
        by (event.Send c) (event.Send d) l k h = ap (λ x. event.Send x) (channel_is c d l k (offered h))
          where
            offered : {a b : Channel} → Offered way.Send a ≡ Offered way.Send b → a ≡ b
            offered z = cc
        by (event.Receive c) (event.Receive d) l k h = ap (λ x. event.Receive x) (channel_is c d l k (offered h))
          where
            offered : {a b : Channel} → Offered way.Receive a ≡ Offered way.Receive b → a ≡ b
            offered z = cc
        by (event.Fork n) (event.Fork k) l p h = ap (λ x. event.Fork x) (sym (forked h))
          where
            forked : {a b : ℕ} → Forked a ≡ Forked b → a ≡ b
            forked z = cc
        by event.Open event.Open l k h = refl
        by event.End event.End l k h = refl
        by (event.Fault x) (event.Fault y) l k h = ap (λ z. event.Fault z) (sym (faulted h))
          where
            faulted : Faulted y ≡ Faulted x → y ≡ x
            faulted z = cc
        by event.Laid event.Laid l k h = refl
        by event.Pause event.Pause l k h = refl
        by v v' l k h = absurd (cc h)

    pub moved_is : renumbered_entry m e ≡ e'
    moved_is = λ i. record { process = process_is i; event = event_is i }

  -- what stays where the run has given more, and the witness not
  module _ (s : Births) (blank : IsBlank s) (e : Entry) (can : CanFollow s e) where
    blank_after : IsBlank (births_after_entry s e)
    blank_after q le = by e.event
      where
        more : q ≢ e.process
        more is = let a = can.0 in let b = grown in omega (arith, is, a, b, le)
          where
            grown : s.processes ≤ (births_after_entry s e).processes
            grown = (stays s (e ∷ [])).processes

        room : s.processes ≤ q
        room = let b = (stays s (e ∷ [])).processes in omega (arith, b, le)

        other : (x : ℕ) → cond (e.process == q) x 0 ≡ 0
        other x = by_test (e.process == q) refl
          where
            by_test : (b : Bool) → e.process == q ≡ b → cond b x 0 ≡ 0
            by_test true h = absurd (more (sym (eqb-true e.process q h)))
            by_test false h = refl

        base : (s.forks q ≡ 0) × (s.opens q ≡ 0)
        base = blank q room

        by : (v : Event) → ((births_after_event s e.process v).forks q ≡ 0)
            × ((births_after_event s e.process v).opens q ≡ 0)
        by (event.Fork n) = (
          ap (λ z. cond (e.process == q) (s.forks e.process + 1) z) base.0
              ∙ other (s.forks e.process + 1),
          base.1,
        )
        by event.Open = (
          base.0,
          ap (λ z. cond (e.process == q) (s.opens e.process + 1) z) base.1
              ∙ other (s.opens e.process + 1),
        )
        by (event.Send c) = base
        by (event.Receive c) = base
        by event.End = base
        by (event.Fault x) = base
        by event.Laid = base
        by event.Pause = base

    -- another process has made as much as before
    others_made : (q : ℕ) → q ≢ e.process
        → ((births_after_entry s e).forks q ≡ s.forks q) × ((births_after_entry s e).opens q ≡ s.opens q)
    others_made q apart = by e.event
      where
        other : (x y : ℕ) → cond (e.process == q) x y ≡ y
        other x y = by_test (e.process == q) refl
          where
            by_test : (b : Bool) → e.process == q ≡ b → cond b x y ≡ y
            by_test true h = absurd (apart (sym (eqb-true e.process q h)))
            by_test false h = refl

        by : (v : Event) → ((births_after_event s e.process v).forks q ≡ s.forks q)
            × ((births_after_event s e.process v).opens q ≡ s.opens q)
        by (event.Fork n) = (other (s.forks e.process + 1) (s.forks q), refl)
        by event.Open = (refl, other (s.opens e.process + 1) (s.opens q))
        by _ = (refl, refl)

  -- an entry that is not picked
  module _ (s s' : Births) (m : Table) (dirty : ℕ → Bool) (f : TableFollows t s s' m dirty) (e : Entry)
      (can : CanFollow s e)
      (after : ExtendsBirths (births_after_entry s e) t) where
    more : ExtendsBirths s (births_after_entry s e)
    more = stays s (e ∷ [])

    pub passed_by : TableFollows t (births_after_entry s e) s' m (at_key ◌==◌ e.process true dirty)
    passed_by = record {
      lawful = lawful_after s e f.lawful can;
      lawful_new = f.lawful_new;
      blank = blank_after s f.blank e can;
      blank_new = f.blank_new;
      processes = f.processes;
      channels = f.channels;
      origin = λ r l. let o = f.origin r l in let a = o.there in let b = more.processes in
          record { old = o.old; there = omega (arith, a, b); process_is = o.process_is; name = o.name };
      source = λ d l. let o = f.source d l in let a = o.there in let b = more.channels in
          record { old = o.old; there = omega (arith, a, b); channel_is = o.channel_is; name = o.name };
      made = λ q r l k is clean.
          let parts = apart q clean in
          let o = f.origin r k in
          let a = o.there in
          let b = more.processes in
          let c = after.processes in
          let same : o.old ≡ q =
          law.one_name o.old q (omega (arith, a, b, c)) (omega (arith, l, c)) (o.name ∙ sym is) in
          let x = others_made s f.blank e can q parts.0 in
          let y = f.made q r (subst (λ z. z < s.processes) same o.there) k is parts.1 in
          (y.0 ∙ sym x.0, y.1 ∙ sym x.1);
    }
      where
        apart : (q : ℕ) → at_key ◌==◌ e.process true dirty q ≡ false → (q ≢ e.process) × (dirty q ≡ false)
        apart q h = by (e.process == q) refl h
          where
            by : (b : Bool) → e.process == q ≡ b → cond b true (dirty q) ≡ false → (q ≢ e.process) × (dirty q ≡ false)
            by true i h = absurd (cc h)
            by false i h = (λ g. absurd (true≢false (sym (eq-eqb e.process q (sym g)) ∙ i)), h)

  -- an entry that is picked
  module _ (s s' : Births) (m : Table) (dirty : ℕ → Bool) (f : TableFollows t s s' m dirty) (stay : ExtendsBirths s t)
      (e : Entry)
      (can : CanFollow s e) (after : ExtendsBirths (births_after_entry s e) t)
      (can' : CanFollow s' (renumbered_entry m e))
      (name_same : t.name e.process ≡ s'.name (m.process e.process)) (clean : dirty e.process ≡ false) where
    abbrev e' : Entry
    e' = renumbered_entry m e

    abbrev s1 : Births
    s1 = births_after_entry s e

    abbrev s1' : Births
    s1' = births_after_entry s' e'

    abbrev m1 : Table
    m1 = table_after s m e.event

    grown : ExtendsBirths s s1
    grown = stays s (e ∷ [])

    grown' : ExtendsBirths s' s1'
    grown' = stays s' (e' ∷ [])

    itself : ExtendsBirths s1' s1'
    itself = stays s1' []

    counts : (s'.forks e'.process ≡ s.forks e.process) × (s'.opens e'.process ≡ s.opens e.process)
    counts = f.made e.process e'.process can.0 can'.0 name_same clean

    processes_after : m1.processes ≡ s1'.processes
    processes_after = by e.event
      where
        by : (v : Event) → (table_after s m v).processes
            ≡ (births_after_event s' e'.process (renumbered_event m v)).processes
        by (event.Fork n) = ap (λ z. z + n) f.processes
        by event.Open = f.processes
        by (event.Send c) = f.processes
        by (event.Receive c) = f.processes
        by event.End = f.processes
        by (event.Fault x) = f.processes
        by event.Laid = f.processes
        by event.Pause = f.processes

    channels_after : m1.channels ≡ s1'.channels
    channels_after = by e.event
      where
        by : (v : Event) → (table_after s m v).channels
            ≡ (births_after_event s' e'.process (renumbered_event m v)).channels
        by (event.Fork n) = f.channels
        by event.Open = ap (λ z. z + 1) f.channels
        by (event.Send c) = f.channels
        by (event.Receive c) = f.channels
        by event.End = f.channels
        by (event.Fault x) = f.channels
        by event.Laid = f.channels
        by event.Pause = f.channels

    -- numbers that were there stay
    old_process : (q : ℕ) → q < s.processes → m1.process q ≡ m.process q
    old_process q l = by e.event
      where
        by : (v : Event) → (table_after s m v).process q ≡ m.process q
        by (event.Fork n) = ap (λ b. cond b (m.processes + (q - s.processes)) (m.process q))
            (below s.processes q (s.processes + n) l)
        by event.Open = refl
        by (event.Send c) = refl
        by (event.Receive c) = refl
        by event.End = refl
        by (event.Fault x) = refl
        by event.Laid = refl
        by event.Pause = refl

    -- a new process of the witness is a new one of the run
    record NewOrigin (r : ℕ) : Type 0 where
      old : ℕ
      fresh : s.processes ≤ old
      there : old < s1.processes
      is : m1.process old ≡ r
      name : t.name old ≡ s1'.name r

    new_origin : (r : ℕ) → s'.processes ≤ r → r < s1'.processes → NewOrigin r
    new_origin r le lt = by e.event refl can.1 can'.1 after grown' itself lt
      where
        by : (v : Event) → e.event ≡ v → GivesNumbers s e.process v → GivesNumbers s' e'.process (renumbered_event m v)
            → ExtendsBirths (births_after_event s e.process v) t
            → ExtendsBirths s' (births_after_event s' e'.process (renumbered_event m v))
            → ExtendsBirths (births_after_event s' e'.process (renumbered_event m v))
            (births_after_event s' e'.process (renumbered_event m v))
            → r < (births_after_event s' e'.process (renumbered_event m v)).processes → NewOrigin r
        by (event.Fork n) is given given' st gr it l =
            let i : ℕ = r - s'.processes in
            let small : i < n = omega (arith, le, l) in
            let r_is : s'.processes + i ≡ r = omega (arith, le) in
            let k : (s.processes + i) - s.processes ≡ i = omega arith in
            let moved_to : (table_after s m (event.Fork n)).process (s.processes + i) ≡ r =
            ap (λ b. cond b (m.processes + ((s.processes + i) - s.processes)) (m.process (s.processes + i)))
            (between s.processes (s.processes + i) (s.processes + n) (omega arith) (omega (arith, small)))
            ∙ (λ x. f.processes x + k x) ∙ r_is in
            let one = children_named s t e.process n can.0 stay st i small in
            let two = children_named s' (births_after_event s' e'.process (event.Fork n)) e'.process n can'.0 gr it i
            small in
            let p' : (births_after_event s' e'.process (event.Fork n)).name e'.process ≡ s'.name e'.process =
            gr.names e'.process can'.0 in
            let named : t.name (s.processes + i) ≡ (births_after_event s' e'.process (event.Fork n)).name r =
            one ∙ (λ x. (sym counts.0 x, i) ∷ (name_same ∙ sym p') x) ∙ sym two
            ∙ ap (births_after_event s' e'.process (event.Fork n)).name r_is in
            record {
              old = s.processes + i;
              fresh = omega arith;
              there = subst (λ v. s.processes + i < (births_after_event s e.process v).processes) (sym is)
                  (omega (arith, small));
              is = subst (λ v. (table_after s m v).process (s.processes + i) ≡ r) (sym is) moved_to;
              name = subst (λ v. t.name (s.processes + i)
                  ≡ (births_after_event s' e'.process (renumbered_event m v)).name r)
                  (sym is) named;
            }
        by event.Open is given given' st gr it l = absurd (omega (arith, le, l))
        by (event.Send c) is given given' st gr it l = absurd (omega (arith, le, l))
        by (event.Receive c) is given given' st gr it l = absurd (omega (arith, le, l))
        by event.End is given given' st gr it l = absurd (omega (arith, le, l))
        by (event.Fault x) is given given' st gr it l = absurd (omega (arith, le, l))
        by event.Laid is given given' st gr it l = absurd (omega (arith, le, l))
        by event.Pause is given given' st gr it l = absurd (omega (arith, le, l))

    origin_after : (r : ℕ) → r < s1'.processes → Origin t s1' m1 s1 r
    origin_after r lt = ⊎_elim
        (λ (l : r < s'.processes).
        let o = f.origin r l in
        let a = o.there in
        let b = grown.processes in
        record {
          old = o.old;
          there = omega (arith, a, b);
          process_is = old_process o.old o.there ∙ o.process_is;
          name = o.name
              ∙ sym (grown'.names r l);
        })
        (λ (l : s'.processes ≤ r). let o = new_origin r l lt in
        record { old = o.old; there = o.there; process_is = o.is; name = o.name })
        (cases_lt r s'.processes)

    source_after : (d : ℕ) → d < s1'.channels → Source t s1' m1 s1 d
    source_after d lt = by e.event refl can.1 can'.1 lt
      where
        channel_kept : (c : ℕ) → c < s'.channels → channel s' c ≡ channel s1' c
        channel_kept c l = channel_stays s' s1' f.lawful_new grown' c l

        old_source : d < s'.channels → ((c : ℕ) → c < s.channels → m1.channel c ≡ m.channel c) → Source t s1' m1 s1 d
        old_source l same =
            let o = f.source d l in
            let a = o.there in
            let b = grown.channels in
            record {
              old = o.old;
              there = omega (arith, a, b);
              channel_is = same o.old o.there ∙ o.channel_is;
              name = o.name
                  ∙ channel_kept d l;
            }

        by : (v : Event) → e.event ≡ v → GivesNumbers s e.process v → GivesNumbers s' e'.process (renumbered_event m v)
            → d < (births_after_event s' e'.process (renumbered_event m v)).channels → Source t s1' m1 s1 d
        by event.Open is given given' l = ⊎_elim
            (λ (k : d < s'.channels). old_source k
            (λ c b. subst (λ v. (table_after s m v).channel c ≡ m.channel c) (sym is) (at_old c b)))
            (λ (k : s'.channels ≤ d).
            let d_is : s'.channels ≡ d = omega (arith, k, l) in
            let here : s.channels == s.channels ≡ true = eq-eqb s.channels s.channels refl in
            let here' : s'.channels == s'.channels ≡ true = eq-eqb s'.channels s'.channels refl in
            let law1 : Lawful (births_after_event s e.process event.Open) =
            subst (λ v. Lawful (births_after_event s e.process v)) is (lawful_after s e f.lawful can) in
            let st : ExtendsBirths (births_after_event s e.process event.Open) t =
            subst (λ v. ExtendsBirths (births_after_event s e.process v) t) is after in
            let one : channel (births_after_event s e.process event.Open) s.channels
            ≡ record { owner = s.name e.process; nth = s.opens e.process } =
            (λ i. record {
              owner =
                  s.name (cond (here i) (record { owner = e.process; nth = s.opens e.process })
                  (s.opening s.channels)).owner;
              nth =
                  (cond (here i) (record { owner = e.process; nth = s.opens e.process }) (s.opening s.channels)).nth;
            }) in
            let two : channel (births_after_event s' e'.process event.Open) s'.channels
            ≡ record { owner = s'.name e'.process; nth = s'.opens e'.process } =
            (λ i. record {
              owner =
                  s'.name (cond (here' i) (record { owner = e'.process; nth = s'.opens e'.process })
                  (s'.opening s'.channels)).owner;
              nth =
                  (cond (here' i) (record { owner = e'.process; nth = s'.opens e'.process })
                  (s'.opening s'.channels)).nth;
            }) in
            let same : channel t s.channels ≡ channel (births_after_event s' e'.process event.Open) s'.channels =
            sym (channel_stays (births_after_event s e.process event.Open) t law1 st s.channels (omega arith)) ∙ one
            ∙ (λ i. record { owner = (sym (stay.names e.process can.0) ∙ name_same) i; nth = sym counts.1 i })
            ∙ sym two in
            record {
              old = s.channels;
              there = subst (λ v. s.channels < (births_after_event s e.process v).channels) (sym is) (omega arith);
              channel_is = subst (λ v. (table_after s m v).channel s.channels ≡ d) (sym is)
                  (ap (λ b. cond b m.channels (m.channel s.channels)) here ∙ f.channels ∙ d_is);
              name = subst (λ v. channel t s.channels
                  ≡ channel (births_after_event s' e'.process (renumbered_event m v)) d)
                  (sym is) (same ∙ ap (channel (births_after_event s' e'.process event.Open)) d_is);
            })
            (cases_lt d s'.channels)
          where
            at_old : (c : ℕ) → c < s.channels → cond (s.channels == c) m.channels (m.channel c) ≡ m.channel c
            at_old c b = by_test (s.channels == c) refl
              where
                by_test : (x : Bool) → s.channels == c ≡ x → cond x m.channels (m.channel c) ≡ m.channel c
                by_test true h = let z = eqb-true s.channels c h in absurd (omega (arith, z, b))
                by_test false h = refl
        by _ is _ _ l = old_source l (λ c b. subst (λ v. (table_after s m v).channel c ≡ m.channel c) (sym is) refl)

    blank_after_new : IsBlank s1'
    blank_after_new = blank_after s' f.blank_new e' can'

    law_new : Lawful s1'
    law_new = lawful_after s' e' f.lawful_new can'

    -- both have made one thing more
    own_made : ((s1'.forks e'.process) ≡ s1.forks e.process) × (s1'.opens e'.process ≡ s1.opens e.process)
    own_made = by e.event
      where
        here : e.process == e.process ≡ true
        here = eq-eqb e.process e.process refl

        here' : e'.process == e'.process ≡ true
        here' = eq-eqb e'.process e'.process refl

        by : (v : Event) → ((births_after_event s' e'.process (renumbered_event m v)).forks e'.process
            ≡ (births_after_event s e.process v).forks e.process)
            × ((births_after_event s' e'.process (renumbered_event m v)).opens e'.process
            ≡ (births_after_event s e.process v).opens e.process)
        by (event.Fork n) = (
          ap (λ b. cond b (s'.forks e'.process + 1) (s'.forks e'.process)) here' ∙ ap (λ z. z + 1) counts.0
              ∙ sym (ap (λ b. cond b (s.forks e.process + 1) (s.forks e.process)) here),
          counts.1,
        )
        by event.Open = (
          counts.0,
          ap (λ b. cond b (s'.opens e'.process + 1) (s'.opens e'.process)) here' ∙ ap (λ z. z + 1) counts.1
              ∙ sym (ap (λ b. cond b (s.opens e.process + 1) (s.opens e.process)) here),
        )
        by (event.Send c) = counts
        by (event.Receive c) = counts
        by event.End = counts
        by (event.Fault x) = counts
        by event.Laid = counts
        by event.Pause = counts

    inside : e.process < t.processes
    inside = let a = can.0 in let b = stay.processes in omega (arith, a, b)

    name_after : t.name e.process ≡ s1'.name e'.process
    name_after = name_same ∙ sym (grown'.names e'.process can'.0)

    made_after : (q r : ℕ) → q < s1.processes → r < s1'.processes → t.name q ≡ s1'.name r → dirty q ≡ false
        → (s1'.forks r ≡ s1.forks q) × (s1'.opens r ≡ s1.opens q)
    made_after q r l k is ok = by_own (q == e.process) refl
      where
        q_in : q < t.processes
        q_in = let b = after.processes in omega (arith, l, b)

        p'_in : e'.process < s1'.processes
        p'_in = let a = can'.0 in let b = grown'.processes in omega (arith, a, b)

        others : q ≢ e.process → (s1'.forks r ≡ s1.forks q) × (s1'.opens r ≡ s1.opens q)
        others apart =
            let apart' : r ≢ e'.process =
            λ g. apart (law.one_name q e.process q_in inside (is ∙ ap s1'.name g ∙ sym name_after)) in
            let x = others_made s f.blank e can q apart in
            let y = others_made s' f.blank_new e' can' r apart' in
            let base = ⊎_elim
            (λ (old : r < s'.processes).
            let o = f.origin r old in
            let a = o.there in
            let b = stay.processes in
            let same : o.old ≡ q =
            law.one_name o.old q (omega (arith, a, b)) q_in (o.name ∙ sym (grown'.names r old) ∙ sym is) in
            f.made q r (subst (λ z. z < s.processes) same o.there) old (is ∙ grown'.names r old) ok)
            (λ (fresh : s'.processes ≤ r).
            let o = new_origin r fresh k in
            let a = o.there in
            let b = after.processes in
            let same : o.old ≡ q = law.one_name o.old q (omega (arith, a, b)) q_in (o.name ∙ sym is) in
            let u = f.blank q (subst (λ z. s.processes ≤ z) same o.fresh) in
            let v = f.blank_new r fresh in
            (v.0 ∙ sym u.0, v.1 ∙ sym u.1))
            (cases_lt r s'.processes) in
            (y.0 ∙ base.0 ∙ sym x.0, y.1 ∙ base.1 ∙ sym x.1)

        by_own : (b : Bool) → q == e.process ≡ b → (s1'.forks r ≡ s1.forks q) × (s1'.opens r ≡ s1.opens q)
        by_own true h =
            let q_is : q ≡ e.process = eqb-true q e.process h in
            let r_is : r ≡ e'.process =
            law_new.one_name r e'.process k p'_in (sym is ∙ ap t.name q_is ∙ name_after) in (
              ap s1'.forks r_is ∙ own_made.0 ∙ ap s1.forks (sym q_is),
              ap s1'.opens r_is ∙ own_made.1
                  ∙ ap s1.opens (sym q_is),
            )
        by_own false h = others (eqb-false q e.process h)

    pub picked_by : TableFollows t s1 s1' m1 dirty
    picked_by = record {
      lawful = lawful_after s e f.lawful can;
      lawful_new = law_new;
      blank = blank_after s f.blank e can;
      blank_new = blank_after_new;
      processes = processes_after;
      channels = channels_after;
      origin = origin_after;
      source = source_after;
      made = made_after;
    }

  -- what is left of the new entries after the marked ones
  pub record RestOfEntries (s s' : Births) (m : Table) (es : List Entry) (marks : List Bool) (new : List Entry)
      (extra : List Occurrence) : Type 0 where
    pub left : List Entry
    pub whole : new ≡ renumbered_entries s m es marks ++ left
    pub births_new : Births
    pub dirty : ℕ → Bool
    pub follows : TableFollows t (births_from s es) births_new (table_of s m es marks) dirty
    pub nameable : NameableFrom births_new left
    pub names : occurrences_from births_new left ≡ extra

  pub numbers_move : (es rest : List Entry) (marks : List Bool) (s s' : Births) (m : Table) (dirty : ℕ → Bool)
      (new : List Entry) (extra : List Occurrence) → AreMarks es marks → births_from s (es ++ rest) ≡ t
      → NameableFrom s (es ++ rest) → TableFollows t s s' m dirty → IsOwnFront dirty es marks
      → NameableFrom s' new → occurrences_from s' new ≡ map (occurrence t) (marked_entries es marks) ++ extra
      → RestOfEntries s s' m es marks new extra
  numbers_move [] rest [] s s' m dirty new extra ok whole named f own named' names =
      record { left = new; whole = refl; births_new = s'; dirty = dirty; follows = f; nameable = named'; names = names }
  numbers_move [] rest (b ∷ marks) s s' m dirty new extra ok whole named f own named' names = absurd ok
  numbers_move (e ∷ es) rest [] s s' m dirty new extra ok whole named f own named' names = absurd ok
  numbers_move (e ∷ es) rest (true ∷ marks) s s' m dirty [] extra ok whole named f own named' names =
      absurd (nil_is_not_cons names)
  numbers_move (e ∷ es) rest (true ∷ marks) s s' m dirty (x ∷ new) extra ok whole named f own named' names =
      let stay : ExtendsBirths s t = subst (ExtendsBirths s) whole (stays s (e ∷ (es ++ rest))) in
      let after : ExtendsBirths (births_after_entry s e) t =
      subst (ExtendsBirths (births_after_entry s e)) whole (stays (births_after_entry s e) (es ++ rest)) in
      let same : occurrence s' x ≡ occurrence t e = same_head names in
      let is : renumbered_entry m e ≡ x = moved_is s s' m dirty f stay e x named.0 named'.0 same in
      let can' : CanFollow s' (renumbered_entry m e) = subst (CanFollow s') (sym is) named'.0 in
      let name_same : t.name e.process ≡ s'.name (m.process e.process) = ap (λ (o : Occurrence). o.who) (sym same)
      ∙ ap (λ (z : Entry). s'.name z.process) (sym is) in
      let g = picked_by s s' m dirty f stay e named.0 after can' name_same own.0 in
      let r = numbers_move es rest marks (births_after_entry s e) (births_after_entry s' (renumbered_entry m e))
      (table_after s m e.event)
      dirty new extra ok whole named.1 g own.1
      (subst (λ z. NameableFrom (births_after_entry s' z) new) (sym is) named'.1)
      (subst (λ z. occurrences_from (births_after_entry s' z) new ≡ map (occurrence t) (marked_entries es marks)
      ++ extra)
      (sym is) (same_tail names)) in
      record {
        left = r.left;
        whole = λ i. sym is i ∷ r.whole i;
        births_new = r.births_new;
        dirty = r.dirty;
        follows =
            r.follows;
        nameable = r.nameable;
        names = r.names;
      }
  numbers_move (e ∷ es) rest (false ∷ marks) s s' m dirty new extra ok whole named f own named' names =
      let after : ExtendsBirths (births_after_entry s e) t =
      subst (ExtendsBirths (births_after_entry s e)) whole (stays (births_after_entry s e) (es ++ rest)) in
      let r = numbers_move es rest marks (births_after_entry s e) s' m (at_key ◌==◌ e.process true dirty) new extra
      ok whole
      named.1 (passed_by s s' m dirty f e named.0 after) own named' names in
      record {
        left = r.left;
        whole = r.whole;
        births_new = r.births_new;
        dirty = r.dirty;
        follows = r.follows;
        nameable = r.nameable;
        names = r.names;
      }

  -- such entries are moved by the last table
  pub plain_move : (es new : List Entry) (s s' : Births) (m : Table) (dirty : ℕ → Bool) → TableFollows t s s' m dirty
      → ExtendsBirths s t → ArePlain s es → NameableFrom s' new → occurrences_from s' new ≡ map (occurrence t) es
      → new ≡ map (renumbered_entry m) es
  plain_move [] [] s s' m dirty f stay plain named names = refl
  plain_move [] (x ∷ new) s s' m dirty f stay plain named names = absurd (cons_is_not_nil names)
  plain_move (e ∷ es) [] s s' m dirty f stay plain named names = absurd (nil_is_not_cons names)
  plain_move (e ∷ es) (x ∷ new) s s' m dirty f stay plain named names =
      let is : renumbered_entry m e ≡ x = moved_is s s' m dirty f stay e x plain.0 named.0 (same_head names) in
      let none : births_after_entry s' x ≡ s' = ap (births_after_entry s') (sym is) ∙ gives_nothing e.event plain.1 in
      let r = plain_move es new s s' m dirty f stay plain.2 (subst (λ z. NameableFrom z new) none named.1)
      (subst (λ z. occurrences_from z new ≡ map (occurrence t) es) none (same_tail names)) in
      λ i. sym is i ∷ r i
    where
      gives_nothing : (v : Event) → IsPlain v → births_after_event s' (m.process e.process) (renumbered_event m v) ≡ s'
      gives_nothing (event.Fork n) h = absurd h
      gives_nothing event.Open h = absurd h
      gives_nothing (event.Send c) h = refl
      gives_nothing (event.Receive c) h = refl
      gives_nothing event.End h = refl
      gives_nothing (event.Fault f) h = refl
      gives_nothing event.Laid h = refl
      gives_nothing event.Pause h = refl
