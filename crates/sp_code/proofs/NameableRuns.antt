-- The journal of a run is nameable: its limits keep all numbers below 2 ^ 32.
use Rattle.std.proofs.Common.{◌≡◌, ◌≢◌, ◌⊎◌, ℕ, ◌+◌, ◌≤◌, ◌<◌, ◌==◌, inl, inr, Bool, true, false, cond, nat_lt}
use Rattle.std.proofs.Common.{if◌then◌else◌, List, [], ◌∷◌, Option, Some, None, refl, sym, ap, ◌∙◌, subst, arith}
use Rattle.std.proofs.lemmas.Bool.{cases_lt, eqb-true}
use Rattle.sp_base.specs.declared.fault.Fault.{Fault}
use Rattle.sp_base.specs.declared.fault.Fault.TheVariants as fault
use Rattle.sp_cell.specs.declared.cell.Cell.{Cell}
use Rattle.sp_cell.specs.declared.spot.Address.{Address}
use Rattle.sp_cell.specs.Map.{Plain}
use Rattle.sp_journal.specs.declared.entry.Event.{Event}
use Rattle.sp_journal.specs.declared.entry.Event.TheVariants as event
use Rattle.sp_journal.specs.declared.entry.Entry.{Entry}
use Rattle.sp_journal.specs.declared.entry.Birth.{Birth}
use Rattle.sp_journal.specs.Maps.{at_key}
use Rattle.sp_journal.specs.Births.{Births, first_births, births_after_event, GivesNumbers, NameableFrom}
use Rattle.sp_code.specs.Machine.{Stop, Forks, Opens, Sends, Receives, Ends, Pauses, Config}
use Rattle.sp_code.specs.Turns.{Turn, Stopped, Faulted, IsTurn}
use Rattle.sp_code.specs.Memory.{CodeRun, Memory, memory, first_process}
use Rattle.sp_code.specs.PlainStore.{plain}
use Rattle.sp_code.specs.Sound.{AreLimits}
use Rattle.sp_code.specs.System.{System, Condition, Absent, Working, Waits, Joins, Laid, Gone, Over, event_at, event_or}
use Rattle.sp_code.specs.System.{event_of, fault_of, first_fault, limit_of, clash_of, process_at_entry, after_message}
use Rattle.sp_code.specs.System.{apply_send}
use Rattle.sp_code.specs.System.{apply_receive, parent_after_join, apply_end, apply_stop, apply_unless_fault, lays}
use Rattle.sp_code.specs.System.{system_after_turn, config_of, opening_system}
use Rattle.sp_code.specs.System.{EntriesLead, IsSystem}
use Rattle.sp_code.specs.Channels.{StopHas}
use Rattle.sp_code.specs.NamesChannels.{NamesChannels}
use Rattle.sp_code.specs.EntryCounts.{IsCounted}
use Rattle.sp_code.proofs.Queues.{number_or, at_same, at_other}
use Rattle.sp_code.proofs.Orders.{next_past}
use Rattle.sp_code.proofs.KnownChannels.{turn_spoken, enters_spoken, opening_spoken}

first_none : (a b : Option Fault) → first_fault a b ≡ None → a ≡ None
first_none None b e = refl
first_none (Some f) b e = absurd cc

-- ---- counts and absent processes

pub opening_counted : (g : CodeRun) → IsCounted (opening_system plain g)
opening_counted g = record { forks = λ q. omega arith; opens = λ q. omega arith; absent = λ q l. go q (q == 0) refl l }
  where
    go : (q : ℕ) (b : Bool) → q == 0 ≡ b → 1 ≤ q → (if b then Working (first_process plain g) else Absent) ≡ Absent
    go q true e l = absurd (omega (arith, eqb-true q 0 e, l))
    go q false e l = refl

module _ (g : CodeRun) (s : System Plain) (q : ℕ) (c0 : Config (Memory Plain)) (runs : s.condition q ≡ Working c0)
    (h : IsCounted s) where
  pub there : q < s.births.processes
  there = go (cases_lt q s.births.processes)
    where
      go : (q < s.births.processes) ⊎ (s.births.processes ≤ q) → q < s.births.processes
      go (inl l) = l
      go (inr l) = absurd (let e = h.absent q l in cc (e, runs))

  -- who is absent stays so: others change, and it does not run
  module _ (r : ℕ) (late : s.births.processes ≤ r) where
    gone : s.condition r ≡ Absent
    gone = h.absent r late

    other : q ≢ r
    other is = omega (arith, there, late, is)

    at_absent : (z : ℕ) (x : Condition Plain) (f : ℕ → Condition Plain) → (z ≡ r → x ≡ Absent) → f r ≡ Absent
        → at_key ◌==◌ z x f r ≡ Absent
    at_absent z x f e k = go (number_or z r)
      where
        go : (z ≡ r) ⊎ ((z ≢ r) × (z == r ≡ false)) → at_key ◌==◌ z x f r ≡ Absent
        go (inl is) = subst (λ y. at_key ◌==◌ z x f y ≡ x) is (at_same f z x) ∙ e is
        go (inr o) = at_other f z r x o.0 ∙ k

    mine : (x : Condition Plain) (f : ℕ → Condition Plain) → f r ≡ Absent → at_key ◌==◌ q x f r ≡ Absent
    mine x f k = at_absent q x f (λ is. absurd (other is)) k

    sent_absent : (stop : Stop) (ch : ℕ) (cs : List Cell) (c : Config (Memory Plain)) (o : Option ℕ)
        → (apply_send plain g q stop ch cs c o s).condition r ≡ Absent
    sent_absent stop ch cs c None = mine (Waits stop c) s.condition gone
    sent_absent stop ch cs c (Some z) = mine (Working c)
        (at_key ◌==◌ z (after_message plain g cs (s.condition z)) s.condition)
        (at_absent z (after_message plain g cs (s.condition z)) s.condition
        (λ is. ap (after_message plain g cs) (ap s.condition is ∙ gone)) gone)

    taken_absent : (stop : Stop) (ch : ℕ) (a : Address) (c : Config (Memory Plain)) (o : Option ℕ)
        → (apply_receive plain g q stop ch a c o s).condition r ≡ Absent
    taken_absent stop ch a c None = mine (Waits stop c) s.condition gone
    taken_absent stop ch a c (Some z) = mine (Working _)
        (at_key ◌==◌ z (after_message plain g [] (s.condition z)) s.condition)
        (at_absent z (after_message plain g [] (s.condition z)) s.condition
        (λ is. ap (after_message plain g []) (ap s.condition is ∙ gone)) gone)

    reported_absent : (c : Config (Memory Plain)) (o : Option Birth) → (apply_end plain g q c o s).condition r ≡ Absent
    reported_absent c None = mine (Over c) s.condition gone
    reported_absent c (Some b) = at_absent b.parent (parent_after_join plain g c (s.condition b.parent))
        (at_key ◌==◌ q Gone s.condition) (λ is. ap (parent_after_join plain g c) (ap s.condition is ∙ gone))
        (mine Gone s.condition gone)

    lays_absent : (c : Config (Memory Plain)) → (lays plain g q c s).condition r ≡ Absent
    lays_absent c = mine (Laid c) s.condition gone

  sent_entries : (stop : Stop) (ch : ℕ) (cs : List Cell) (c : Config (Memory Plain)) (o : Option ℕ)
      → (apply_send plain g q stop ch cs c o s).entries ≡ s.entries
  sent_entries stop ch cs c None = refl
  sent_entries stop ch cs c (Some z) = refl

  taken_entries : (stop : Stop) (ch : ℕ) (a : Address) (c : Config (Memory Plain)) (o : Option ℕ)
      → (apply_receive plain g q stop ch a c o s).entries ≡ s.entries
  taken_entries stop ch a c None = refl
  taken_entries stop ch a c (Some z) = refl

  reported_entries : (c : Config (Memory Plain)) (o : Option Birth) → (apply_end plain g q c o s).entries ≡ s.entries
  reported_entries c None = refl
  reported_entries c (Some b) = refl

  one_more : (f : ℕ → ℕ) → ((r : ℕ) → f r ≤ s.entries) → (r : ℕ) → at_key ◌==◌ q (f q + 1) f r ≤ s.entries + 1
  one_more f l r = go (q == r)
    where
      go : (b : Bool) → cond b (f q + 1) (f r) ≤ s.entries + 1
      go true = let w = l q in omega (arith, w)
      go false = let w = l r in omega (arith, w)

  more : (n : ℕ) → s.entries ≤ n → (f : ℕ → ℕ) → ((r : ℕ) → f r ≤ s.entries) → (r : ℕ) → f r ≤ n
  more n l f k r = let w = k r in omega (arith, w, l)

  happens_counted : (stop : Stop) (c : Config (Memory Plain))
      → IsCounted (record (apply_stop plain g q stop c s) { births = births_after_event s.births q (event_at stop) })
  happens_counted (Forks t v n) c = record {
    forks = one_more s.births.forks h.forks;
    opens = more (s.entries + 1) (omega arith) s.births.opens h.opens;
    absent = λ r l. let late : s.births.processes ≤ r = omega (arith, l) in
        rw (next_past s.births n r l) (mine r late (Joins n _) s.condition (gone r late));
  }
  happens_counted (Opens a) c = record {
    forks = more (s.entries + 1) (omega arith) s.births.forks h.forks;
    opens = one_more s.births.opens h.opens;
    absent = λ r l. mine r l (Working _) s.condition (gone r l);
  }
  happens_counted (Sends ch k cs) c =
      let e = sent_entries (Sends ch k cs) ch cs c (s.pending ch) in
      record {
        forks = more ((apply_send plain g q (Sends ch k cs) ch cs c (s.pending ch) s).entries + 1) (omega (arith, e))
            s.births.forks h.forks;
        opens = more ((apply_send plain g q (Sends ch k cs) ch cs c (s.pending ch) s).entries + 1) (omega (arith, e))
            s.births.opens h.opens;
        absent = λ r l. sent_absent r l (Sends ch k cs) ch cs c (s.pending ch);
      }
  happens_counted (Receives ch k a) c =
      let e = taken_entries (Receives ch k a) ch a c (s.pending ch) in
      record {
        forks = more ((apply_receive plain g q (Receives ch k a) ch a c (s.pending ch) s).entries + 1)
            (omega (arith, e))
            s.births.forks h.forks;
        opens = more ((apply_receive plain g q (Receives ch k a) ch a c (s.pending ch) s).entries + 1)
            (omega (arith, e))
            s.births.opens h.opens;
        absent = λ r l. taken_absent r l (Receives ch k a) ch a c (s.pending ch);
      }
  happens_counted Ends c =
      let e = reported_entries c (s.births.birth q) in
      record {
        forks = more (apply_end plain g q c (s.births.birth q) s).entries (omega (arith, e)) s.births.forks h.forks;
        opens = more (apply_end plain g q c (s.births.birth q) s).entries (omega (arith, e)) s.births.opens h.opens;
        absent = λ r l. reported_absent r l c (s.births.birth q);
      }
  happens_counted Pauses c = record {
    forks = h.forks;
    opens = h.opens;
    absent = λ r l. mine r l (Working c) s.condition (gone r l);
  }

  pub after_counted : (t : Turn (Memory Plain)) → IsCounted (system_after_turn plain g q t s)
  after_counted t = go s.faulted
    where
      by_fault : (o : Option Fault) (t : Turn (Memory Plain))
          → IsCounted (record (apply_unless_fault plain g o q t s) {
            births =
                births_after_event s.births q (event_or o t);
          })
      by_fault (Some f) (Stopped stop c) = record {
        forks = h.forks;
        opens = h.opens;
        absent = λ r l. lays_absent r l c;
      }
      by_fault (Some f) (Faulted e c) = record { forks = h.forks; opens = h.opens; absent = λ r l. lays_absent r l c }
      by_fault None (Faulted e c) = record { forks = h.forks; opens = h.opens; absent = λ r l. lays_absent r l c }
      by_fault None (Stopped stop c) = happens_counted stop (process_at_entry c)

      go : (b : Bool) → IsCounted (record (if b then lays plain g q (config_of t) s else
          apply_unless_fault plain g (fault_of g.limits s t) q t s)
          { births = births_after_event s.births q (if b then event.Laid else event_or (fault_of g.limits s t) t) })
      go true = record { forks = h.forks; opens = h.opens; absent = λ r l. lays_absent r l (config_of t) }
      go false = by_fault (fault_of g.limits s t) t

-- ---- one entry

below_limit : (a b : ℕ) (f : Fault) (o : Option Fault) → (if nat_lt a b then Some f else o) ≡ None → (b ≤ a)
    × (o ≡ None)
below_limit a b f o e = go (nat_lt a b) refl e
  where
    go : (t : Bool) → nat_lt a b ≡ t → (if t then Some f else o) ≡ None → (b ≤ a) × (o ≡ None)
    go true w k = absurd (cc k)
    go false w k = (grind (arith, w), k)

module _ (g : CodeRun) (lim : AreLimits g.limits) where
  gives_numbers : (s : System Plain) (q : ℕ) (stop : Stop) → IsCounted s → StopHas (λ c. c < s.births.channels) stop
      → limit_of g.limits s stop ≡ None → GivesNumbers s.births q (event_at stop)
  gives_numbers s q (Forks t v n) h k e =
      let a = below_limit g.limits.entries (s.entries + 1) fault.F15
      (if nat_lt g.limits.processes (s.births.processes + n) then Some fault.F13 else None) e in
      let b = below_limit g.limits.processes (s.births.processes + n) fault.F13 None a.1 in
      let x = h.forks q in
      let y = lim.processes in
      let z = lim.entries in
      (omega (arith, b.0, y), omega (arith, a.0, x, z))
  gives_numbers s q (Opens t) h k e =
      let a = below_limit g.limits.entries (s.entries + 1) fault.F15
      (if nat_lt g.limits.channels (s.births.channels + 1) then Some fault.F14 else None) e in
      let b = below_limit g.limits.channels (s.births.channels + 1) fault.F14 None a.1 in
      let x = h.opens q in
      let y = lim.channels in
      let z = lim.entries in
      (omega (arith, b.0, y), omega (arith, a.0, x, z))
  gives_numbers s q (Sends c j cs) h k e = k.0
  gives_numbers s q (Receives c j a) h k e = k
  gives_numbers s q Ends h k e = tt {0}
  gives_numbers s q Pauses h k e = tt {0}

  turn_numbers : (s : System Plain) (q : ℕ) (c : Config (Memory Plain)) (t : Turn (Memory Plain)) → IsCounted s
      → NamesChannels s → s.condition q ≡ Working c → IsTurn (memory plain g) g.code c t
      → GivesNumbers s.births q (event_of g.limits s t)
  turn_numbers s q c t h k e turn = go s.faulted
    where
      by_fault : (o : Option Fault) → fault_of g.limits s t ≡ o → (x : Turn (Memory Plain)) → t ≡ x
          → GivesNumbers s.births q (event_or o x)
      by_fault (Some f) w x is = tt {0}
      by_fault None w (Faulted f d) is = tt {0}
      by_fault None w (Stopped stop d) is =
          let spoken = (turn_spoken g s q c (Stopped stop d) k e
          (subst (IsTurn (memory plain g) g.code c) is turn)).0 in
          gives_numbers s q stop h spoken (first_none (limit_of g.limits s stop) (clash_of s stop)
          (ap (fault_of g.limits s) (sym is) ∙ w))

      go : (b : Bool) → GivesNumbers s.births q (if b then event.Laid else event_or (fault_of g.limits s t) t)
      go true = tt {0}
      go false = by_fault (fault_of g.limits s t) refl t refl

  leads_nameable : (s : System Plain) (es : List Entry) (t : System Plain) → IsCounted s → NamesChannels s
      → EntriesLead plain g s es t → NameableFrom s.births es
  leads_nameable s [] t h k l = tt {0}
  leads_nameable s (e ∷ es) t h k (u, leads, more) =
      let (c, runs, turn, is_turn, event_is, after) = leads in
      let next : IsCounted u = subst IsCounted (sym after) (after_counted g s e.process c runs h turn) in
      let b : births_after_event s.births e.process e.event ≡ u.births =
      ap (λ (x : Event). births_after_event s.births e.process x) (sym event_is)
      ∙ ap (λ (x : System Plain). x.births) (sym after) in (
        (
          there g s e.process c runs h,
          subst (GivesNumbers s.births e.process) event_is
              (turn_numbers s e.process c turn h k runs is_turn),
        ),
        subst (λ (x : Births). NameableFrom x es) (sym b)
            (leads_nameable u es t next (enters_spoken g s e.process e.event u k leads) more),
      )

  pub system_nameable : (es : List Entry) (s : System Plain) → IsSystem plain g es s → NameableFrom first_births es
  system_nameable es s l = leads_nameable (opening_system plain g) es s (opening_counted g) (opening_spoken g) l
