-- The fault of a run is that of its journal: along a journal the meaning comes to the fault that an entry of it says
-- (`fault_told`), and where a fault stands in the machine an entry says it (`fault_entry`).
use Rattle.std.proofs.Common.{◌≡◌, inl, inr, ℕ, List, [], ◌∷◌, Option, Some, None, Bool, true, false}
use Rattle.std.proofs.Common.{if◌then◌else◌, refl, sym, ap, ◌∙◌, subst}
use Rattle.std.proofs.lemmas.Option.{same_Some}
use Rattle.sp_base.specs.declared.fault.Fault.{Fault}
use Rattle.sp_journal.specs.declared.entry.Event.{Event}
use Rattle.sp_journal.specs.declared.entry.Event.TheVariants as event
use Rattle.sp_journal.specs.declared.entry.Entry.{Entry}
use Rattle.sp_journal.specs.declared.entry.Birth.{Birth}
use Rattle.sp_journal.specs.Births.{Births, births_after_event, births_from, happening, occurrences_from, NameableFrom}
use Rattle.sp_journal.proofs.BirthLaws.{Lawful, lawful_after}
use Rattle.sp_cell.specs.declared.cell.Cell.{Cell}
use Rattle.sp_cell.specs.declared.spot.Address.{Address}
use Rattle.sp_cell.specs.Map.{Plain}
use Rattle.sp_meaning.specs.Model.{Name, Moves, Opens, Forks, Offering, EndsProcess, MeetsFault}
use Rattle.sp_meaning.specs.Model.{with_changes as After}
use Rattle.sp_meaning.specs.Steps.{ActOf, ActOutcome, Advances, Faulty, step_outcome, limit_fault, fault_or}
use Rattle.sp_meaning.specs.Steps.{act_outcome, cost, result_of}
use Rattle.sp_meaning.specs.Steps.{step_with}
use Rattle.sp_meaning.specs.Entries.{Happening, Occurrence, Opened, Forked, Offered, Ended, Faulted, Laid, Paused}
use Rattle.sp_meaning.specs.LocalWork.{RunInput, Process}
use Rattle.sp_meaning.specs.SuperPascal.{superpascal}
use Rattle.sp_meaning.specs.Runs.{StateOf, total_limits, running_process, next_state, happening_at, happening_of}
use Rattle.sp_meaning.specs.Along.{JournalState, Turn, EntryStep, Along, with_fault, with_ticks}
use Rattle.sp_meaning.specs.Along.{course_after, ticks_of}
use Rattle.sp_meaning.proofs.Frames.{all_in, fault_frame}
use Rattle.sp_meaning.proofs.TurnWalks.{turn_keeps}
use Rattle.sp_code.specs.Machine.{Config, Stop}
use Rattle.sp_code.specs.Machine as machine
use Rattle.sp_code.specs.Turns as turns
use Rattle.sp_code.specs.Memory.{Memory}
use Rattle.sp_code.specs.Memory as memory
use Rattle.sp_code.specs.PlainStore.{plain}
use Rattle.sp_code.specs.System.{System, EntriesLead, fault_of, event_or, event_of, system_after_turn}
use Rattle.sp_code.specs.System.{apply_unless_fault, apply_end, apply_send}
use Rattle.sp_code.specs.System.{apply_receive, lays, config_of}
use Rattle.sp_code.specs.System as sys
use Rattle.sp_link.specs.Endings.{HasFaultEntry}
use Rattle.sp_link.proofs.Fronts.{grows_from}

-- ---- in the meaning

-- the fault of a state after a step that says this
abbrev fault_after : Name → Option Happening → Option (Name × Fault) → Option (Name × Fault)
fault_after q None old = old
fault_after q (Some Opened) old = old
fault_after q (Some (Forked n)) old = old
fault_after q (Some (Offered w c)) old = old
fault_after q (Some Ended) old = old
fault_after q (Some (Faulted f)) old = Some (q, f)
fault_after q (Some Laid) old = old
fault_after q (Some Paused) old = old

module _ (g : RunInput) where
  by_act : (s : StateOf g) (q : Name) (a : ActOf (superpascal g))
      (cs : List (Rattle.sp_meaning.specs.Model.Change (superpascal g))) → act_outcome {L = superpascal g} s q a
      ≡ Advances cs
      → (After {L = superpascal g} cs s).fault ≡ fault_after q (happening_of {L = superpascal g} a (Advances cs))
      s.fault
  by_act s q (Moves o ws) cs e = fault_frame s q (Moves o ws) cs s (all_in s q (Moves o ws) cs e)
  by_act s q (Opens o ws) cs e = fault_frame s q (Opens o ws) cs s (all_in s q (Opens o ws) cs e)
  by_act s q (Forks o os) cs e = fault_frame s q (Forks o os) cs s (all_in s q (Forks o os) cs e)
  by_act s q (Offering o) cs e = fault_frame s q (Offering o) cs s (all_in s q (Offering o) cs e)
  by_act s q EndsProcess cs e = fault_frame s q EndsProcess cs s (all_in s q EndsProcess cs e)
  by_act s q (MeetsFault f) cs e = absurd (cc e)

  step_fault : (s : StateOf g) (q : Name) (a : ActOf (superpascal g))
      → (result_of {L = superpascal g} s q (step_outcome {L = superpascal g} (total_limits g) s q a)).fault
      ≡ fault_after q (happening_of {L = superpascal g} a (step_outcome {L = superpascal g} (total_limits g) s q a))
      s.fault
  step_fault s q a = by_limit (limit_fault (total_limits g) s.totals (cost a))
    where
      by_acts : (o : ActOutcome (superpascal g)) → act_outcome {L = superpascal g} s q a ≡ o
          → (result_of {L = superpascal g} s q o).fault ≡ fault_after q (happening_of {L = superpascal g} a o) s.fault
      by_acts (Advances cs) e = by_act s q a cs e
      by_acts (Faulty f) e = refl

      by_limit : (p : Option Fault) → (result_of {L = superpascal g} s q
          (fault_or p (act_outcome {L = superpascal g} s q a))).fault
          ≡ fault_after q (happening_of {L = superpascal g} a (fault_or p (act_outcome {L = superpascal g} s q a)))
          s.fault
      by_limit None = by_acts (act_outcome {L = superpascal g} s q a) refl
      by_limit (Some f) = refl

  next_fault : (s t : StateOf g) (q : Name) (own : Process) → running_process g s q ≡ Some own
      → next_state g s q ≡ Some t
      → t.fault ≡ fault_after q (happening_at g s q own) s.fault
  next_fault s t q own r n =
      let is : Some (result_of {L = superpascal g} s q
      (step_outcome {L = superpascal g} (total_limits g) s q ((superpascal g).next own s.store))) ≡ Some t =
      sym (ap (λ y. step_with {L = superpascal g} (total_limits g) s q y) r) ∙ n in
      ap (λ (y : StateOf g). y.fault) (sym (same_Some _ _ is)) ∙ step_fault s q ((superpascal g).next own s.store)

  turn_fault : (pause since : ℕ) (q : Name) (n : ℕ) (s t : StateOf g) (paused : Bool)
      → Turn g pause since q n s t paused → t.fault ≡ s.fault
  turn_fault pause since q n s t paused way = turn_keeps g (λ (y : StateOf g). y.fault ≡ s.fault) q
      (λ z own next runs enters_none goes same. next_fault z next q own runs goes
      ∙ ap (λ y. fault_after q y z.fault) enters_none ∙ same) pause since n s t paused way refl

  -- once a fault stands it stays
  faulted_stays : (pause : ℕ) (os : List Occurrence) (c : JournalState) (s t : StateOf g) (n : ℕ) → c.faulted ≡ true
      → Along g pause c s os n t → t.fault ≡ s.fault
  faulted_stays pause [] c s t n f h = ap (λ (y : StateOf g). y.fault) h.1
  faulted_stays pause (o ∷ os) c s t n f a =
      by o.what a.enters (λ c1 r k. faulted_stays pause os c1 a.middle t r k)
      ∙ turn_fault pause (c.since o.who) o.who a.steps s a.middle a.paused a.turns
    where
      no : {A : Type 0} → c.faulted ≡ false → A
      no e = let bad : true ≡ false = sym f ∙ e in absurd (cc bad)

      by : (what : Happening)
          → EntryStep g (λ c1 u r. Along g pause c1 u os r t) c a.middle a.paused o.who what a.rest
          → ((c1 : JournalState) (r : ℕ) → c1.faulted ≡ true → Along g pause c1 a.middle os r t
          → t.fault ≡ a.middle.fault)
          → t.fault ≡ a.middle.fault
      by Laid k ih = ih (with_fault o.who c) a.rest refl k.1
      by _ k _ = no k.0

  -- an entry that is a fault says which one stands in the end
  pub fault_told : (pause : ℕ) (es : List Entry) (b : Births) → Lawful b → NameableFrom b es
      → (c : JournalState) (s t : StateOf g) (n : ℕ) → Along g pause c s (occurrences_from b es) n t
      → (p : ℕ) (f : Fault) → HasFaultEntry es p f → t.fault ≡ Some ((births_from b es).name p, f)
  fault_told pause [] b w m c s t n h p f i = absurd i
  fault_told pause (e ∷ es) b w m c s t n a p f (inl x) =
      by (subst (λ y. EntryStep g
      (λ c1 u r. Along g pause c1 u (occurrences_from (births_after_event b e.process e.event) es) r
      t) c a.middle a.paused (b.name e.process) (happening b y) a.rest) event_is a.enters)
    where
      event_is : e.event ≡ event.Fault f
      event_is = ap (λ (y : Entry). y.event) x

      process_is : e.process ≡ p
      process_is = ap (λ (y : Entry). y.process) x

      name_is : b.name e.process ≡ (births_from b (e ∷ es)).name p
      name_is =
          let ((room, _), _) = m in (grows_from (e ∷ es) b w m).names e.process room ∙ ap
          (λ y. (births_from b (e ∷ es)).name y) process_is

      by : EntryStep g (λ c1 u r. Along g pause c1 u (occurrences_from (births_after_event b e.process e.event) es) r
          t) c a.middle
          a.paused (b.name e.process) (Faulted f) a.rest → t.fault ≡ Some ((births_from b (e ∷ es)).name p, f)
      by (_, k) =
          faulted_stays pause (occurrences_from (births_after_event b e.process e.event) es)
          (course_after (b.name e.process) (Faulted f) (ticks_of g k.next (b.name e.process)) c) k.next t k.rest refl
          k.ahead
          ∙ next_fault a.middle k.next (b.name e.process) k.makes.process k.makes.runs k.makes.steps
          ∙ ap (λ y. fault_after (b.name e.process) y a.middle.fault) k.makes.happens ∙ ap (λ y. Some (pair y)) name_is
        where
          pair : Name → Name × Fault
          pair y = (y, f)
  fault_told pause (e ∷ es) b w m c s t n a p f (inr i) =
      by (happening b e.event) a.enters (λ c1 u r k. fault_told pause es (births_after_event b e.process e.event)
      (lawful_after b e w m.0) m.1 c1 u t r k p f i)
    where
      by : (what : Happening) → EntryStep g (λ c1 u r. Along g pause c1 u
          (occurrences_from (births_after_event b e.process e.event) es) r t) c a.middle a.paused (b.name e.process)
          what a.rest
          → ((c1 : JournalState) (u : StateOf g) (r : ℕ)
          → Along g pause c1 u (occurrences_from (births_after_event b e.process e.event) es) r t
          → t.fault ≡ Some ((births_from b (e ∷ es)).name p, f))
          → t.fault ≡ Some ((births_from b (e ∷ es)).name p, f)
      by Laid k ih = ih (with_fault (b.name e.process) c) a.middle a.rest k.1
      by Paused k ih = ih (with_ticks (b.name e.process) (ticks_of g a.middle (b.name e.process)) c) a.middle a.rest k.2
      by (Forked x) (_, k) ih =
          ih (course_after (b.name e.process) (Forked x) (ticks_of g k.next (b.name e.process)) c) k.next k.rest k.ahead
      by Opened (_, k) ih =
          ih (course_after (b.name e.process) Opened (ticks_of g k.next (b.name e.process)) c) k.next k.rest k.ahead
      by (Offered x d) (_, k) ih =
          ih (course_after (b.name e.process) (Offered x d) (ticks_of g k.next (b.name e.process)) c) k.next k.rest
          k.ahead
      by Ended (_, k) ih =
          ih (course_after (b.name e.process) Ended (ticks_of g k.next (b.name e.process)) c) k.next k.rest k.ahead
      by (Faulted x) (_, k) ih =
          ih (course_after (b.name e.process) (Faulted x) (ticks_of g k.next (b.name e.process)) c) k.next k.rest
          k.ahead

-- ---- in the machine

module _ (g : memory.CodeRun) where
  sent_keeps : (u : System Plain) (i : ℕ) (stop : Stop) (ch : ℕ) (cs : List Cell) (c : Config (Memory Plain))
      (z : Option ℕ) → (apply_send plain g i stop ch cs c z u).faulted ≡ u.faulted
  sent_keeps u i stop ch cs c None = refl
  sent_keeps u i stop ch cs c (Some z) = refl

  taken_keeps : (u : System Plain) (i : ℕ) (stop : Stop) (ch : ℕ) (a : Address) (c : Config (Memory Plain))
      (z : Option ℕ) → (apply_receive plain g i stop ch a c z u).faulted ≡ u.faulted
  taken_keeps u i stop ch a c None = refl
  taken_keeps u i stop ch a c (Some z) = refl

  ended_keeps : (u : System Plain) (i : ℕ) (c : Config (Memory Plain)) (b : Option Birth)
      → (apply_end plain g i c b u).faulted ≡ u.faulted
  ended_keeps u i c None = refl
  ended_keeps u i c (Some b) = refl

  abbrev IsFaultEntry : System Plain → ℕ → Event → Bool → Type 0
  IsFaultEntry u i e b = b ≡ true → (f : Fault) × (e ≡ event.Fault f)

  by_turn : (u : System Plain) (i : ℕ) (f : Option Fault) (t : turns.Turn (Memory Plain)) → u.faulted ≡ false
      → IsFaultEntry u i (event_or f t) (apply_unless_fault plain g f i t u).faulted
  by_turn u i (Some x) (turns.Stopped s c) q = λ e. (x, refl)
  by_turn u i (Some x) (turns.Faulted y c) q = λ e. (x, refl)
  by_turn u i None (turns.Faulted y c) q = λ e. (y, refl)
  by_turn u i None (turns.Stopped (machine.Forks tb val n) c) q =
      λ e. (let bad : false ≡ true = sym q ∙ e in absurd (cc bad))
  by_turn u i None (turns.Stopped (machine.Opens a) c) q = λ e. (let bad : false ≡ true = sym q ∙ e in absurd (cc bad))
  by_turn u i None (turns.Stopped (machine.Sends ch k cs) c) q =
      λ e. (let bad : false ≡ true = sym q ∙ sym
      (sent_keeps u i (machine.Sends ch k cs) ch cs (sys.process_at_entry c) (u.pending ch)) ∙ e in absurd (cc bad))
  by_turn u i None (turns.Stopped (machine.Receives ch k a) c) q =
      λ e. (let bad : false ≡ true = sym q ∙ sym
      (taken_keeps u i (machine.Receives ch k a) ch a (sys.process_at_entry c) (u.pending ch)) ∙ e in absurd (cc bad))
  by_turn u i None (turns.Stopped machine.Ends c) q =
      λ e. (let bad : false ≡ true = sym q ∙ sym (ended_keeps u i (sys.process_at_entry c) (u.births.birth i)) ∙ e in
      absurd (cc bad))
  by_turn u i None (turns.Stopped machine.Pauses c) q = λ e. (let bad : false ≡ true = sym q ∙ e in absurd (cc bad))

  after_faults : (u : System Plain) (i : ℕ) (t : turns.Turn (Memory Plain)) → u.faulted ≡ false
      → IsFaultEntry u i (event_of g.limits u t) (system_after_turn plain g i t u).faulted
  after_faults u i t q = subst (λ b. IsFaultEntry u i (if b then event.Laid else event_or (fault_of g.limits u t) t)
      (if b then lays plain g i (config_of t) u else apply_unless_fault plain g (fault_of g.limits u t) i t u).faulted)
      (sym q) (by_turn u i (fault_of g.limits u t) t q)

  -- where a fault stands after these entries it stood before, or one of them is it
  pub fault_entry : (es : List Entry) (s t : System Plain) → s.faulted ≡ false → EntriesLead plain g s es t
      → t.faulted ≡ true
      → (p : ℕ) × (f : Fault) × HasFaultEntry es p f
  fault_entry [] s t q h e = let bad : false ≡ true = sym q ∙ sym (ap (λ (y : System Plain). y.faulted) h) ∙ e in
      absurd (cc bad)
  fault_entry (x ∷ es) s t q (u, (_, _, tn, _, event_is, after_is), more) e =
      by (u.faulted) refl (λ k. fault_entry es u t k more e)
    where
      by : (b : Bool) → u.faulted ≡ b → (u.faulted ≡ false → (p : ℕ) × (f : Fault) × HasFaultEntry es p f) → (p : ℕ)
          × (f : Fault) × HasFaultEntry (x ∷ es) p f
      by true k ih =
          let w = after_faults s x.process tn q (sym (ap (λ (y : System Plain). y.faulted) after_is) ∙ k) in
          (x.process, w.0, inl (same (sym event_is ∙ w.1)))
        where
          same : {v : Event} → x.event ≡ v → x ≡ record { process = x.process; event = v }
          same {v} r = ap (λ y. record { process = x.process; event = y }) r
      by false k ih = let w = ih k in (w.0, w.1, inr w.2)
