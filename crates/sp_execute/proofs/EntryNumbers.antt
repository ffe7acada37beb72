-- Entry by entry, the machine's journal is the numbered one.
use Rattle.std.proofs.Common.{◌≡◌, ⊎_elim, ℕ, ◌<◌, Bool, true, false, List, [], ◌∷◌, ◌++◌, append_assoc, append-nil}
use Rattle.std.proofs.Common.{refl, sym, ap, ◌∙◌, subst}
use Rattle.sp_base.specs.declared.fault.Fault.{Fault}
use Rattle.sp_tree.specs.Plain.{Stmt}
use Rattle.sp_journal.specs.declared.entry.Entry.{Entry}
use Rattle.sp_journal.specs.declared.entry.Event.TheVariants as event
use Rattle.sp_journal.specs.Names.{Happening, Occurrence}
use Rattle.sp_journal.specs.Births.{Births, first_births, births_after_entry, births_from, happening, occurrence}
use Rattle.sp_journal.specs.Births.{occurrences_from}
use Rattle.sp_journal.specs.Births.{NameableFrom}
use Rattle.sp_cell.specs.Map.{Plain}
use Rattle.sp_meaning.specs.Steps.{IsAlive as IsLive}
use Rattle.sp_meaning.specs.LocalWork.{RunInput}
use Rattle.sp_meaning.specs.Runs.{StateOf, start, running_process}
use Rattle.sp_meaning.specs.Along.{before_entries, IsAlong, IsCleanly, IsClean}
use Rattle.sp_meaning.proofs.Status.{working_lives}
use Rattle.sp_code.specs.TreeCode.{program_code}
use Rattle.sp_code.specs.Machine.{Config}
use Rattle.sp_code.specs.Memory.{Memory}
use Rattle.sp_code.specs.Memory as memory
use Rattle.sp_code.specs.PlainStore.{plain}
use Rattle.sp_code.specs.System.{System, Working, EntryLeads, EntriesLead, IsSystem, opening_system, system_after_turn}
use Rattle.sp_code.specs.System.{event_of}
use Rattle.sp_codegen.specs.TurnAgrees.{code_run}
use Rattle.sp_link.specs.Premises.{IsReady}
use Rattle.sp_link.specs.Endings.{HasFaultEntry}
use Rattle.sp_link.proofs.JournalEntries.{entry}
use Rattle.sp_link.proofs.FaultEntries.{fault_entry}
use Rattle.sp_link.proofs.Journal.{Goes_along}
use Rattle.sp_link.proofs.OneState.{one_state}
use Rattle.sp_link.proofs.Pauses.{Entry_of}
use Rattle.sp_link.proofs.Programs.{ground, program_means, program_runs}
use Rattle.sp_link.proofs.Relation.{RunContext, Linked, at_open, stop_of}
use Rattle.sp_link.proofs.Replay.{runs_there}
use Rattle.sp_link.proofs.Soundness.{names_on}
use Rattle.sp_link.proofs.Theorem.{linked_along}
use Rattle.sp_execute.specs.NumberedRuns.{Numbered}
use Rattle.sp_execute.proofs.Ways.{Front, front, along_front, next_one}

-- one more entry by names
names_last : (s : Births) (es : List Entry) (e : Entry)
    → occurrences_from s (es ++ e ∷ []) ≡ occurrences_from s es ++ occurrence (births_from s es) e ∷ []
names_last s [] e = refl
names_last s (x ∷ es) e = ap (λ z. occurrence s x ∷ z) (names_last (births_after_entry s x) es e)

-- a clean journal has no fault
no_fault_entry : (s : Births) (es : List Entry) → IsClean (occurrences_from s es) → (p : ℕ) (f : Fault)
    → HasFaultEntry es p f
    → ⊥
no_fault_entry s [] clean p f h = h
no_fault_entry s (e ∷ es) clean p f h = ⊎_elim
    (λ (is : e ≡ record { process = p; event = event.Fault f }). subst (λ (z : Entry). IsCleanly (happening s z.event))
    is clean.0)
    (λ (x : HasFaultEntry es p f). no_fault_entry (births_after_entry s e) es clean.1 p f x)
    h

module _ (g : RunInput) (moves shares : Stmt → List ℕ) (pause : ℕ) (ready : IsReady g moves shares) where
  abbrev run : memory.CodeRun
  run = code_run g (program_code g.program moves shares) pause

  leads_last : (s : System Plain) (es : List Entry) (e : Entry) (t u : System Plain) → EntriesLead plain run s es t
      → EntryLeads plain run t e.process e.event u → EntriesLead plain run s (es ++ e ∷ []) u
  leads_last s [] e t u h k = (u, subst (λ z. EntryLeads plain run z e.process e.event u) h k, refl)
  leads_last s (x ∷ es) e t u h k = (h.0, h.1, leads_last h.0 es e t u h.2 k)

  -- one more entry
  module _ (done : List Occurrence) (o : Occurrence) (clean : IsClean done) (n : ℕ) (s : StateOf g)
      (along : IsAlong g pause (done ++ o ∷ []) n s) (es : List Entry) (named : NameableFrom first_births es)
      (names : occurrences_from first_births es ≡ done) where
    before : Front g pause before_entries (start g) done o.who
    before = front g pause done o [] before_entries (start g) n s along

    its : IsAlong g pause (occurrences_from first_births es) before.steps before.state
    its = subst (λ z. IsAlong g pause z before.steps before.state) (sym names) before.along

    system : (t : System Plain) × IsSystem plain run es t
    system = program_runs g moves shares pause ready es named before.steps before.state its

    abbrev t : System Plain
    t = system.0

    abbrev G : RunContext
    G = at_open (ground g moves shares pause ready es named) t.births.channels

    goes : Goes_along (ground g moves shares pause ready es named) before_entries (start g) first_births es t
    goes = linked_along (ground g moves shares pause ready es named) ready.main ready.first es named refl t system.1

    is_it : goes.state ≡ before.state
    is_it = (one_state g pause (occurrences_from first_births es) goes.steps before.steps goes.state before.state
        goes.along
        its).1

    linked : Linked G goes.lives goes.course before.state t
    linked = subst (λ y. Linked G goes.lives goes.course y t) is_it goes.linked

    number : (i : ℕ) × (i < t.births.processes) × (G.births.name i ≡ o.who)
    number = linked.numbered o.who
        (λ a. subst (λ x. IsLive x) a
        (working_lives before.state.condition o.who (before.state.condition o.who) before.own before.runs))

    no_fault : t.faulted ≡ false
    no_fault = by t.faulted refl
      where
        by : (b : Bool) → t.faulted ≡ b → t.faulted ≡ false
        by false e = e
        by true e = let w = fault_entry run es (opening_system plain run) t refl system.1 e in
            absurd (no_fault_entry first_births es (subst IsClean (sym names) clean) w.0 w.1 w.2)

    works : (d : Config (Memory Plain)) × (t.condition number.0 ≡ Working d)
    works = runs_there G goes.lives goes.course before.state t linked number.0 number.1 before.own
        (ap (λ y. running_process g before.state y) number.2 ∙ before.runs)
        (linked.unlaid no_fault (G.births.name number.0))

    turns : Entry_of G goes.course before.state t number.0 works.0
    turns = entry (stop_of G goes.lives goes.course before.state t linked number.0 works.0 works.1)

    abbrev e : Entry
    e = record { process = number.0; event = event_of g.limits t turns.turn }

    abbrev u : System Plain
    u = system_after_turn plain run number.0 turns.turn t

    leads : IsSystem plain run (es ++ e ∷ []) u
    leads = leads_last (opening_system plain run) es e t u system.1
        (works.0, works.1, turns.turn, turns.is_turn, refl, refl)

    nameable : NameableFrom first_births (es ++ e ∷ [])
    nameable = names_on g moves shares pause ready (es ++ e ∷ []) u leads

    means : (n : ℕ) × (s : StateOf g) × IsAlong g pause (occurrences_from first_births (es ++ e ∷ [])) n s
    means = program_means g moves shares pause ready (es ++ e ∷ []) nameable u leads

    abbrev said : Happening
    said = happening (births_from first_births es) e.event

    are : occurrences_from first_births (es ++ e ∷ []) ≡ done ++ record { who = o.who; what = said } ∷ []
    are = names_last first_births es e ∙ (λ i. names i ++ record { who = number.2 i; what = said } ∷ [])

    same : said ≡ o.what
    same = next_one g pause done o.who said o.what before_entries (start g) means.0 n means.1 s
        (subst (λ z. IsAlong g pause z means.0 means.1) are means.2) along

    pub one_more : Numbered (done ++ o ∷ [])
    one_more = record {
      entries = es ++ e ∷ [];
      nameable = nameable;
      names = are
          ∙ (λ i. done ++ record { who = o.who; what = same i } ∷ []);
    }

  -- a clean front, and one more entry of any kind
  pub numbered_from : (done rest : List Occurrence) (o : Occurrence) → IsClean done → IsClean rest
      → (n : ℕ) (s : StateOf g) → IsAlong g pause (done ++ rest ++ o ∷ []) n s → Numbered done
      → Numbered (done ++ rest ++ o ∷ [])
  numbered_from done [] o clean more n s along h =
      let are : done ++ [] ++ o ∷ [] ≡ done ++ o ∷ [] = ap (λ z. z ++ o ∷ []) (append-nil done) in
      subst Numbered (sym are)
      (one_more done o clean n s (subst (λ z. IsAlong g pause z n s) are along) h.entries h.nameable h.names)
  numbered_from done (x ∷ rest) o clean more n s along h =
      let are : done ++ x ∷ rest ++ o ∷ [] ≡ (done ++ x ∷ []) ++ rest ++ o ∷ [] =
      ap (λ z. z ++ o ∷ []) (sym (append_assoc done (x ∷ []) rest)) in
      let a = subst (λ z. IsAlong g pause z n s) are along in
      let f = along_front g pause (done ++ x ∷ []) (rest ++ o ∷ []) before_entries (start g) n s
      (subst (λ z. IsAlong g pause z n s) (append_assoc (done ++ x ∷ []) rest (o ∷ [])) a) in
      let one = one_more done x clean f.0 f.1 f.2 h.entries h.nameable h.names in
      subst Numbered (sym are) (numbered_from (done ++ x ∷ []) rest o (clean_more done x clean more.0) more.1 n s a one)
    where
      clean_more : (xs : List Occurrence) (y : Occurrence) → IsClean xs → IsCleanly y.what → IsClean (xs ++ y ∷ [])
      clean_more [] y c d = (d, tt)
      clean_more (z ∷ xs) y c d = (c.0, clean_more xs y c.1 d)

  pub numbered : (os : List Occurrence) (o : Occurrence) → IsClean os → (n : ℕ) (s : StateOf g)
      → IsAlong g pause (os ++ o ∷ []) n s → Numbered (os ++ o ∷ [])
  numbered os o clean n s along =
      numbered_from [] os o tt clean n s along (record { entries = []; nameable = tt; names = refl })
