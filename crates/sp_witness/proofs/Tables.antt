-- The tables of new numbers give the entries of the witness.
use Rattle.std.proofs.Common.{◌≡◌, ℕ, zero, suc, ◌<◌, ◌≤◌, Bool, false, List, [], ◌∷◌, ◌++◌, append_assoc, map, take}
use Rattle.std.proofs.Common.{drop, Option, Some, None, slice_get, refl, sym, ap, ◌∙◌, subst, arith}
use Rattle.std.proofs.lemmas.List.{take-append-drop}
use Rattle.sp_base.specs.declared.fault.Fault.TheVariants as fault
use Rattle.sp_base.proofs.Facts.{get_of_map}
use Rattle.sp_journal.specs.declared.entry.Event.{Event}
use Rattle.sp_journal.specs.declared.entry.Event.TheVariants as event
use Rattle.sp_journal.specs.declared.entry.Entry.{Entry}
use Rattle.sp_journal.specs.declared.entry.Journal.{Journal}
use Rattle.sp_journal.specs.Names.{Faulted, Occurrence}
use Rattle.sp_journal.specs.Births.{Births, first_births, births_after_entry, births_from, births, CanFollow}
use Rattle.sp_journal.specs.Births.{GivesNumbers}
use Rattle.sp_journal.specs.Births.{NameableFrom, IsNameable, occurrence, occurrences}
use Rattle.sp_journal.proofs.BirthLaws.{Lawful, lawful_start, lawful}
use Rattle.sp_journal.proofs.Walk.{births_parts}
use Rattle.sp_race.proofs.Numbers.{ExtendsBirths, stays, all_named}
use Rattle.sp_witness.specs.Witness.{who_of, who_at, entry_list, first_part, witness}
use Rattle.sp_witness.specs.OccurrenceNumbers.{witness_journal}
use Rattle.sp_witness.specs.TableNumbers.{IsPlain, first_table, renumbered_entry, marked_entries, renumbered_entries}
use Rattle.sp_witness.specs.TableNumbers.{table_of}
use Rattle.sp_witness.specs.TableNumbers.{IsOwnFront}
use Rattle.sp_witness.proofs.TableNumbers.{TableFollows, AreMarks, numbers_move, plain_move}

follows_start : (t : Births) → Lawful t → TableFollows t first_births first_births first_table (λ q. false)
follows_start t law = record {
  lawful = lawful_start;
  lawful_new = lawful_start;
  blank = λ q l. (refl, refl);
  blank_new = λ q l. (refl, refl);
  processes = refl;
  channels = refl;
  origin = λ r l. record { old = 0; there = omega arith; process_is = omega (arith, l); name = law.no_name };
  source = λ d l. absurd (omega (arith, l));
  made = λ q r l k e h. (refl, refl);
}

-- what can follow can follow later, where it gives nothing
still : (s t : Births) → ExtendsBirths s t → (e : Entry) → IsPlain e.event → CanFollow s e → CanFollow t e
still s t st e plain can = (let a = can.0 in let b = st.processes in omega (arith, a, b), by e.event plain can.1)
  where
    by : (v : Event) → IsPlain v → GivesNumbers s e.process v → GivesNumbers t e.process v
    by (event.Fork n) p h = absurd p
    by event.Open p h = absurd p
    by (event.Send c) p h = let b = st.channels in omega (arith, h, b)
    by (event.Receive c) p h = let b = st.channels in omega (arith, h, b)
    by event.End p h = tt
    by (event.Fault x) p h = tt
    by event.Laid p h = tt
    by event.Pause p h = tt

can_later : (s : Births) (es : List Entry) (i n : ℕ) (e : Entry) → i ≤ n → slice_get es i ≡ Some e → NameableFrom s es
    → (u : Births) × CanFollow u e × ExtendsBirths u (births_from s (take n es))
can_later s [] i n e le h f = absurd (none_some h)
  where
    none_some : ◌≡◌ {A = Option Entry} None (Some e) → ⊥
    none_some z = cc
can_later s (x ∷ es) zero n e le h f = (s, subst (CanFollow s) (same h) f.0, stays s (take n (x ∷ es)))
  where
    same : ◌≡◌ {A = Option Entry} (Some x) (Some e) → x ≡ e
    same z = cc
can_later s (x ∷ es) (suc i) zero e le h f = absurd (omega (arith, le))
can_later s (x ∷ es) (suc i) (suc n) e le h f = can_later (births_after_entry s x) es i n e (omega (arith, le)) h f.1

-- the marked entries, the earlier offer and the fault, by the tables
pub tables_number : (j : Journal) → IsNameable j → (earlier later : ℕ) → earlier < later → (one two : Entry)
    → slice_get j.entries earlier ≡ Some one → slice_get j.entries later ≡ Some two → IsPlain one.event
    → (marks : List Bool) → AreMarks (take later j.entries) marks → IsOwnFront (λ q. false) (take later j.entries) marks
    → map (occurrence (births j.entries)) (marked_entries (take later j.entries) marks)
    ≡ first_part (occurrences j) earlier later
    → IsNameable (witness_journal j earlier later)
    → occurrences (witness_journal j earlier later) ≡ witness (occurrences j) earlier later
    → (witness_journal j earlier later).entries
    ≡ renumbered_entries first_births first_table (take later j.entries) marks
    ++ map (renumbered_entry (table_of first_births first_table (take later j.entries) marks))
    (one ∷ record { process = two.process; event = event.Fault fault.F6 } ∷ [])
tables_number j named earlier later lt one two got_one got_two plain marks ok own part named' names =
    let es = j.entries in
    let t = births es in
    let law = lawful es named in
    let os = occurrences j in
    let split : take later es ++ drop later es ≡ es = take-append-drop later es in
    let last : Entry = record { process = two.process; event = event.Fault fault.F6 } in
    let all : os ≡ map (occurrence t) es = all_named es named in
    let first_is : slice_get os earlier ≡ Some (occurrence t one) = ap (λ xs. slice_get xs earlier) all
    ∙ get_of_map (occurrence t) es earlier one got_one in
    let who_is : who_at os later ≡ t.name two.process = ap (λ xs. who_of (slice_get xs later)) all
    ∙ ap who_of (get_of_map (occurrence t) es later two got_two) in
    let extra : List Occurrence = map (occurrence t) (one ∷ last ∷ []) in
    let are : occurrences (witness_journal j earlier later)
    ≡ map (occurrence t) (marked_entries (take later es) marks) ++ extra =
    names ∙ (λ i. (sym part i ++ entry_list (first_is i)) ++ record { who = who_is i; what = Faulted fault.F6 } ∷ [])
    ∙ append_assoc (map (occurrence t) (marked_entries (take later es) marks)) (occurrence t one ∷ [])
    (occurrence t last ∷ []) in
    let r = numbers_move t law (take later es) (drop later es) marks first_births first_births first_table (λ q. false)
    (witness_journal j earlier later).entries extra ok (ap births split)
    (subst (NameableFrom first_births) (sym split) named) (follows_start t law) own named' are in
    let stay : ExtendsBirths (births (take later es)) t =
    subst (ExtendsBirths (births (take later es))) (sym (births_parts first_births (take later es) (drop later es))
    ∙ ap births split) (stays (births (take later es)) (drop later es)) in
    let a = can_later first_births es earlier later one (omega (arith, lt)) got_one named in
    let b = can_later first_births es later later two (omega arith) got_two named in
    let two_in : two.process < (births (take later es)).processes =
    (let (_, (room, _), stay_two) = b in let y = stay_two.processes in omega (arith, room, y)) in
    let moved_too = plain_move t law (one ∷ last ∷ []) r.left (births (take later es)) r.births_new
    (table_of first_births first_table (take later es) marks) r.dirty r.follows stay
    (still a.0 (births (take later es)) a.2 one plain a.1, plain, ((two_in, tt), tt, tt)) r.nameable r.names in
    r.whole ∙ ap (λ z. renumbered_entries first_births first_table (take later es) marks ++ z) moved_too
