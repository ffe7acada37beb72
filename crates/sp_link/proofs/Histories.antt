-- A legal history of the kernel over a program's code ends as the program does along its journal: what the control of
-- its notes tells of the end is so of the program.
use Rattle.std.proofs.Common.{◌≡◌, ◌⊎◌, inl, inr, ℕ, ◌-◌, ◌==◌, List, [], ◌∷◌, Option, Some, None, Bool, true, false}
use Rattle.std.proofs.Common.{cond, if◌then◌else◌, ◌||◌, refl, sym, ap, ◌∙◌, subst, arith}
use Rattle.std.specs.Prelude.{◌≢◌, nat_lt}
use Rattle.std.proofs.lemmas.Bool.{or_parts}
use Rattle.std.proofs.lemmas.Option.{none-some, same_Some}
use Rattle.sp_base.proofs.Facts.{none_if_not_above}
use Rattle.sp_tree.specs.Plain.{Stmt}
use Rattle.sp_journal.specs.declared.entry.Way.{Way}
use Rattle.sp_journal.specs.declared.entry.Way.TheVariants as way
use Rattle.sp_journal.specs.declared.entry.Event.{Event}
use Rattle.sp_journal.specs.declared.entry.Event.TheVariants as event
use Rattle.sp_journal.specs.declared.entry.Birth.{Birth}
use Rattle.sp_journal.specs.declared.entry.Note.{Note}
use Rattle.sp_journal.specs.declared.outcome.End.{End}
use Rattle.sp_journal.specs.declared.outcome.End.TheVariants as end
use Rattle.sp_journal.specs.Maps.{at_key}
use Rattle.sp_journal.specs.Births.{Births, first_births, channel, births_from, occurrences_from, is_next}
use Rattle.sp_journal.proofs.BirthLaws.{Lawful, lawful as lawful_births}
use Rattle.sp_cell.specs.Map.{Plain}
use Rattle.sp_meaning.specs.LocalWork.{RunInput}
use Rattle.sp_meaning.specs.Runs.{StateOf, output_of}
use Rattle.sp_meaning.specs.Along.{IsAlong}
use Rattle.sp_meaning.specs.Ends.{Waiting, IsDone, IsDeadlock, EndIs}
use Rattle.sp_code.specs.Control.{Control, Doing, Unborn, Ready, Out, Sending, Receiving, Joining, Laid, Ended, Gone}
use Rattle.sp_code.specs.Control.{queues, offers, does, one_fewer, reports, happens, abandons, takes, after_give}
use Rattle.sp_code.specs.Control.{after_note}
use Rattle.sp_code.specs.Control.{after_notes, control, control_at_start, Standing, Running, IsMemory, IsFault}
use Rattle.sp_code.specs.Control.{has_ended}
use Rattle.sp_code.specs.Control.{is_ready, standing, entries_of}
use Rattle.sp_code.specs.Control as ctrl
use Rattle.sp_code.specs.Machine.{Stop, Forks, Opens, Sends, Receives, Ends, Pauses, Config}
use Rattle.sp_code.specs.TreeCode.{program_code}
use Rattle.sp_code.specs.Memory.{Memory}
use Rattle.sp_code.specs.Memory as memory
use Rattle.sp_code.specs.PlainStore.{plain}
use Rattle.sp_code.specs.System.{System, Condition, Absent, Working, Waits, Joins, Laid as IsLaid, Gone as HasGone}
use Rattle.sp_code.specs.System.{Over, IsSystem, OutputIs, store_in, opening_system}
use Rattle.sp_codegen.specs.TurnAgrees.{code_run}
use Rattle.sp_code.specs.Agreement.{ToSend, ToReceive, Finished, phase, phase_in, IsOrderly, AgreesWithSystem}
use Rattle.sp_code.specs.Agreement.{HasOuts}
use Rattle.sp_code.specs.Agreement.{Reaches}
use Rattle.sp_code.proofs.ControlAgreement.{orderly_start, agrees_start}
use Rattle.sp_code.proofs.Holders.{one_holder}
use Rattle.sp_code.proofs.Legal.{reaches_leads, reaches_keeps}
use Rattle.sp_code.proofs.Outs.{outs_start, outs_all, nobody_runs}
use Rattle.sp_code.proofs.Phases.{ended_phase, live_phase, no_waiter_ended}
use Rattle.sp_code.proofs.Along.{births_along}
use Rattle.sp_link.specs.Endings.{waiting_at, WaitsAs, IsWaiting, AreAllWaiting, ControlEndsAt}
use Rattle.sp_link.specs.Premises.{IsReady}
use Rattle.sp_link.proofs.Endings.{program_root, program_stuck, program_fault}
use Rattle.sp_link.proofs.Programs.{program_means, program_output, program_done}
use Rattle.sp_link.proofs.Soundness.{names_on, program_well}
use Rattle.sp_link.proofs.SortedWaiters.{all_waiting}

-- ---- nobody was given up where nobody gave up

abbrev NoneGone : (ℕ → Doing) → Type 0
NoneGone f = (q : ℕ) → f q ≢ Gone

set : (p : ℕ) (d : Doing) (f : ℕ → Doing) → d ≢ Gone → NoneGone f → NoneGone (at_key ◌==◌ p d f)
set p d f n h q = go (p == q)
  where
    go : (b : Bool) → cond b d (f q) ≢ Gone
    go true = n
    go false = h q

-- an event keeps it, and gives nobody up
record Keeps_all (k a : Control) : Type 0 where
  pub none : NoneGone k.doing → NoneGone a.doing
  pub abandons_are : a.abandons ≡ k.abandons

fewer : (p : ℕ) (d : Doing) (k : Control) → Keeps_all k (one_fewer p d k)
fewer p (Joining left) k = go (left == 1)
  where
    go : (b : Bool) → Keeps_all k (if b then queues p k else does p (Joining (left - 1)) k)
    go true = record { none = λ h. set p Ready k.doing (λ e. cc e) h; abandons_are = refl }
    go false = record { none = λ h. set p (Joining (left - 1)) k.doing (λ e. cc e) h; abandons_are = refl }
fewer p Unborn k = record { none = λ h. h; abandons_are = refl }
fewer p Ready k = record { none = λ h. h; abandons_are = refl }
fewer p (Out worker) k = record { none = λ h. h; abandons_are = refl }
fewer p (Sending channel) k = record { none = λ h. h; abandons_are = refl }
fewer p (Receiving channel) k = record { none = λ h. h; abandons_are = refl }
fewer p Laid k = record { none = λ h. h; abandons_are = refl }
fewer p Ended k = record { none = λ h. h; abandons_are = refl }
fewer p Gone k = record { none = λ h. h; abandons_are = refl }

reporting : (b : Option Birth) (p : ℕ) (k : Control) → Keeps_all k (reports b (does p Ended k))
reporting None p k = record { none = λ h. set p Ended k.doing (λ e. cc e) h; abandons_are = refl }
reporting (Some b) p k =
    let w = fewer b.parent ((does p Ended k).doing b.parent) (does p Ended k) in
    record { none = λ h. w.none (set p Ended k.doing (λ e. cc e) h); abandons_are = w.abandons_are }

offering : (w : Way) (d : Doing) (p c : ℕ) (o : Option (Way × ℕ)) (k : Control) → d ≢ Gone
    → Keeps_all k (offers w d p c o k)
offering w d p c None k n = record { none = λ h. set p d k.doing n h; abandons_are = refl }
offering w d p c (Some z) k n = record {
  none =
      λ h. set p Ready (at_key ◌==◌ z.1 Ready k.doing) (λ e. cc e) (set z.1 Ready k.doing (λ e. cc e) h);
  abandons_are = refl;
}

happening : (p : ℕ) (e : Event) (k : Control) → Keeps_all k (happens p e k)
happening p (event.Fork n) k = record { none = λ h q. by h q (is_next k.births n q) (p == q); abandons_are = refl }
  where
    by : NoneGone k.doing → (q : ℕ) (a b : Bool) → cond a Ready (cond b (Joining n) (k.doing q)) ≢ Gone
    by h q true b = λ e. cc e
    by h q false true = λ e. cc e
    by h q false false = h q
happening p event.Open k = record { none = λ h. set p Ready k.doing (λ e. cc e) h; abandons_are = refl }
happening p (event.Send c) k = offering way.Send (Sending c) p c (k.pending c) k (λ e. cc e)
happening p (event.Receive c) k = offering way.Receive (Receiving c) p c (k.pending c) k (λ e. cc e)
happening p event.End k = reporting (k.births.birth p) p k
happening p (event.Fault f) k = record { none = λ h. set p Laid k.doing (λ e. cc e) h; abandons_are = refl }
happening p event.Laid k = record { none = λ h. set p Laid k.doing (λ e. cc e) h; abandons_are = refl }
happening p event.Pause k = record { none = λ h. set p Ready k.doing (λ e. cc e) h; abandons_are = refl }

abbrev Unless_given_up : Control → Type 0
Unless_given_up k = k.abandons ≡ 0 → NoneGone k.doing

taking : (w : ℕ) (o : Option ℕ) (k : Control) → Unless_given_up k → Unless_given_up (takes w o k)
taking w None k h = h
taking w (Some p) k h = λ e. set p (Out w) k.doing (λ r. cc r) (h e)

giving_up : (o : Option ℕ) (k : Control) → Unless_given_up (abandons o k)
giving_up None k = λ e. absurd (omega (arith, e))
giving_up (Some p) k = λ e. absurd (omega (arith, e))

giving : (p : Option ℕ) (e : Option Event) (got : Option ℕ) (k : Control) → Unless_given_up k
    → Unless_given_up (after_give p e got k)
giving (Some p) (Some e) got k h = λ r. (let w = happening p e k in w.none (h (sym w.abandons_are ∙ r)))
giving None (Some e) got k h = h
giving None None None k h = giving_up None k
giving (Some p) None None k h = giving_up (Some p) k
giving None None (Some q) k h = h
giving (Some p) None (Some q) k h = h

all_notes : (ns : List Note) (k : Control) → Unless_given_up k → Unless_given_up (after_notes ns k)
all_notes [] k h = h
all_notes (n ∷ ns) k h = all_notes ns (after_note n k)
    (taking n.worker n.got (after_give n.given n.event n.got k) (giving n.given n.event n.got k h))

none_gone : (ns : List Note) → (control ns).abandons ≡ 0 → (q : ℕ) → (control ns).doing q ≢ Gone
none_gone ns = all_notes ns control_at_start (λ e q. by q (q == 0))
  where
    by : (q : ℕ) (b : Bool) → (if b then Ready else Unborn) ≢ Gone
    by q true = λ e. cc e
    by q false = λ e. cc e

-- ---- how the control stands

abbrev Agrees : (gave faulted ended going : Bool) → Standing
Agrees a f e r = if a then IsMemory else (if f then IsFault else
    (if e then ctrl.IsDone else (if r then Running else ctrl.IsDeadlock)))

stands_done : (a f e r : Bool) → Agrees a f e r ≡ ctrl.IsDone → (a ≡ false) × (f ≡ false) × (e ≡ true)
stands_done true f e r h = absurd (cc h)
stands_done false true e r h = absurd (cc h)
stands_done false false true r h = (refl, refl, refl)
stands_done false false false true h = absurd (cc h)
stands_done false false false false h = absurd (cc h)

stands_deadlock : (a f e r : Bool) → Agrees a f e r ≡ ctrl.IsDeadlock → (a ≡ false) × (f ≡ false) × (e ≡ false)
    × (r ≡ false)
stands_deadlock true f e r h = absurd (cc h)
stands_deadlock false true e r h = absurd (cc h)
stands_deadlock false false true r h = absurd (cc h)
stands_deadlock false false false true h = absurd (cc h)
stands_deadlock false false false false h = (refl, refl, refl, refl)

no_queue : (ps : List ℕ) → is_ready ps ≡ false → ps ≡ []
no_queue [] e = refl
no_queue (p ∷ ps) e = absurd (cc e)

-- ---- who waits, by the control and by the system

abbrev pub Sends_at : Births → ℕ → ℕ → Waiting
Sends_at b i c = record { who = b.name i; way = way.Send; channel = channel b c }

abbrev pub Receives_at : Births → ℕ → ℕ → Waiting
Receives_at b i c = record { who = b.name i; way = way.Receive; channel = channel b c }

abbrev pub Waits_with : Births → ℕ → Condition Plain → Waiting → Type 0
Waits_with b i X w = (stop : Stop) × (d : Config (Memory Plain)) × (X ≡ Waits stop d) × (waiting_at b i stop ≡ Some w)

to_send : (b : Births) (i c : ℕ) (X : Condition Plain) → ToSend c ≡ phase_in X → Waits_with b i X (Sends_at b i c)
to_send b i c Absent e = absurd (cc e)
to_send b i c (Working d) e = absurd (cc e)
to_send b i c (Waits (Sends c1 k cs) d) e = let same : c1 ≡ c = cc e in
    (Sends c1 k cs, d, refl, ap (λ y. Some (Sends_at b i y)) same)
to_send b i c (Waits (Receives c1 k a) d) e = absurd (cc e)
to_send b i c (Waits (Forks t v n) d) e = absurd (cc e)
to_send b i c (Waits (Opens a) d) e = absurd (cc e)
to_send b i c (Waits Ends d) e = absurd (cc e)
to_send b i c (Waits Pauses d) e = absurd (cc e)
to_send b i c (Joins n d) e = absurd (cc e)
to_send b i c (IsLaid d) e = absurd (cc e)
to_send b i c HasGone e = absurd (cc e)
to_send b i c (Over d) e = absurd (cc e)

to_receive : (b : Births) (i c : ℕ) (X : Condition Plain) → ToReceive c ≡ phase_in X
    → Waits_with b i X (Receives_at b i c)
to_receive b i c Absent e = absurd (cc e)
to_receive b i c (Working d) e = absurd (cc e)
to_receive b i c (Waits (Sends c1 k cs) d) e = absurd (cc e)
to_receive b i c (Waits (Receives c1 k a) d) e = let same : c1 ≡ c = cc e in
    (Receives c1 k a, d, refl, ap (λ y. Some (Receives_at b i y)) same)
to_receive b i c (Waits (Forks t v n) d) e = absurd (cc e)
to_receive b i c (Waits (Opens a) d) e = absurd (cc e)
to_receive b i c (Waits Ends d) e = absurd (cc e)
to_receive b i c (Waits Pauses d) e = absurd (cc e)
to_receive b i c (Joins n d) e = absurd (cc e)
to_receive b i c (IsLaid d) e = absurd (cc e)
to_receive b i c HasGone e = absurd (cc e)
to_receive b i c (Over d) e = absurd (cc e)

sending : (d : Doing) (c : ℕ) → phase d ≡ ToSend c → d ≡ Sending c
sending (Sending c1) c e = let same : c1 ≡ c = cc e in ap Sending same
sending _ _ e = absurd (cc e)

receiving : (d : Doing) (c : ℕ) → phase d ≡ ToReceive c → d ≡ Receiving c
receiving (Receiving c1) c e = let same : c1 ≡ c = cc e in ap Receiving same
receiving _ _ e = absurd (cc e)

module _ (k : Control) (t : System Plain) (a : AgreesWithSystem k t) where
  control_waits : (w : Waiting) → IsWaiting k w → WaitsAs t w
  control_waits w h = by h.2
    where
      by : ((k.doing h.0 ≡ Sending h.1) × (w ≡ Sends_at k.births h.0 h.1))
          ⊎ ((k.doing h.0 ≡ Receiving h.1) × (w ≡ Receives_at k.births h.0 h.1)) → WaitsAs t w
      by (inl x) =
          let (stop, configuration, waits, waiting) = to_send t.births h.0 h.1 (t.condition h.0)
          (sym (ap phase x.0) ∙ a.each h.0) in
          record {
            number = h.0;
            stop = stop;
            configuration = configuration;
            waits = waits;
            waiting_is = waiting ∙ ap (λ (y : Births). Some (Sends_at y h.0 h.1)) (sym a.births)
                ∙ ap (λ y. Some y) (sym x.1);
          }
      by (inr x) =
          let (stop, configuration, waits, waiting) = to_receive t.births h.0 h.1 (t.condition h.0)
          (sym (ap phase x.0) ∙ a.each h.0) in
          record {
            number = h.0;
            stop = stop;
            configuration = configuration;
            waits = waits;
            waiting_is = waiting ∙ ap (λ (y : Births). Some (Receives_at y h.0 h.1)) (sym a.births)
                ∙ ap (λ y. Some y) (sym x.1);
          }

  system_waits : (w : Waiting) → WaitsAs t w → IsWaiting k w
  system_waits w h = by h.stop h.waits h.waiting_is
    where
      by : (stop : Stop) → t.condition h.number ≡ Waits stop h.configuration
          → waiting_at t.births h.number stop ≡ Some w → IsWaiting k w
      by (Forks tb v n) e r = absurd (none-some _ r)
      by (Opens x) e r = absurd (none-some _ r)
      by (Sends c m cs) e r = (
        h.number,
        c,
        inl (
          sending (k.doing h.number) c (a.each h.number ∙ ap (λ y. phase_in y) e),
          sym (same_Some _ _ r) ∙ ap (λ (y : Births). Sends_at y h.number c) (sym a.births),
        ),
      )
      by (Receives c m x) e r = (
        h.number,
        c,
        inr (
          receiving (k.doing h.number) c (a.each h.number ∙ ap (λ y. phase_in y) e),
          sym (same_Some _ _ r)
              ∙ ap (λ (y : Births). Receives_at y h.number c) (sym a.births),
        ),
      )
      by Ends e r = absurd (none-some _ r)
      by Pauses e r = absurd (none-some _ r)

-- ---- histories

module _ (g : RunInput) (moves shares : Stmt → List ℕ) (pause : ℕ) (ready : IsReady g moves shares)
    (ns : List Note) where
  abbrev run : memory.CodeRun
  run = code_run g (program_code g.program moves shares) pause

  module _ (t : System Plain) (r : Reaches plain run control_at_start (opening_system plain run) ns t) where
    journal : IsSystem plain run (entries_of ns) t
    journal = reaches_leads plain run control_at_start (opening_system plain run) t ns r

    alike : IsOrderly (control ns) × AgreesWithSystem (control ns) t
    alike = reaches_keeps plain run control_at_start (opening_system plain run) t ns orderly_start
        (agrees_start plain run) r

    outs : HasOuts (control ns)
    outs = outs_all plain run control_at_start (opening_system plain run) t ns orderly_start (agrees_start plain run)
        outs_start r

    lawful : Lawful (control ns).births
    lawful = subst (λ b. Lawful b)
        (sym (alike.1.births ∙ births_along run (entries_of ns) (opening_system plain run) t journal))
        (lawful_births (entries_of ns) (names_on g moves shares pause ready (entries_of ns) t journal))

    pub history_means : (n : ℕ) × (s : StateOf g) × IsAlong g pause (occurrences_from first_births (entries_of ns)) n s
    history_means = program_means g moves shares pause ready (entries_of ns)
        (names_on g moves shares pause ready (entries_of ns) t journal) t journal

    module _ (n : ℕ) (s : StateOf g) (k : IsAlong g pause (occurrences_from first_births (entries_of ns)) n s) where
      pub history_output : OutputIs plain run t (output_of g s)
      history_output = program_output g moves shares pause ready (entries_of ns)
          (names_on g moves shares pause ready (entries_of ns) t journal) t journal n s k

      -- and whoever holds an output holds this one
      pub history_held : (q : ℕ) (m : Plain) (bs : List ℕ) → store_in (t.condition q) ≡ Some m
          → plain.output m ≡ Some bs → bs ≡ output_of g s
      history_held q m bs at out =
          let one = one_holder run t ns (λ es u l. program_well g moves shares pause ready es u l) r in
          let (holder_number, store_there, held_there, output_there) = history_output in
          let holder : q ≡ holder_number = one.2.only q m bs at out
          ∙ sym (one.2.only holder_number store_there (output_of g s) held_there output_there) in
          let store : Some m ≡ Some store_there = sym at ∙ ap (λ y. store_in (t.condition y)) holder ∙ held_there in
          let outputs : Some bs ≡ Some (output_of g s) = sym out ∙ ap (λ y. plain.output y)
          (same_Some m store_there store)
          ∙ output_there in
          same_Some bs (output_of g s) outputs

      -- the first process has ended
      over : phase_in (t.condition 0) ≡ Finished → IsDone g s
      over e = by (t.condition 0) refl e
        where
          by : (X : Condition Plain) → t.condition 0 ≡ X → phase_in X ≡ Finished → IsDone g s
          by Absent x f = absurd (cc f)
          by (Working d) x f = absurd (cc f)
          by (Waits stop d) x f = absurd (no_waiter_ended stop f)
          by (Joins left d) x f = absurd (cc f)
          by (IsLaid d) x f = absurd (cc f)
          by HasGone x f = absurd (program_root g moves shares pause ready (entries_of ns) t journal n s k x)
          by (Over d) x f = program_done g moves shares pause ready (entries_of ns)
              (names_on g moves shares pause ready (entries_of ns) t journal) t journal n s k d x

      pub history_done : standing (control ns) ≡ ctrl.IsDone → IsDone g s
      history_done e =
          let w = stands_done (nat_lt 0 (control ns).abandons) (control ns).faulted (has_ended ((control ns).doing 0))
          (is_ready (control ns).ready || nat_lt 0 (control ns).out) e in
          over (sym (alike.1.each 0) ∙ ended_phase ((control ns).doing 0) w.2)

      pub history_deadlock : (ws : List Waiting) → standing (control ns) ≡ ctrl.IsDeadlock
          → AreAllWaiting (control ns) ws → IsDeadlock g s ws
      history_deadlock ws e q =
          let (none_abandon, no_fault, root_goes, none_ready) = stands_deadlock (nat_lt 0 (control ns).abandons)
          (control ns).faulted
          (has_ended ((control ns).doing 0)) (is_ready (control ns).ready || nat_lt 0 (control ns).out) e in
          let v = or_parts (is_ready (control ns).ready) (nat_lt 0 (control ns).out) none_ready in
          let still = nobody_runs (control ns) t alike.0 alike.1 outs (no_queue (control ns).ready v.0)
          (none_if_not_above (control ns).out v.1) (none_gone ns
          (none_if_not_above (control ns).abandons none_abandon)) in
          program_stuck g moves shares pause ready (entries_of ns) t journal n s k ws (record {
            no_fault = sym alike.1.faulted ∙ no_fault;
            idle = λ i d x. still i (ap (λ y. phase_in y) x);
            goes_on = λ d x. live_phase ((control ns).doing 0) root_goes (alike.1.each 0 ∙ ap (λ y. phase_in y) x);
            sorted = q.sorted;
            only = λ x i. control_waits (control ns) t alike.1 x (q.only x i);
            whole = λ x i. q.whole x (system_waits (control ns) t alike.1 x i);
          })

      -- each end of the history is one of the program
      pub history_ends : (e : End) → ControlEndsAt ns e → EndIs g s e
      history_ends end.Done h = history_done h
      history_ends (end.Deadlock ws) h = let z = all_waiting (control ns) lawful alike.0.unborn ws h.1.all h.1.sorted in
          (z.0, history_deadlock z.0 h.0 z.1, z.2)
      history_ends (end.Fault name f) (_, (number, fault_entry, name_is)) = (
        (births_from first_births (entries_of ns)).name number,
        program_fault g moves shares pause ready (entries_of ns) t journal n s k number f fault_entry,
        name_is,
      )
      history_ends end.Memory h = absurd h
