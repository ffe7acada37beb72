-- An ordered run that has an end ends alike in every schedule; and a journal and an end have one verdict alone.
use Rattle.std.proofs.Common.{◌≡◌, ◌⊎◌, inl, inr, ⊎_elim, ℕ, Bool, true, false, cond, List, [], ◌∷◌, ◌++◌}
use Rattle.std.proofs.Common.{append-nil, Option, Some, None, refl, sym, ap, ◌∙◌, subst, arith}
use Rattle.std.proofs.lemmas.Option.{none-some, same_Some}
use Rattle.sp_base.specs.declared.fault.Fault.{Fault}
use Rattle.sp_base.specs.declared.name.ChanName.{ChanName}
use Rattle.sp_base.proofs.Facts.{not_true_and_false}
use Rattle.sp_journal.specs.declared.entry.Way.{Way}
use Rattle.sp_journal.specs.declared.outcome.End.{End}
use Rattle.sp_journal.specs.declared.outcome.End.TheVariants as end
use Rattle.sp_journal.specs.declared.outcome.Verdict.{Verdict}
use Rattle.sp_journal.specs.declared.outcome.Verdict.TheVariants as verdict
use Rattle.sp_journal.specs.Names.{chan_name}
use Rattle.sp_journal.specs.Past.{AreOrdered}
use Rattle.sp_tree.specs.Interference.{IsFreeOfInterference}
use Rattle.sp_meaning.specs.Model.{Name, Channel, same_name, Language, Moves, Opens, Forks, Offering, EndsProcess}
use Rattle.sp_meaning.specs.Model.{MeetsFault}
use Rattle.sp_meaning.specs.Model.{Works, Ended, Change, Becomes, WritesLocation, with_change, with_changes}
use Rattle.sp_meaning.specs.Steps.{ActOf, ConditionOf, ActOutcome, Advances, Faulty, IsAlive, act_outcome, cost}
use Rattle.sp_meaning.specs.Steps.{limit_fault, write_changes}
use Rattle.sp_meaning.specs.Steps.{fault_or, step_outcome, result_of, step_with, Sound}
use Rattle.sp_meaning.specs.LocalWork.{RunInput, Process}
use Rattle.sp_meaning.specs.SuperPascal.{superpascal, root, first_store}
use Rattle.sp_meaning.specs.Entries.{Happening, Opened, Forked, Offered, Faulted, Laid, Paused, Occurrence}
use Rattle.sp_journal.specs.Names as happenings
use Rattle.sp_meaning.specs.Runs.{StateOf, start, total_limits, running_process, next_state, happening_of, happening_at}
use Rattle.sp_meaning.specs.Along.{JournalState, before_entries, with_fault, EntryStep}
use Rattle.sp_meaning.specs.Along.{Along, IsAlong}
use Rattle.sp_meaning.specs.Along.{IsCleanly}
use Rattle.sp_meaning.specs.Along.{IsClean}
use Rattle.sp_meaning.specs.Ends.{IsDone, EndIs}
use Rattle.sp_meaning.proofs.Status.{working_lives}
use Rattle.sp_meaning.proofs.Parallel.{ancestors_live}
use Rattle.sp_meaning.proofs.Sound.{step_sound}
use Rattle.sp_meaning.proofs.TurnWalks.{turn_keeps}
use Rattle.sp_meaning.proofs.RuleKeepers.{disjoint}
use Rattle.sp_race.proofs.GoodSteps.{sound_opening}
use Rattle.sp_race.proofs.OrderedSchedules.{each_ends_alike}
use Rattle.sp_race.specs.Races.{Race, IsLeastRace, IsFault, IsVerdict}
use Rattle.sp_race.specs.Runs.{AllEndAlike, IsRunVerdict}

module _ (g : RunInput) where
  abbrev L : Language
  L = superpascal g

  -- a fault stands, and the root has not ended
  record Broken (s : StateOf g) : Type 0 where
    faulty : s.fault ≡ None → ⊥
    goes_on : IsDone g s → ⊥

  resulted : (s : StateOf g) (q : Name) (own : Process) (m : StateOf g) → running_process g s q ≡ Some own
      → next_state g s q ≡ Some m
      → result_of s q (step_outcome (total_limits g) s q (L.next own s.store)) ≡ m
  resulted s q own m run st = same_Some _ _ (sym (ap (step_with (total_limits g) s q) run) ∙ st)

  -- while a process is running the root has not ended
  root_goes_on : (s : StateOf g) → Sound s → (q : Name) (own : Process) → running_process g s q ≡ Some own
      → IsDone g s → ⊥
  root_goes_on s sound q own run done =
      let lives : IsAlive (s.condition (q ++ [])) =
      subst (λ z. IsAlive (s.condition z)) (sym (append-nil q))
      (working_lives s.condition q (s.condition q) own run) in
      subst (λ (c : ConditionOf L). IsAlive c) done (ancestors_live s sound q [] lives)

  -- a faulting step
  module _ (s : StateOf g) (q : Name) (own : Process) (sound : Sound s) (run : running_process g s q ≡ Some own)
      (f : Fault) where
    does_not : (a : ActOf L) (cs : List (Change L)) → happening_of a (Advances cs) ≡ Some (Faulted f) → ⊥
    does_not (Moves o ws) cs e = none-some _ e
    does_not (MeetsFault x) cs e = none-some _ e
    does_not _ _ e = cc e

    by_outcome : (a : ActOf L) (out : ActOutcome L) → happening_of a out ≡ Some (Faulted f) → Broken (result_of s q out)
    by_outcome a (Advances cs) e = absurd (does_not a cs e)
    by_outcome a (Faulty x) e = record { faulty = λ h. none-some _ (sym h); goes_on = root_goes_on s sound q own run }

    failed : (m : StateOf g) → happening_at g s q own ≡ Some (Faulted f) → next_state g s q ≡ Some m → Broken m
    failed m e st = subst (λ (z : StateOf g). Broken z) (resulted s q own m run st)
        (by_outcome (L.next own s.store) (step_outcome (total_limits g) s q (L.next own s.store)) e)

  -- a local step
  module _ (s : StateOf g) (q : Name) (broken : Broken s) where
    puts_keep : (ws : List (L.Loc × L.Value)) (t : StateOf g) → Broken t → Broken (with_changes (write_changes ws) t)
    puts_keep [] t b = b
    puts_keep (w ∷ ws) t b = puts_keep ws (with_change (WritesLocation w.0 w.1) t)
        (record { faulty = b.faulty; goes_on = b.goes_on })

    works_on : (o : Process) → Broken (with_change {L = L} (Becomes q (Works o)) s)
    works_on o = record { faulty = broken.faulty; goes_on = by (same_name q []) broken.goes_on }
      where
        by : (b : Bool) → (IsDone g s → ⊥) → cond b (Works o) (s.condition []) ≡ Ended → ⊥
        by true h e = cc e
        by false h e = h e

    by_act : (a : ActOf L) (x : Option Fault) → happening_of a (fault_or x (act_outcome s q a)) ≡ None
        → Broken (result_of s q (fault_or x (act_outcome s q a)))
    by_act (Moves o ws) None e = puts_keep ws _ (works_on o)
    by_act (Moves o ws) (Some f) e = absurd (none-some _ (sym e))
    by_act (Opens o ws) None e = absurd (none-some _ (sym e))
    by_act (Opens o ws) (Some f) e = absurd (none-some _ (sym e))
    by_act (Forks o os) None e = absurd (none-some _ (sym e))
    by_act (Forks o os) (Some f) e = absurd (none-some _ (sym e))
    by_act (Offering o) x e = absurd (by (fault_or x (act_outcome s q (Offering o))) e)
      where
        by : (out : ActOutcome L) → happening_of (Offering o) out ≡ None → ⊥
        by (Advances cs) e = none-some _ (sym e)
        by (Faulty f) e = none-some _ (sym e)
    by_act EndsProcess None e = absurd (none-some _ (sym e))
    by_act EndsProcess (Some f) e = absurd (none-some _ (sym e))
    by_act (MeetsFault f) None e = absurd (none-some _ (sym e))
    by_act (MeetsFault f) (Some x) e = absurd (none-some _ (sym e))

    stays_broken : (own : Process) (m : StateOf g) → running_process g s q ≡ Some own → happening_at g s q own ≡ None
        → next_state g s q ≡ Some m → Broken m
    stays_broken own m run e st = subst (λ (z : StateOf g). Broken z) (resulted s q own m run st)
        (by_act (L.next own s.store) (limit_fault (total_limits g) s.totals (cost (L.next own s.store))) e)

  -- after a fault: processes are laid, and nothing else happens
  laid_on : (left : JournalState → StateOf g → ℕ → Type 0) (c : JournalState) (m : StateOf g) (paused : Bool) (q : Name)
      (w : Happening) (r : ℕ) (A : Type 0) → c.faulted ≡ true → EntryStep g left c m paused q w r
      → (left (with_fault q c) m r → A) → A
  laid_on left c m paused q Opened r A f h go = absurd (not_true_and_false c.faulted f h.0)
  laid_on left c m paused q (Forked i) r A f h go = absurd (not_true_and_false c.faulted f h.0)
  laid_on left c m paused q (Offered w d) r A f h go = absurd (not_true_and_false c.faulted f h.0)
  laid_on left c m paused q happenings.Ended r A f h go = absurd (not_true_and_false c.faulted f h.0)
  laid_on left c m paused q (Faulted x) r A f h go = absurd (not_true_and_false c.faulted f h.0)
  laid_on left c m paused q Laid r A f h go = go h.1
  laid_on left c m paused q Paused r A f h go = absurd (not_true_and_false c.faulted f h.0)

  along_broken : (turn : ℕ) (es : List Occurrence) (c : JournalState) (s : StateOf g) (r : ℕ) (t : StateOf g)
      → c.faulted ≡ true → Along g turn c s es r t → Broken s → Broken t
  along_broken turn [] c s r t f a b = subst (λ (z : StateOf g). Broken z) (sym a.1) b
  along_broken turn (e ∷ es) c s r t f a b =
      laid_on (λ c1 u d. Along g turn c1 u es d t) c a.middle a.paused e.who e.what a.rest (Broken t) f a.enters
      (λ more. along_broken turn es (with_fault e.who c) a.middle a.rest t refl more
      (turn_keeps g Broken e.who (λ z own next runs enters_none goes broken.
      stays_broken z e.who broken own next runs enters_none goes) turn (c.since e.who) a.steps s a.middle a.paused
      a.turns b))

  -- an entry before a fault, by what comes of the rest
  module _ (left : JournalState → StateOf g → ℕ → Type 0) (c : JournalState) (m : StateOf g) (paused : Bool) (q : Name)
      (es : List Occurrence) (t : StateOf g) (sound : Sound m) where
    abbrev Clean_or : Happening → Type 0
    Clean_or w = (IsCleanly w × IsClean es) ⊎ Broken t

    abbrev Rest : Type 0
    Rest = (c1 : JournalState) (u : StateOf g) (d : ℕ) → c1.faulted ≡ false → Sound u → left c1 u d
        → IsClean es ⊎ Broken t

    abbrev Laid_rest : Type 0
    Laid_rest = (c1 : JournalState) (u : StateOf g) (d : ℕ) → c1.faulted ≡ true → Broken u → left c1 u d → Broken t

    with_first : (w : Happening) → IsCleanly w → IsClean es ⊎ Broken t → Clean_or w
    with_first w ok (inl clean) = inl (ok, clean)
    with_first w ok (inr broken) = inr broken

    entered_clean : (w : Happening) (r : ℕ) → c.faulted ≡ false → EntryStep g left c m paused q w r → Rest → Laid_rest
        → Clean_or w
    entered_clean Opened r f (_, k) go laid = with_first Opened tt
        (go _ k.next k.rest f (step_sound (total_limits g) m q k.next sound k.makes.steps) k.ahead)
    entered_clean (Forked i) r f (_, k) go laid = with_first (Forked i) tt
        (go _ k.next k.rest f (step_sound (total_limits g) m q k.next sound k.makes.steps) k.ahead)
    entered_clean (Offered w d) r f (_, k) go laid = with_first (Offered w d) tt
        (go _ k.next k.rest f (step_sound (total_limits g) m q k.next sound k.makes.steps) k.ahead)
    entered_clean happenings.Ended r f (_, k) go laid = with_first happenings.Ended tt
        (go _ k.next k.rest f (step_sound (total_limits g) m q k.next sound k.makes.steps) k.ahead)
    entered_clean (Faulted x) r f (_, k) go laid = inr (laid _ k.next k.rest refl
        (failed m q k.makes.process sound k.makes.runs x k.next k.makes.happens k.makes.steps) k.ahead)
    entered_clean Laid r f h go laid = absurd (not_true_and_false c.faulted h.0 f)
    entered_clean Paused r f h go laid = with_first Paused tt (go _ m r f sound h.2)

  along_clean : (turn : ℕ) (es : List Occurrence) (c : JournalState) (s : StateOf g) (r : ℕ) (t : StateOf g)
      → c.faulted ≡ false → Along g turn c s es r t → Sound s → IsClean es ⊎ Broken t
  along_clean turn [] c s r t f a sound = inl tt
  along_clean turn (e ∷ es) c s r t f a sound =
      let there : Sound a.middle = turn_keeps g (λ (z : StateOf g). Sound z) e.who
      (λ z own next runs enters_none goes before. step_sound (total_limits g) z e.who next before goes) turn
      (c.since e.who) a.steps s a.middle a.paused a.turns sound in
      entered_clean (λ c1 u d. Along g turn c1 u es d t) c a.middle a.paused e.who es t there e.what a.rest f a.enters
      (λ c1 u d f1 sound1 more. along_clean turn es c1 u d t f1 more sound1)
      (λ c1 u d f1 broken more. along_broken turn es c1 u d t f1 more broken)

  -- a run with an end that is no fault has a journal without a fault
  ends_clean : (turn : ℕ) (es : List Occurrence) (n : ℕ) (t : StateOf g) → IsAlong g turn es n t → (Broken t → ⊥)
      → IsClean es
  ends_clean turn es n t along whole = ⊎_elim (λ (x : IsClean es). x) (λ (b : Broken t). absurd (whole b))
      (along_clean turn es before_entries (start g) n t refl along (sound_opening L (root g) (first_store g)))

  pub clean_with_end : (turn : ℕ) (es : List Occurrence) (n : ℕ) (t : StateOf g) (e : End)
      → IsAlong g turn es n t → EndIs g t e → (IsFault e → ⊥) → IsClean es
  clean_with_end turn es n t end.Done along h sure = ends_clean turn es n t along (λ b. b.goes_on h)
  clean_with_end turn es n t (end.Deadlock ws) along h sure = ends_clean turn es n t along (λ b. b.faulty
      (h.1).no_fault)
  clean_with_end turn es n t (end.Fault p f) along h sure = absurd (sure tt)
  clean_with_end turn es n t end.Memory along h sure = absurd h

  ordered_ends : (turn : ℕ) (es : List Occurrence) (n : ℕ) (t : StateOf g) (e : End) → IsFreeOfInterference g.program
      → IsAlong g turn es n t → EndIs g t e → (IsFault e → ⊥) → AreOrdered es → AllEndAlike g n t
  ordered_ends turn es n t end.Done free along h sure ordered =
      each_ends_alike g turn es n t (disjoint g free) along (ends_clean turn es n t along (λ b. b.goes_on h)) (inl h)
      ordered
  ordered_ends turn es n t (end.Deadlock ws) free along h sure ordered =
      each_ends_alike g turn es n t (disjoint g free) along (ends_clean turn es n t along (λ b. b.faulty
      (h.1).no_fault))
      (inr (h.1).idle) ordered
  ordered_ends turn es n t (end.Fault p f) free along h sure ordered = absurd (sure tt)
  ordered_ends turn es n t end.Memory free along h sure ordered = absurd h

  pub run_verdict : (turn : ℕ) (es : List Occurrence) (n : ℕ) (t : StateOf g) (e : End) (v : Verdict)
      → IsFreeOfInterference g.program → IsAlong g turn es n t → EndIs g t e → IsVerdict es e v
      → IsRunVerdict g es n t e v
  run_verdict turn es n t e verdict.Ordered free along h v = (v, ordered_ends turn es n t e free along h v.0 v.1)
  run_verdict turn es n t e (verdict.Race w c i k) free along h v = v
  run_verdict turn es n t e verdict.Unjudged free along h v = v

-- the entry of a race's later offer says the way and the channel
same_offer : (es : List Occurrence) (w v : Way) (c d : Channel) (i k x : ℕ) → Race es w c i k → Race es v d x k
    → (w ≡ v) × (c ≡ d)
same_offer es w v c d i k x a b =
    let both : Offered w c ≡ Offered v d = ap (λ (o : Occurrence). o.what)
    (same_Some _ _ (sym a.offered_second ∙ b.offered_second)) in
    (cc both, cc both)

same_race : (es : List Occurrence) (w v : Way) (c d : Channel) (i k x y : ℕ) → IsLeastRace es w c i k
    → IsLeastRace es v d x y → (w ≡ v) × (c ≡ d) × (i ≡ x) × (k ≡ y)
same_race es w v c d i k x y a b =
    let one = a.1 v d x y b.0 in
    let two = b.1 w c i k a.0 in
    let later : k ≡ y = grind (arith, one, two) in
    let earlier : i ≡ x = grind (arith, one, two) in
    let offer = same_offer es w v c d i y x (subst (λ z. Race es w c i z) later a.0) b.0 in
    (offer.0, offer.1, earlier, later)

pub one_verdict : (es : List Occurrence) (e : End) (v w : Verdict) → IsVerdict es e v → IsVerdict es e w → v ≡ w
one_verdict es e verdict.Ordered verdict.Ordered a b = refl
one_verdict es e verdict.Ordered (verdict.Race w c i k) a b = absurd ((b.1).0 a.1)
one_verdict es e verdict.Ordered verdict.Unjudged a b = absurd (a.0 b)
one_verdict es e (verdict.Race w c i k) verdict.Ordered a b = absurd ((a.1).0 b.1)
one_verdict es e (verdict.Race w c i k) (verdict.Race v d x y) a b =
    let p = (a.1).1 in
    let q = (b.1).1 in
    let (ways, channel_is, earlier, later) = same_race es w v p.0 q.0 i k x y p.2 q.2 in
    let channels : c ≡ d = p.1 ∙ ap chan_name channel_is ∙ sym q.1 in
    race_is w v c d i k x y ways channels earlier later
  where
    race_is : (w v : Way) (c d : ChanName) (i k x y : ℕ) → w ≡ v → c ≡ d → i ≡ x → k ≡ y
        → verdict.Race w c i k ≡ verdict.Race v d x y
    race_is w v c d i k x y f g h l = cc
one_verdict es e (verdict.Race w c i k) verdict.Unjudged a b = absurd (a.0 b)
one_verdict es e verdict.Unjudged verdict.Ordered a b = absurd (b.0 a)
one_verdict es e verdict.Unjudged (verdict.Race w c i k) a b = absurd (b.0 a)
one_verdict es e verdict.Unjudged verdict.Unjudged a b = refl
