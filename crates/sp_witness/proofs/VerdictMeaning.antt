-- A run without a fault at its end is ordered exactly where no schedule of the program meets contention.
use Rattle.std.proofs.Common.{◌≡◌, ℕ, Bool, List, [], ◌∷◌, ◌++◌, slice_get, Some, None, refl}
use Rattle.std.proofs.Common.{sym, ◌∙◌, subst}
use Rattle.std.proofs.lemmas.Option.{none-some}
use Rattle.sp_base.specs.declared.fault.Fault.{Fault}
use Rattle.sp_base.specs.declared.fault.Fault.TheVariants as fault
use Rattle.sp_journal.specs.Names as happenings
use Rattle.sp_meaning.specs.Model.{Name, Channel}
use Rattle.sp_meaning.specs.Entries.{Happening, Opened, Forked, Offered, Faulted, Laid, Paused, Occurrence}
use Rattle.sp_meaning.specs.LocalWork.{RunInput}
use Rattle.sp_meaning.specs.Runs.{StateOf, start, next_state, Lawful}
use Rattle.sp_meaning.specs.Along.{Turn, JournalState, before_entries, KernelStep, EntryStep}
use Rattle.sp_meaning.specs.Along.{Along, IsAlong}
use Rattle.sp_meaning.specs.Along.{IsCleanly, IsClean}
use Rattle.sp_meaning.specs.Laws.{IsReached}
use Rattle.sp_meaning.proofs.TurnWalks.{turn_folds}
use Rattle.sp_meaning.proofs.JournalSchedules.{no_fault_step}
use Rattle.sp_witness.specs.Witness.{who_at, entry_list, first_part, witness}
use Rattle.sp_witness.specs.Contention.{Shows, NeverContends}
use Rattle.sp_witness.proofs.Cleanness.{front_clean}
use Rattle.sp_journal.specs.declared.entry.Way.{Way}
use Rattle.sp_journal.specs.declared.outcome.End.{End}
use Rattle.sp_journal.specs.declared.outcome.Verdict.{Verdict}
use Rattle.sp_journal.specs.declared.outcome.Verdict.TheVariants as verdict
use Rattle.sp_race.specs.Races.{IsLeastRace, IsFault, IsVerdict}
use Rattle.sp_race.specs.Runs.{AllEndAlike, IsRunVerdict}

module _ (g : RunInput) where
  -- a lawful schedule from s to t
  abbrev Way_on : StateOf g → StateOf g → Type 0
  Way_on s t = (names : List Name) × Lawful g s names t

  step_on : (s : StateOf g) (q : Name) (m t : StateOf g) → s.fault ≡ None → next_state g s q ≡ Some m → Way_on m t
      → Way_on s t
  step_on s q m t no_fault st way = (q ∷ way.0, (m, no_fault, st, way.1))

  -- local steps
  turn_on : (turn since : ℕ) (q : Name) (k : ℕ) (s m : StateOf g) (paused : Bool) (t : StateOf g)
      → Turn g turn since q k s m paused → s.fault ≡ None → (m.fault ≡ None → Way_on m t) → Way_on s t
  turn_on turn since q k s m paused t turns no_fault go =
      turn_folds g (λ i z. z.fault ≡ None → Way_on z t) turn since q m go
      (λ i z own next runs enters_none goes later fine. step_on z q next t fine goes
      (later (no_fault_step g z q own next None runs enters_none tt goes fine))) k s paused turns no_fault

  -- an entry without a fault
  module _ (left : JournalState → StateOf g → ℕ → Type 0) (c : JournalState) (m : StateOf g) (paused : Bool) (q : Name)
      (t : StateOf g) where
    kernel_on : (w : Happening) (n : ℕ) → IsCleanly w → KernelStep g left c m paused q w n
        → ((c1 : JournalState) (u : StateOf g) (d : ℕ) → left c1 u d → u.fault ≡ None → Way_on u t) → m.fault ≡ None
        → Way_on m t
    kernel_on w n ok (_, k) go f =
        step_on m q k.next t f k.makes.steps
        (go _ k.next k.rest k.ahead
        (no_fault_step g m q k.makes.process k.next (Some w) k.makes.runs k.makes.happens ok k.makes.steps f))

    entered_on : (w : Happening) (n : ℕ) → IsCleanly w → EntryStep g left c m paused q w n
        → ((c1 : JournalState) (u : StateOf g) (d : ℕ) → left c1 u d → u.fault ≡ None → Way_on u t) → m.fault ≡ None
        → Way_on m t
    entered_on Opened n ok h go f = kernel_on Opened n ok h go f
    entered_on (Forked i) n ok h go f = kernel_on (Forked i) n ok h go f
    entered_on (Offered w d) n ok h go f = kernel_on (Offered w d) n ok h go f
    entered_on happenings.Ended n ok h go f = kernel_on happenings.Ended n ok h go f
    entered_on (Faulted x) n ok h go f = absurd ok
    entered_on Laid n ok h go f = absurd ok
    entered_on Paused n ok h go f = go _ m n h.2 f

  -- a journal whose last entry alone is a fault
  along_on : (turn : ℕ) (xs : List Occurrence) (q : Name) (x : Fault) (c : JournalState) (s : StateOf g) (n : ℕ)
      (t : StateOf g)
      → IsClean xs → Along g turn c s (xs ++ record { who = q; what = Faulted x } ∷ []) n t → s.fault ≡ None
      → Way_on s t
  along_on turn [] q x c s n t clean a no_fault =
      let (_, k) = a.enters in
      turn_on turn (c.since q) q a.steps s a.middle a.paused t a.turns no_fault
      (λ f. step_on a.middle q k.next t f k.makes.steps ([], k.ahead.1))
  along_on turn (e ∷ xs) q x c s n t clean a no_fault =
      turn_on turn (c.since e.who) e.who a.steps s a.middle a.paused t a.turns no_fault
      (λ f. entered_on (λ c1 u d. Along g turn c1 u (xs ++ record { who = q; what = Faulted x } ∷ []) d t) c a.middle
      a.paused e.who t e.what a.rest clean.0 a.enters
      (λ c1 u d b still. along_on turn xs q x c1 u d t clean.1 b still) f)

-- what shows a race is a schedule that meets contention
module _ (g : RunInput) (turn : ℕ) (es : List Occurrence) (w : Way) (c : Channel) (earlier later : ℕ) where
  -- the run along the witness is one of a lawful schedule
  pub reached : IsClean es → (n : ℕ) (s : StateOf g) → IsAlong g turn (witness es earlier later) n s → IsReached g s
  reached clean n s along =
      along_on g turn (first_part es earlier later ++ entry_list (slice_get es earlier)) (who_at es later) fault.F6
      before_entries
      (start g) n s (front_clean es earlier later clean) along refl

  pub contends : IsClean es → Shows g turn es w c earlier later → NeverContends g → ⊥
  contends clean shows never =
      let way = reached clean shows.size shows.state shows.along in
      never way.0 shows.state way.1 w c (who_at es earlier) (who_at es later) shows.contention

-- where no schedule meets a fault, none contends
pub alike_never : (g : RunInput) (n : ℕ) (t : StateOf g) → AllEndAlike g n t → NeverContends g
alike_never g n t alike qs u lawful w c first second h = none-some _ (sym (alike qs u lawful).no_fault ∙ h.fault)

module _ (g : RunInput) (turn : ℕ) (es : List Occurrence) (n : ℕ) (t : StateOf g) (e : End) (sure : IsFault e → ⊥)
    (clean : IsClean es)
    (real : (w : Way) (c : Channel) (earlier later : ℕ) → IsLeastRace es w c earlier later
    → Shows g turn es w c earlier later) where
  pub never_alike : (v : Verdict) → IsRunVerdict g es n t e v → v ≡ verdict.Ordered → NeverContends g
  never_alike v h is = alike_never g n t (subst (λ x. IsRunVerdict g es n t e x) is h).1

  pub ordered_where_never : (v : Verdict) → IsVerdict es e v → NeverContends g → v ≡ verdict.Ordered
  ordered_where_never verdict.Ordered h never = refl
  ordered_where_never (verdict.Race w c i k) h never =
      let d = (h.1).1 in
      absurd (contends g turn es w d.0 i k clean (real w d.0 i k d.2) never)
  ordered_where_never verdict.Unjudged h never = absurd (sure h)
