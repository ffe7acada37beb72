-- Waiters of a run along a journal are silent: who makes an entry is running, and whose offer is pending waits.
use Rattle.std.proofs.Common.{◌≡◌, ℕ, suc, Bool, true, false, cond, ◌==◌, List, [], ◌∷◌, Option, Some, None, refl}
use Rattle.std.proofs.Common.{sym, ap, ◌∙◌, subst}
use Rattle.std.proofs.lemmas.Option.{none-some, same_Some}
use Rattle.sp_base.specs.declared.fault.Fault.{Fault}
use Rattle.sp_base.specs.declared.fault.Fault.TheVariants as fault
use Rattle.sp_journal.specs.Maps.{at_key}
use Rattle.sp_journal.specs.Past.{Knowledge, knowledge_after_offer, knowledge_after, no_knowledge}
use Rattle.sp_meaning.specs.Model.{Name, Channel, same_channel, Language, Moves, Opens, Forks, Offering, EndsProcess}
use Rattle.sp_meaning.specs.Model.{MeetsFault}
use Rattle.sp_meaning.specs.Model.{Waits, Ended, Change, with_changes}
use Rattle.sp_meaning.specs.Steps.{ActOf, OfferOf, ConditionOf, ActOutcome, Advances, Faulty, way_of, message}
use Rattle.sp_meaning.specs.Steps.{meeting_changes}
use Rattle.sp_meaning.specs.Steps.{handover_outcome, meeting_outcome, offer_outcome, act_outcome, cost, limit_fault}
use Rattle.sp_meaning.specs.Steps.{fault_or, step_outcome, result_of, step_with}
use Rattle.sp_meaning.specs.Steps.{Sound}
use Rattle.sp_meaning.specs.LocalWork.{RunInput, Process}
use Rattle.sp_meaning.specs.SuperPascal.{superpascal, root, first_store}
use Rattle.sp_meaning.specs.Entries.{Happening, Opened, Forked, Offered, Faulted, Laid, Paused, Occurrence}
use Rattle.sp_journal.specs.Names as happenings
use Rattle.sp_meaning.specs.Runs.{StateOf, start, total_limits, running_process, next_state, happening_of, happening_at}
use Rattle.sp_meaning.specs.Along.{JournalState, before_entries, KernelStep, EntryStep}
use Rattle.sp_meaning.specs.Along.{Along, IsAlong}
use Rattle.sp_meaning.proofs.Frames.{IsOn, all_in, pending_frame}
use Rattle.sp_meaning.proofs.Status.{waits_stands, working_stands}
use Rattle.sp_meaning.proofs.Sound.{step_sound}
use Rattle.sp_meaning.proofs.TurnWalks.{turn_keeps, turn_runs}
use Rattle.sp_race.proofs.GoodSteps.{sound_opening}
use Rattle.sp_race.specs.Prefixes.{WaitsForNone, WaitersSilentFrom, WaitersAreSilent}

-- the process of a pending offer
abbrev pub offerer : Option (Name × ℕ) → Option Name
offerer None = None
offerer (Some o) = Some o.0

-- what is judged after an entry, or after a local step
abbrev pub judged_if : Knowledge → ℕ → Name → Option Happening → Knowledge
judged_if j n q None = j
judged_if j n q (Some h) = knowledge_after j n q h

at_both : (b : Bool) (o : Option (Name × ℕ)) (x : Option Name) (old : Option (Name × ℕ)) (new : Option Name)
    → offerer o ≡ x → offerer old ≡ new → offerer (cond b o old) ≡ cond b x new
at_both true o x old new f g = f
at_both false o x old new f g = g

module _ (g : RunInput) where
  abbrev L : Language
  L = superpascal g

  -- the pending offers of the state are those of the journal
  pub record Matches (s : StateOf g) (j : Knowledge) : Type 0 where
    pub sound : Sound s
    pub pends : (c : Channel) → offerer (j.pending c) ≡ s.pending c

  pub waits_for_none : (s : StateOf g) (j : Knowledge) (q : Name) (own : Process) → Matches s j
      → running_process g s q ≡ Some own
      → WaitsForNone j q
  waits_for_none s j q own m run c k e =
      waits_stands c (s.condition q) (m.sound.waits c q (sym (m.pends c) ∙ ap offerer e))
      (working_stands s.condition q (s.condition q) own run)

  -- one step, by what it comes to
  module _ (s : StateOf g) (j : Knowledge) (q : Name) (n : ℕ) (match : Matches s j) where
    abbrev PendingAgrees : Option Happening → ActOutcome L → Type 0
    PendingAgrees h out = (c : Channel) → offerer ((judged_if j n q h).pending c) ≡ (result_of s q out).pending c

    faulty_fits : (a : ActOf L) (f : Fault) → PendingAgrees (happening_of {L = L} a (Faulty f)) (Faulty f)
    faulty_fits (Moves o ws) f = match.pends
    faulty_fits _ _ = match.pends

    -- changes that leave the pending offers alone
    same_fits : (a : ActOf L) → ((c : Channel) → IsOn a c → ⊥) → (cs : List (Change L))
        → act_outcome s q a ≡ Advances cs
        → (c : Channel) → offerer (j.pending c) ≡ (with_changes cs s).pending c
    same_fits a off cs e c = match.pends c ∙ sym (pending_frame s q a c (off c) cs s (all_in s q a cs e))

    meeting_fits : (o : OfferOf L) (z : Name) (k : ℕ) (w : OfferOf L) (m : L.Target × L.Value)
        → j.pending o.channel ≡ Some (z, k) → PendingAgrees (Some (Offered (way_of o.payload) o.channel))
        (Advances (meeting_changes s q o z w m))
    meeting_fits o z k w m pend c = subst (λ x. offerer ((knowledge_after_offer j q n o.channel x).pending c)
        ≡ at_key same_channel o.channel None s.pending c) (sym pend)
        (at_both (same_channel o.channel c) None None (j.pending c) (s.pending c) refl (match.pends c))

    hands_fits : (o : OfferOf L) (z : Name) (k : ℕ) (w : OfferOf L) → j.pending o.channel ≡ Some (z, k)
        → (m : Option (L.Target × L.Value)) → PendingAgrees (happening_of (Offering o) (handover_outcome s q o z w m))
        (handover_outcome s q o z w m)
    hands_fits o z k w pend None = match.pends
    hands_fits o z k w pend (Some m) = by (o.kind == w.kind)
      where
        by : (b : Bool) → PendingAgrees
            (happening_of (Offering o) (cond b (Advances (meeting_changes s q o z w m)) (Faulty fault.F7)))
            (cond b (Advances (meeting_changes s q o z w m)) (Faulty fault.F7))
        by true = meeting_fits o z k w m pend
        by false = match.pends

    meets_fits : (o : OfferOf L) (z : Name) (k : ℕ) → j.pending o.channel ≡ Some (z, k) → (x : ConditionOf L)
        → PendingAgrees (happening_of (Offering o) (meeting_outcome s q o z x)) (meeting_outcome s q o z x)
    meets_fits o z k pend (Waits w) = hands_fits o z k w pend (message o.payload w.payload)
    meets_fits _ _ _ _ _ = match.pends

    offer_fits : (o : OfferOf L) (x : Option (Name × ℕ)) → j.pending o.channel ≡ x → (y : Option Name) → offerer x ≡ y
        → PendingAgrees (happening_of (Offering o) (offer_outcome s q o y)) (offer_outcome s q o y)
    offer_fits o None pend None e c = subst (λ x. offerer ((knowledge_after_offer j q n o.channel x).pending c)
        ≡ at_key same_channel o.channel (Some q) s.pending c) (sym pend)
        (at_both (same_channel o.channel c) (Some (q, n)) (Some q) (j.pending c) (s.pending c) refl (match.pends c))
    offer_fits o None pend (Some z) e c = absurd (none-some _ e)
    offer_fits o (Some x) pend None e c = absurd (none-some _ (sym e))
    offer_fits o (Some x) pend (Some z) e c =
        meets_fits o z x.1 (pend ∙ ap (λ y. Some (y, x.1)) (same_Some _ _ e)) (s.condition z) c

    act_fits : (a : ActOf L) → PendingAgrees (happening_of a (act_outcome s q a)) (act_outcome s q a)
    act_fits (Moves o ws) = same_fits (Moves o ws) (λ c h. h) _ refl
    act_fits (Opens o ws) = same_fits (Opens o ws) (λ c h. h) _ refl
    act_fits (Forks o os) = same_fits (Forks o os) (λ c h. h) _ refl
    act_fits (Offering o) = offer_fits o (j.pending o.channel) refl (s.pending o.channel) (match.pends o.channel)
    act_fits EndsProcess = same_fits EndsProcess (λ c h. h) _ refl
    act_fits (MeetsFault f) = match.pends

    step_fits : (a : ActOf L) (x : Option Fault) → PendingAgrees (happening_of a (fault_or x (act_outcome s q a)))
        (fault_or x (act_outcome s q a))
    step_fits a None = act_fits a
    step_fits a (Some f) = faulty_fits a f

    -- a step of a running process keeps the match, with the entry that it makes
    pub stepped : (own : Process) (m : StateOf g) (w : Option Happening) → running_process g s q ≡ Some own
        → happening_at g s q own ≡ w
        → next_state g s q ≡ Some m → Matches m (judged_if j n q w)
    stepped own m w run says_w st =
        let a = L.next own s.store in
        let is : result_of s q (step_outcome (total_limits g) s q a) ≡ m =
        same_Some _ _ (sym (ap (step_with (total_limits g) s q) run) ∙ st) in
        record {
          sound = step_sound (total_limits g) s q m match.sound st;
          pends = λ c. subst (λ x. offerer ((judged_if j n q x).pending c) ≡ m.pending c) says_w
              (step_fits a (limit_fault (total_limits g) s.totals (cost a)) c ∙ ap (λ (z : StateOf g). z.pending c) is);
        }

  abbrev Goes_on : (JournalState → StateOf g → ℕ → Type 0) → Knowledge → Type 0 → Type 0
  Goes_on left j A = (c : JournalState) (u : StateOf g) (r : ℕ) → left c u r → Matches u j → A

  kernel_on : (left : JournalState → StateOf g → ℕ
      → Type 0) (c : JournalState) (m : StateOf g) (paused : Bool) (q : Name)
      (w : Happening) (r : ℕ) (j : Knowledge) (n : ℕ) (A : Type 0) → KernelStep g left c m paused q w r → Matches m j
      → Goes_on left (knowledge_after j n q w) A → A
  kernel_on left c m paused q w r j n A (_, k) match go =
      go _ k.next k.rest k.ahead
      (stepped m j q n match k.makes.process k.next (Some w) k.makes.runs k.makes.happens k.makes.steps)

  entered_on : (left : JournalState → StateOf g → ℕ
      → Type 0) (c : JournalState) (m : StateOf g) (paused : Bool) (q : Name)
      (w : Happening) (r : ℕ) (j : Knowledge) (n : ℕ) (A : Type 0) → EntryStep g left c m paused q w r → Matches m j
      → Goes_on left (knowledge_after j n q w) A → A
  entered_on left c m paused q Opened r j n A h match go = kernel_on left c m paused q Opened r j n A h match go
  entered_on left c m paused q (Forked i) r j n A h match go = kernel_on left c m paused q (Forked i) r j n A h match go
  entered_on left c m paused q (Offered w d) r j n A h match go =
      kernel_on left c m paused q (Offered w d) r j n A h match go
  entered_on left c m paused q happenings.Ended r j n A h match go =
      kernel_on left c m paused q happenings.Ended r j n A h match go
  entered_on left c m paused q (Faulted f) r j n A h match go =
      kernel_on left c m paused q (Faulted f) r j n A h match go
  entered_on left c m paused q Laid r j n A h match go = go _ m r h.1 match
  entered_on left c m paused q Paused r j n A h match go = go _ m r h.2 match

  along_silent : (turn : ℕ) (es : List Occurrence) (c : JournalState) (s : StateOf g) (r : ℕ) (t : StateOf g)
      (j : Knowledge)
      (n : ℕ) → Along g turn c s es r t → Matches s j → WaitersSilentFrom j n es
  along_silent turn [] c s r t j n a match = tt
  along_silent turn (e ∷ es) c s r t j n a match =
      let run = turn_runs g turn (c.since e.who) e.who a.steps s a.middle a.paused a.turns in (
        waits_for_none s j e.who run.0 match run.1,
        entered_on _ c a.middle a.paused e.who e.what a.rest j n
            (WaitersSilentFrom (knowledge_after j n e.who e.what) (suc n)
            es) a.enters
            (turn_keeps g (λ z. Matches z j) e.who (λ z own next runs enters_none goes matches.
            stepped z j e.who 0 matches own next None runs enters_none goes) turn (c.since e.who) a.steps s a.middle
            a.paused a.turns match)
            (λ c1 u d b more. along_silent turn es c1 u d t (knowledge_after j n e.who e.what) (suc n) b more),
      )

  matches_start : Matches (start g) no_knowledge
  matches_start = record { sound = sound_opening L (root g) (first_store g); pends = λ c. refl }

  pub waiters_are_silent : (turn : ℕ) (es : List Occurrence) (n : ℕ) (t : StateOf g) → IsAlong g turn es n t
      → WaitersAreSilent es
  waiters_are_silent turn es n t along = along_silent turn es before_entries
      (start g) n t no_knowledge 0 along matches_start
