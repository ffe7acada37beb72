-- Along an ordered journal goes an ordered schedule, so each schedule ends as it does.
use Rattle.std.proofs.Common.{◌≡◌, ◌⊎◌, ⊎_elim, ℕ, suc, ◌+◌, Bool, List, [], ◌∷◌, ◌++◌, length}
use Rattle.std.proofs.Common.{Option, Some, None, refl, sym, ap, ◌∙◌, subst, arith}
use Rattle.std.proofs.lemmas.Bool.{false≢true}
use Rattle.std.proofs.lemmas.Option.{none-some, same_Some}
use Rattle.sp_base.specs.declared.fault.Fault.{Fault}
use Rattle.sp_journal.specs.Past.{Knowledge, knowledge_after, no_knowledge, AreOrdered}
use Rattle.sp_meaning.specs.Model.{Name, Language, Moves, Opens, Forks, Offering, EndsProcess, MeetsFault, Change}
use Rattle.sp_meaning.specs.Model.{with_changes}
use Rattle.sp_meaning.specs.Steps.{ActOf, ActOutcome, Advances, Faulty, way_of, act_outcome, fault_or, step_with, Sound}
use Rattle.sp_meaning.specs.Schedules.{EndsAlike}
use Rattle.sp_meaning.specs.LocalWork.{RunInput, Process}
use Rattle.sp_meaning.specs.SuperPascal.{superpascal, root, first_store}
use Rattle.sp_meaning.specs.Entries.{Happening, Opened, Forked, Offered, Ended, Faulted, Laid, Paused, Occurrence}
use Rattle.sp_meaning.specs.Runs.{StateOf, start, total_limits, running_process, next_state, system_of, Lawful}
use Rattle.sp_meaning.specs.Runs.{happening_of, happening_at, IsDisjointRun}
use Rattle.sp_meaning.specs.Along.{Turn, JournalState, before_entries, KernelStep, EntryStep}
use Rattle.sp_meaning.specs.Along.{Along, IsAlong}
use Rattle.sp_meaning.specs.Along.{IsCleanly}
use Rattle.sp_meaning.specs.Along.{IsClean}
use Rattle.sp_meaning.specs.Ends.{IsDone, IsIdle}
use Rattle.sp_meaning.proofs.Status.{Makes}
use Rattle.sp_meaning.proofs.StepInvariants.{sound_kept}
use Rattle.sp_meaning.proofs.Instance.{superpascal_keeps}
use Rattle.sp_meaning.proofs.JournalSchedules.{no_fault_step}
use Rattle.sp_meaning.proofs.TurnWalks.{turn_folds}
use Rattle.sp_meaning.proofs.LawProofs.{done_idle}
use Rattle.sp_race.specs.Notes.{Event, JudgeNotes, no_notes, IsKnowledge, KnowsBefore}
use Rattle.sp_race.specs.RunNotes.{notes_after}
use Rattle.sp_race.specs.OrderedRuns.{IsOrderedRun}
use Rattle.sp_race.specs.OfferOrder.{KnowsOffers, KnownFrom}
use Rattle.sp_race.specs.PastsAndNotes.{NotesMatch}
use Rattle.sp_race.proofs.NotesFrames.{known_kept}
use Rattle.sp_race.proofs.GoodSteps.{made_of, sound_opening, knows_nothing, confluence}
use Rattle.sp_race.proofs.NoteLaws.{known_linked}
use Rattle.sp_race.proofs.LinkedSteps.{opens_linked, forks_linked, ends_linked, moves_linked, offers_linked}
use Rattle.sp_race.proofs.LinkedSteps.{pause_linked}
use Rattle.sp_race.proofs.Completion.{ordered_known}

module _ (g : RunInput) where
  -- what is known where these n entries have been made
  pub record KnownAfterEntries (s : StateOf g) (v : JudgeNotes) (j : Knowledge) (done : List Occurrence) (n : ℕ)
      (label : ℕ → Option Event) :
      Type 0 where
    pub linked : NotesMatch s v j done n label
    pub sound : Sound s
    pub known : IsKnowledge v
    pub no_fault : s.fault ≡ None

  -- an ordered schedule of n names from s to t, without a fault at its end
  record OrderedSchedule (s : StateOf g) (v : JudgeNotes) (n : ℕ) (t : StateOf g) : Type 0 where
    names : List Name
    size : length names ≡ n
    leads : Lawful g s names t
    still : t.fault ≡ None
    ordered : IsOrderedRun (total_limits g) s v names

  -- a step without a fault, and its changes
  pub record Stepped (s : StateOf g) (q : Name) (own : Process) (m : StateOf g) : Type 0 where
    pub cs : List (Change (superpascal g))
    pub makes : Makes (total_limits g) s q cs
    pub process_is : makes.own ≡ own
    pub to : m ≡ with_changes cs s
    pub no_fault : m.fault ≡ None

  pub stepped : (s : StateOf g) (q : Name) (own : Process) (m : StateOf g) → running_process g s q ≡ Some own
      → next_state g s q ≡ Some m → m.fault ≡ None → Stepped s q own m
  stepped s q own m run st no_fault =
      let x = made_of s q m st no_fault in
      record {
        cs = x.cs;
        makes = x.makes;
        process_is = same_Some _ _
            (sym x.makes.works ∙ run);
        to = x.to;
        no_fault = no_fault;
      }

  -- what the step says
  pub said : (s : StateOf g) (q : Name) (own : Process) (m : StateOf g) (x : Stepped s q own m)
      → happening_at g s q own ≡ happening_of ((superpascal g).next x.makes.own s.store) (Advances x.cs)
  said s q own m x =
      let a = (superpascal g).next x.makes.own s.store in
      ap (happening_at g s q) (sym x.process_is)
      ∙ ap (happening_of a) (ap (λ f. fault_or f (act_outcome s q a)) x.makes.within
      ∙ x.makes.does)

  pub next_at : (s : StateOf g) (v : JudgeNotes) (j : Knowledge) (done : List Occurrence) (n : ℕ) (label : ℕ
      → Option Event)
      (q : Name) (own : Process) (m : StateOf g) → KnownAfterEntries s v j done n label → (x : Stepped s q own m)
      → (j1 : Knowledge) (done1 : List Occurrence) (n1 : ℕ) (label1 : ℕ → Option Event)
      → NotesMatch (with_changes x.cs s)
      (notes_after s v q ((superpascal g).next x.makes.own s.store)) j1 done1 n1 label1
      → KnownAfterEntries m (notes_after s v q ((superpascal g).next own s.store)) j1 done1 n1 label1
  next_at s v j done n label q own m at x j1 done1 n1 label1 l =
      let notes_are : notes_after s v q ((superpascal g).next x.makes.own s.store)
      ≡ notes_after s v q ((superpascal g).next own s.store) =
      ap (λ z. notes_after s v q ((superpascal g).next z s.store)) x.process_is in
      record {
        linked = subst (λ (z : StateOf g). NotesMatch z (notes_after s v q ((superpascal g).next own s.store)) j1
            done1 n1
            label1) (sym x.to) (subst (λ z. NotesMatch (with_changes x.cs s) z j1 done1 n1 label1) notes_are l);
        sound = subst (λ (z : StateOf g). Sound z) (sym x.to) (sound_kept s q x.cs at.sound x.makes);
        known = known_kept v at.known s q ((superpascal g).next own s.store);
        no_fault = x.no_fault;
      }

  -- one ordered step in front
  first : (s : StateOf g) (v : JudgeNotes) (q : Name) (own : Process) (m : StateOf g) (n : ℕ) (t : StateOf g)
      → s.fault ≡ None → running_process g s q ≡ Some own → next_state g s q ≡ Some m
      → KnowsBefore (superpascal g) v q ((superpascal g).next own s.store)
      → OrderedSchedule m (notes_after s v q ((superpascal g).next own s.store)) n t → OrderedSchedule s v (suc n) t
  first s v q own m n t no_fault run st knows go = record {
    names = q ∷ go.names;
    size = ap suc go.size;
    leads = (m, no_fault, st, go.leads);
    still = go.still;
    ordered = (
      λ o w. subst (λ z. KnowsBefore (superpascal g) v q ((superpascal g).next z s.store)) (same_Some _ _ (sym run ∙ w))
          knows,
      λ o k w e. subst (λ z. IsOrderedRun (total_limits g) k (notes_after s v q ((superpascal g).next z s.store))
          go.names)
          (same_Some _ _ (sym run ∙ w)) (subst
          (λ (z : StateOf g). IsOrderedRun (total_limits g) z (notes_after s v q ((superpascal g).next own s.store))
          go.names)
          (same_Some _ _ (sym st ∙ e)) go.ordered),
    );
  }

  -- a local step is an act that moves
  pub record IsMove (s : StateOf g) (own : Process) : Type 0 where
    pub next_own : Process
    pub writes : List ((superpascal g).Loc × (superpascal g).Value)
    pub move_is : (superpascal g).next own s.store ≡ Moves next_own writes

  pub local_moves : (s : StateOf g) (q : Name) (own : Process) (m : StateOf g) (x : Stepped s q own m)
      → happening_at g s q own ≡ None → IsMove s x.makes.own
  local_moves s q own m x none = by ((superpascal g).next x.makes.own s.store) refl (sym (said s q own m x) ∙ none)
    where
      faulty_does : {L : Language} {f : Fault} {cs : List (Change L)}
          → ◌≡◌ {A = ActOutcome L} (Faulty f) (Advances cs) → ⊥
      faulty_does e = cc

      by : (a : ActOf (superpascal g)) → (superpascal g).next x.makes.own s.store ≡ a
          → happening_of a (Advances x.cs) ≡ None
          → IsMove s x.makes.own
      by (Moves o ws) e h = record { next_own = o; writes = ws; move_is = e }
      by (MeetsFault f) e h = absurd (faulty_does (ap (act_outcome s q) (sym e) ∙ x.makes.does))
      by _ _ h = absurd (none-some _ (sym h))

  pub moves_know : (s : StateOf g) (own : Process) (v : JudgeNotes) (q : Name) → IsMove s own
      → KnowsBefore (superpascal g) v q ((superpascal g).next own s.store)
  moves_know s own v q h = subst (λ a. KnowsBefore (superpascal g) v q a) (sym h.move_is) tt

  -- k local steps in front
  turned : (turn since : ℕ) (q : Name) (k : ℕ) (s m : StateOf g) (paused : Bool) (r : ℕ) (t : StateOf g)
      (v : JudgeNotes)
      (j : Knowledge) (done : List Occurrence) (n : ℕ) (label : ℕ → Option Event)
      → Turn g turn since q k s m paused → KnownAfterEntries s v j done n label
      → ((w : JudgeNotes) → KnownAfterEntries m w j done n label → OrderedSchedule m w r t)
      → OrderedSchedule s v (k + r) t
  turned turn since q k s m paused r t v j done n label turns at go =
      turn_folds g (λ i z. (w : JudgeNotes) → KnownAfterEntries z w j done n label → OrderedSchedule z w (i + r) t)
      turn since q m (λ w known. subst (λ y. OrderedSchedule m w y t) zero_add (go w known)) back k s paused turns v at
    where
      zero_add : r ≡ 0 + r
      zero_add = omega arith

      suc_add : (i : ℕ) → suc (i + r) ≡ suc i + r
      suc_add i = omega arith

      back : (i : ℕ) (z : StateOf g) (own : Process) (u : StateOf g) → running_process g z q ≡ Some own
          → happening_at g z q own ≡ None → next_state g z q ≡ Some u
          → ((w : JudgeNotes) → KnownAfterEntries u w j done n label → OrderedSchedule u w (i + r) t)
          → (w : JudgeNotes) → KnownAfterEntries z w j done n label → OrderedSchedule z w (suc i + r) t
      back i z own u runs enters_none goes later w at =
          let x = stepped z q own u runs goes (no_fault_step g z q own u None runs enters_none tt goes at.no_fault) in
          let mv = local_moves z q own u x enters_none in
          let known = next_at z w j done n label q own u at x j done n label
          (moves_linked z w q x.cs at.sound at.known x.makes j done n label at.linked mv.next_own mv.writes
          mv.move_is) in
          let knows = subst (λ y. KnowsBefore (superpascal g) w q ((superpascal g).next y z.store)) x.process_is
          (moves_know z x.makes.own w q mv) in
          subst (λ y. OrderedSchedule z w y t) (suc_add i) (first z w q own u (i + r) t at.no_fault runs goes knows
          (later (notes_after z w q ((superpascal g).next own z.store)) known))

  -- after an entry
  abbrev With : List Occurrence → Name → Happening → List Occurrence
  With done q w = done ++ record { who = q; what = w } ∷ []

  record Enters_at (s : StateOf g) (v : JudgeNotes) (q : Name) (own : Process) (m : StateOf g) (j : Knowledge)
      (done : List Occurrence) (n : ℕ) : Type 0 where
    label : ℕ → Option Event
    at : KnownAfterEntries m (notes_after s v q ((superpascal g).next own s.store)) j done n label
    knows : KnowsBefore (superpascal g) v q ((superpascal g).next own s.store)

  -- a kernel step keeps the link, and is ordered where its entry is
  enters : (s : StateOf g) (v : JudgeNotes) (q : Name) (own : Process) (m : StateOf g) (j : Knowledge)
      (done : List Occurrence)
      (n : ℕ) (label : ℕ → Option Event) (w : Happening) → KnownAfterEntries s v j done n label
      → (x : Stepped s q own m)
      → happening_at g s q own ≡ Some w → KnowsOffers j done q w
      → Enters_at s v q own m (knowledge_after j n q w) (With done q w) (suc n)
  enters s v q own m j done n label w at x is knows =
      by ((superpascal g).next x.makes.own s.store) refl w (sym (said s q own m x) ∙ is) knows
    where
      L : Language
      L = superpascal g

      put : (w : Happening) (lb : ℕ → Option Event)
          → NotesMatch (with_changes x.cs s) (notes_after s v q ((superpascal g).next x.makes.own s.store))
          (knowledge_after j n q w)
          (With done q w) (suc n) lb → KnowsBefore (superpascal g) v q ((superpascal g).next x.makes.own s.store)
          → Enters_at s v q own m (knowledge_after j n q w) (With done q w) (suc n)
      put w lb l k = record {
        label = lb;
        at = next_at s v j done n label q own m at x (knowledge_after j n q w) (With done q w) (suc n) lb l;
        knows = subst (λ z. KnowsBefore (superpascal g) v q ((superpascal g).next z s.store)) x.process_is k;
      }

      by : (a : ActOf (superpascal g)) → (superpascal g).next x.makes.own s.store ≡ a → (w : Happening)
          → happening_of a (Advances x.cs) ≡ Some w → KnowsOffers j done q w
          → Enters_at s v q own m (knowledge_after j n q w) (With done q w) (suc n)
      by (Moves o ws) e w h k = absurd (none-some _ h)
      by (MeetsFault f) e w h k = absurd (none-some _ h)
      by (Opens o ws) e w h k = subst (λ z. Enters_at s v q own m (knowledge_after j n q z) (With done q z) (suc n))
          (same_Some _ _ h)
          (put Opened _ (opens_linked s v q x.cs at.sound at.known x.makes j done n label at.linked o ws e)
          (subst (λ a. KnowsBefore (superpascal g) v q a) (sym e) tt))
      by (Forks o os) e w h k = subst (λ z. Enters_at s v q own m (knowledge_after j n q z) (With done q z) (suc n))
          (same_Some _ _ h)
          (put (Forked (length os)) _
          (forks_linked s v q x.cs at.sound at.known x.makes j done n label at.linked o os e)
          (subst (λ a. KnowsBefore (superpascal g) v q a) (sym e) tt))
      by (Offering o) e w h k =
          let k' : KnowsOffers j done q (Offered (way_of o.payload) o.channel) =
          subst (KnowsOffers j done q) (sym (same_Some _ _ h)) k in
          subst (λ z. Enters_at s v q own m (knowledge_after j n q z) (With done q z) (suc n)) (same_Some _ _ h)
          (put (Offered (way_of o.payload) o.channel) _
          (offers_linked s v q x.cs at.sound at.known x.makes j done n label at.linked o e)
          (subst (λ a. KnowsBefore (superpascal g) v q a) (sym e) (known_linked s v j done n label q o at.linked k')))
      by EndsProcess e w h k = subst (λ z. Enters_at s v q own m (knowledge_after j n q z) (With done q z) (suc n))
          (same_Some _ _ h)
          (put Ended _ (ends_linked s v q x.cs at.sound at.known x.makes j done n label at.linked e)
          (subst (λ a. KnowsBefore (superpascal g) v q a) (sym e) tt))

  abbrev Goes_on : (JournalState → StateOf g → ℕ → Type 0) → StateOf g → Knowledge → List Occurrence → ℕ → Type 0
  Goes_on left t j done n = (c1 : JournalState) (u : StateOf g) (r : ℕ) → left c1 u r
      → (w : JudgeNotes) (label : ℕ → Option Event)
      → KnownAfterEntries u w j done n label → OrderedSchedule u w r t

  kernel_goes : (left : JournalState → StateOf g → ℕ
      → Type 0) (c : JournalState) (m : StateOf g) (paused : Bool) (q : Name)
      (w : Happening) (r : ℕ) (t : StateOf g) (v : JudgeNotes) (j : Knowledge) (done : List Occurrence) (n : ℕ)
      (label : ℕ → Option Event) → IsCleanly w → KernelStep g left c m paused q w r
      → KnownAfterEntries m v j done n label → KnowsOffers j done q w
      → Goes_on left t (knowledge_after j n q w) (With done q w) (suc n)
      → OrderedSchedule m v r t
  kernel_goes left c m paused q w r t v j done n label ok (_, k) at knows go =
      let own : Process = k.makes.process in
      let u : StateOf g = k.next in
      let x = stepped m q own u k.makes.runs k.makes.steps (no_fault_step g m q own u (Some w) k.makes.runs
      k.makes.happens ok k.makes.steps at.no_fault) in
      let y = enters m v q own u j done n label w at x k.makes.happens knows in
      subst (λ z. OrderedSchedule m v z t) (sym k.size) (first m v q own u k.rest t at.no_fault k.makes.runs
      k.makes.steps y.knows
      (go _ u k.rest k.ahead (notes_after m v q ((superpascal g).next own m.store)) y.label y.at))

  entered_goes : (left : JournalState → StateOf g → ℕ
      → Type 0) (c : JournalState) (m : StateOf g) (paused : Bool) (q : Name)
      (w : Happening) (r : ℕ) (t : StateOf g) (v : JudgeNotes) (j : Knowledge) (done : List Occurrence) (n : ℕ)
      (label : ℕ → Option Event) → IsCleanly w → EntryStep g left c m paused q w r
      → KnownAfterEntries m v j done n label → KnowsOffers j done q w
      → Goes_on left t (knowledge_after j n q w) (With done q w) (suc n)
      → OrderedSchedule m v r t
  entered_goes left c m paused q Opened r t v j done n label ok h at k go =
      kernel_goes left c m paused q Opened r t v j done n label ok h at k go
  entered_goes left c m paused q (Forked i) r t v j done n label ok h at k go =
      kernel_goes left c m paused q (Forked i) r t v j done n label ok h at k go
  entered_goes left c m paused q (Offered w ch) r t v j done n label ok h at k go =
      kernel_goes left c m paused q (Offered w ch) r t v j done n label ok h at k go
  entered_goes left c m paused q Ended r t v j done n label ok h at k go =
      kernel_goes left c m paused q Ended r t v j done n label ok h at k go
  entered_goes left c m paused q (Faulted i) r t v j done n label ok h at k go = absurd ok
  entered_goes left c m paused q Laid r t v j done n label ok h at k go = absurd ok
  entered_goes left c m paused q Paused r t v j done n label ok h at k go =
      go _ m r h.2 v _ (record {
        linked = pause_linked m v j done n label q at.linked;
        sound = at.sound;
        known = at.known;
        no_fault = at.no_fault;
      })

  along_goes : (turn : ℕ) (es : List Occurrence) (c : JournalState) (s : StateOf g) (r : ℕ) (t : StateOf g)
      (v : JudgeNotes)
      (j : Knowledge) (done : List Occurrence) (n : ℕ) (label : ℕ → Option Event) → Along g turn c s es r t → IsClean es
      → KnownAfterEntries s v j done n label → KnownFrom j done es → OrderedSchedule s v r t
  along_goes turn [] c s r t v j done n label a clean at k =
      record {
        names = [];
        size = sym a.0;
        leads = a.1;
        still = ap (λ (z : StateOf g). z.fault) a.1 ∙ at.no_fault;
        ordered = tt;
      }
  along_goes turn (e ∷ es) c s r t v j done n label a clean at k =
      subst (λ z. OrderedSchedule s v z t) (sym a.size)
      (turned turn (c.since e.who) e.who a.steps s a.middle a.paused a.rest t v j done n label a.turns at
      (λ w at1. entered_goes _ c a.middle a.paused e.who e.what a.rest t w j done n label clean.0 a.enters at1 k.0
      (λ c1 u d b x lb at2. along_goes turn es c1 u d t x (knowledge_after j n e.who e.what) (With done e.who e.what)
      (suc n)
      lb b clean.1 at2
      (subst (λ z. KnownFrom (knowledge_after j z e.who e.what) (With done e.who e.what) es) at.linked.size k.1))))

  pub linked_start : NotesMatch (start g) no_notes no_knowledge [] 0 (λ i. None)
  linked_start = record {
    size = refl;
    past = λ q i h. absurd (omega (arith, h));
    below = λ q i h. absurd (false≢true h);
    pends = λ c z w e k. absurd (none-some _ e);
    free = λ c e. refl;
    forks = λ q. refl;
    apart = λ i k h l e f. absurd (none-some _ f);
    made = λ i h e f. absurd (none-some _ f);
    offers = λ c w e h. absurd (false≢true h);
  }

  -- a run that is done or idle, whose journal is ordered: each lawful schedule ends as it does
  pub each_ends_alike : (turn : ℕ) (es : List Occurrence) (n : ℕ) (t : StateOf g) → IsDisjointRun g
      → IsAlong g turn es n t → IsClean es → IsDone g t ⊎ IsIdle g t → AreOrdered es
      → (qs : List Name) (u : StateOf g) → Lawful g (start g) qs u → EndsAlike (system_of g) (start g) n t qs u
  each_ends_alike turn es n t disjoint along clean end ordered qs u other =
      let go = along_goes turn es before_entries (start g) n t no_notes no_knowledge [] 0 (λ i. None) along clean
      (record {
        linked = linked_start;
        sound = sound_opening (superpascal g) (root g) (first_store g);
        known = knows_nothing;
        no_fault = refl;
      }) (ordered_known es ordered) in
      let idle : IsIdle g t = ⊎_elim (λ (d : IsDone g t). done_idle g t (go.names, go.leads) d) (λ (i : IsIdle g t). i)
      end in
      subst (λ k. EndsAlike (system_of g) (start g) k t qs u) go.size
      (confluence (superpascal g) (total_limits g) (root g) (first_store g) (superpascal_keeps g) disjoint go.names t
      go.leads
      go.still (λ p. ap (step_with (total_limits g) t p) (idle p)) go.ordered qs u other)
