-- Along a journal without a fault go its entries with their steps, each of which is a good one.
use Rattle.std.proofs.Common.{◌≡◌, ◌⊎◌, ⊎_elim, inl, inr, ℕ, zero, suc, ◌+◌, ◌<◌, Bool, true, false, cond, ◌&&◌, ◌==◌}
use Rattle.std.proofs.Common.{nat_le, List, [], ◌∷◌, ◌++◌, length, append_assoc, append-nil, Option, Some, None, eq-eqb}
use Rattle.std.proofs.Common.{refl, sym, ap, ◌∙◌, subst, arith}
use Rattle.std.proofs.lemmas.Bool.{false≢true, ne_eqb}
use Rattle.std.proofs.lemmas.Option.{none-some, same_Some}
use Rattle.sp_journal.specs.Past.{Knowledge, knowledge_after, knowledge_from}
use Rattle.sp_meaning.specs.Model.{Name, same_name, Language, Moves, Opens, Forks, Offering, EndsProcess, MeetsFault}
use Rattle.sp_meaning.specs.Model.{with_changes}
use Rattle.sp_meaning.specs.Steps.{ActOf, Advances, way_of, own_part}
use Rattle.sp_meaning.specs.LocalWork.{RunInput, Process}
use Rattle.sp_meaning.specs.SuperPascal.{superpascal, pauses_next}
use Rattle.sp_meaning.specs.Entries.{Happening, Opened, Forked, Offered, Faulted, Laid, Paused, Occurrence}
use Rattle.sp_journal.specs.Names as happenings
use Rattle.sp_meaning.specs.Runs.{StateOf, start, total_limits, Lawful, happening_of, happening_at}
use Rattle.sp_meaning.specs.Along.{Either, ticks_of, is_due_after, Turn, JournalState, with_ticks, course_after}
use Rattle.sp_meaning.specs.Along.{KernelStep}
use Rattle.sp_meaning.specs.Along.{EntryStep, Along}
use Rattle.sp_meaning.specs.Along.{IsCleanly, IsClean}
use Rattle.sp_meaning.proofs.JournalSchedules.{no_fault_step}
use Rattle.sp_race.specs.Notes.{Event, JudgeNotes, next_event_of, KnowsBefore}
use Rattle.sp_race.specs.RunNotes.{WithNotes, notes_after}
use Rattle.sp_race.specs.OfferOrder.{KnowsOffers, KnownFrom}
use Rattle.sp_race.specs.PastsAndNotes.{known_label, NotesMatch}
use Rattle.sp_race.proofs.GoodSteps.{GoodStep, leads_on, steps}
use Rattle.sp_race.proofs.NoteLaws.{known_linked}
use Rattle.sp_race.proofs.LinkedSteps.{opens_linked, forks_linked, ends_linked, moves_linked, offers_linked}
use Rattle.sp_race.proofs.LinkedSteps.{pause_linked}
use Rattle.sp_race.proofs.OrderedSchedules.{KnownAfterEntries, Stepped, stepped, said, next_at, local_moves, moves_know}
use Rattle.sp_witness.proofs.Independent.{IsLocal}
use Rattle.sp_witness.proofs.IndependentSteps.{Head, Tag, Block, heads, Does, Runs, BlockRuns}
use Rattle.sp_witness.proofs.Pasts.{heads_from}
use Rattle.sp_witness.proofs.Ticks.{ticks_by, ticks_after, said_same}
use Rattle.sp_witness.proofs.Blocks.{AllSilent, IsLast, Valid, since_all, AllValid}
use Rattle.sp_witness.proofs.Blocks as blocks

module _ (g : RunInput) where
  abbrev L : Language
  L = superpascal g

  abbrev pub beside : StateOf g → JudgeNotes → WithNotes L
  beside s v = record { state = s; notes = v }

  -- a lawful schedule leads from the start to this state
  abbrev pub Before : StateOf g → Type 0
  Before s = (qs : List Name) × Lawful g (start g) qs s

  -- what names indices below n is kept
  abbrev pub LabelsAgree : (ℕ → Option Event) → (ℕ → Option Event) → ℕ → Type 0
  LabelsAgree lf label n = (k : ℕ) → k < n → lf k ≡ label k

  abbrev pub tag_of : StateOf g → Process → Tag g
  tag_of s own = record { own = own; act = L.next own s.store; pauses = pauses_next g own s.store }

  before_step : (s : StateOf g) (q : Name) (own : Process) (m : StateOf g) → Before s → s.fault ≡ None
      → Stepped g s q own m → Before m
  before_step s q own m way no_fault x = (
    way.0 ++ q ∷ [],
    leads_on (total_limits g) way.0 (q ∷ []) (start g) s m way.1 (
      m,
      no_fault,
      steps s q x.cs x.makes
          ∙ ap (λ (z : StateOf g). Some z) (sym x.to),
      refl,
    ),
  )

  -- a step that knows what it must is a good one
  good_step : (s : StateOf g) (v : JudgeNotes) (j : Knowledge) (done : List Occurrence) (n : ℕ) (label : ℕ
      → Option Event)
      (q : Name) (own : Process) (m : StateOf g) → Before s → KnownAfterEntries g s v j done n label
      → Stepped g s q own m
      → KnowsBefore L v q (L.next own s.store)
      → GoodStep (total_limits g) (start g) (beside s v) q (beside m (notes_after s v q (L.next own s.store)))
  good_step s v j done n label q own m way at x knows = record {
    way = way.0;
    leads = way.1;
    sound = at.sound;
    known = at.known;
    no_fault = at.no_fault;
    cs = x.cs;
    makes = x.makes;
    to = x.to;
    noted = ap (λ z. notes_after s v q (L.next z s.store)) (sym x.process_is);
    knows = subst (λ z. KnowsBefore L v q (L.next z s.store)) (sym x.process_is) knows;
  }

  -- what the process knows, by the indices and by the notes
  pub knows_so : (s : StateOf g) (v : JudgeNotes) (j : Knowledge) (done : List Occurrence) (n : ℕ) (label lf : ℕ
      → Option Event)
      (q : Name) → KnownAfterEntries g s v j done n label → LabelsAgree lf label n → (k : ℕ) (e : Event) → k < n
      → lf k ≡ Some e
      → v.past q e ≡ j.past q k
  knows_so s v j done n label lf q at agree k e lt is =
      sym (at.linked.past q k lt ∙ ap (known_label (v.past q)) (sym (agree k lt) ∙ is))

  -- the local steps of an entry
  pub record Turned (turn since : ℕ) (q : Name) (s m : StateOf g) (v : JudgeNotes) (j : Knowledge)
      (done : List Occurrence)
      (n : ℕ) (label : ℕ → Option Event) (h : Head) (paused : Bool) : Type 0 where
    pub notes : JudgeNotes
    pub known : KnownAfterEntries g m notes j done n label
    pub way : Before m
    pub tags : List (Tag g)
    pub runs : (lf : ℕ → Option Event) → LabelsAgree lf label n → Runs g lf (beside s v) h tags (beside m notes)
    pub kind : ((paused ≡ false) × AllSilent g turn since tags)
        ⊎ ((paused ≡ true) × Valid g turn since Paused tags (ticks_of g m q))

  pub turned : (turn since : ℕ) (q : Name) (k : ℕ) (s m : StateOf g) (v : JudgeNotes) (j : Knowledge)
      (done : List Occurrence)
      (n : ℕ) (label : ℕ → Option Event) (h : Head) (paused : Bool) → h.who ≡ q → h.position ≡ n → h.knows ≡ j.past q
      → Turn g turn since q k s m paused → KnownAfterEntries g s v j done n label → Before s
      → Turned turn since q s m v j done n label h paused
  turned turn since q zero s m v j done n label h paused hw ha hk turns at way = record {
    notes = v;
    known = subst (λ z. KnownAfterEntries g z v j done n label) (sym turns.stays) at;
    way = subst Before (sym turns.stays) way;
    tags = [];
    runs = λ lf agree. λ i. beside (turns.stays i) v;
    kind = inl (turns.unpaused, tt);
  }
  turned turn since q (suc k) s m v j done n label h paused hw ha hk turns at way =
      let own : Process = turns.process in
      let u : StateOf g = turns.next in
      let x = stepped g s q own u turns.runs turns.steps (no_fault_step g s q own u None turns.runs turns.enters_none tt
      turns.steps at.no_fault) in
      let mv = local_moves g s q own u x turns.enters_none in
      let at1 = next_at g s v j done n label q own u at x j done n label
      (moves_linked s v q x.cs at.sound at.known x.makes j done n label at.linked mv.next_own mv.writes mv.move_is) in
      let knows = subst (λ z. KnowsBefore L v q (L.next z s.store)) x.process_is (moves_know g s x.makes.own v q mv) in
      let act_is : L.next own s.store ≡ Moves mv.next_own mv.writes = ap (λ z. L.next z s.store) (sym x.process_is)
      ∙ mv.move_is in
      let w : JudgeNotes = notes_after s v q (L.next own s.store) in
      let good = good_step s v j done n label q own u way at x knows in
      let ticks : ticks_of g u q ≡ mv.next_own.own.ticks = ap (λ z. ticks_of g z q) x.to
      ∙ ticks_after g s q x.cs at.sound x.makes ∙ ap (ticks_by g) mv.move_is in
      let does : (lf : ℕ → Option Event) → LabelsAgree lf label n
      → Does g lf (beside s v) h (tag_of s own) (beside u w) =
      λ lf agree. record {
        fits = record {
          works = subst (λ z. own_part s z ≡ Some own) (sym hw) turns.runs;
          act_is = refl;
          pauses_are = refl;
          past = λ i e lt is. ap (λ z. v.past z e) hw
              ∙ knows_so s v j done n label lf q at agree i e (subst (λ z. i < z) ha lt) is ∙ ap (λ f. f i) (sym hk);
          named = inl (subst IsLocal (sym act_is) tt);
        };
        good = subst (λ z. GoodStep (total_limits g) (start g) (beside s v) z (beside u w)) (sym hw) good;
      } in
      rest own u w at1 (before_step s q own u way at.no_fault x) does (is_due_after g turn since s own q u) refl
      turns.ahead
      (λ y. turned turn since q k u m w j done n label h paused hw ha hk y at1
      (before_step s q own u way at.no_fault x))
      (λ b e. record {
        to = mv.next_own;
        writes = mv.writes;
        move_is = act_is;
        due_is =
            ap (λ z. pauses_next g own s.store && nat_le (since + turn) z) (sym ticks) ∙ e;
        ticks_are = ticks;
      })
    where
      rest : (own : Process) (u : StateOf g) (w : JudgeNotes) → KnownAfterEntries g u w j done n label → Before u
          → ((lf : ℕ → Option Event) → LabelsAgree lf label n → Does g lf (beside s v) h (tag_of s own) (beside u w))
          → (b : Bool) → is_due_after g turn since s own q u ≡ b
          → Either b ((k ≡ 0) × (m ≡ u) × (paused ≡ true)) (Turn g turn since q k u m paused)
          → (Turn g turn since q k u m paused → Turned turn since q u m w j done n label h paused)
          → ((b : Bool) → is_due_after g turn since s own q u ≡ b
          → blocks.IsMove g turn since (tag_of s own) b (ticks_of g u q))
          → Turned turn since q s m v j done n label h paused
      rest own u w at1 way1 does true e y again move = record {
        notes = w;
        known = subst (λ z. KnownAfterEntries g z w j done n label) (sym y.1) at1;
        way = subst Before (sym y.1) way1;
        tags = tag_of s own ∷ [];
        runs = λ lf agree. (beside u w, does lf agree, λ i. beside (y.1 i) w);
        kind = inr (
          y.2,
          inr (
            refl,
            subst (λ (z : StateOf g). blocks.IsMove g turn since (tag_of s own) true (ticks_of g z q)) (sym y.1)
                (move true e),
          ),
        );
      }
      rest own u w at1 way1 does false e y again move =
          let r = again y in
          record {
            notes = r.notes;
            known = r.known;
            way = r.way;
            tags = tag_of s own ∷ r.tags;
            runs = λ lf agree. (beside u w, does lf agree, r.runs lf agree);
            kind = ⊎_elim
                (λ (z : (paused ≡ false) × AllSilent g turn since r.tags). inl
                (z.0, ((ticks_of g u q, move false e), z.1)))
                (λ (z : (paused ≡ true) × Valid g turn since Paused r.tags (ticks_of g m q)). inr (
                  z.0,
                  inl ((ticks_of g u q, move false e), z.1),
                ))
                r.kind;
          }

  -- what is known once an entry is made
  abbrev pub With : List Occurrence → Name → Happening → List Occurrence
  With done q w = done ++ record { who = q; what = w } ∷ []

  abbrev pub grown : ℕ → JudgeNotes → Name → (ℕ → Option Event) → ℕ → Option Event
  grown n v q label i = cond (n == i) (Some (next_event_of v q)) (label i)

  record EntersAt (s : StateOf g) (v : JudgeNotes) (q : Name) (own : Process) (m : StateOf g) (j : Knowledge)
      (done : List Occurrence) (n : ℕ) (label : ℕ → Option Event) (w : Happening) : Type 0 where
    at : KnownAfterEntries g m (notes_after s v q (L.next own s.store)) (knowledge_after j n q w) (With done q w)
        (suc n) (grown n v q label)
    knows : KnowsBefore L v q (L.next own s.store)

  enters : (s : StateOf g) (v : JudgeNotes) (q : Name) (own : Process) (m : StateOf g) (j : Knowledge)
      (done : List Occurrence)
      (n : ℕ) (label : ℕ → Option Event) (w : Happening) → KnownAfterEntries g s v j done n label
      → (x : Stepped g s q own m)
      → happening_at g s q own ≡ Some w → KnowsOffers j done q w → EntersAt s v q own m j done n label w
  enters s v q own m j done n label w at x is knows =
      by (L.next x.makes.own s.store) refl w (sym (said g s q own m x) ∙ is) knows
    where
      put : (w : Happening)
          → NotesMatch (with_changes x.cs s) (notes_after s v q (L.next x.makes.own s.store)) (knowledge_after j n q w)
          (With done q w)
          (suc n) (grown n v q label) → KnowsBefore L v q (L.next x.makes.own s.store)
          → EntersAt s v q own m j done n label w
      put w l k = record {
        at = next_at g s v j done n label q own m at x (knowledge_after j n q w) (With done q w) (suc n)
            (grown n v q label)
            l;
        knows = subst (λ z. KnowsBefore L v q (L.next z s.store)) x.process_is k;
      }

      by : (a : ActOf L) → L.next x.makes.own s.store ≡ a → (w : Happening) → happening_of a (Advances x.cs) ≡ Some w
          → KnowsOffers j done q w → EntersAt s v q own m j done n label w
      by (Moves o ws) e w h k = absurd (none-some _ h)
      by (MeetsFault f) e w h k = absurd (none-some _ h)
      by (Opens o ws) e w h k =
          subst (EntersAt s v q own m j done n label) (same_Some _ _ h)
          (put Opened (opens_linked s v q x.cs at.sound at.known x.makes j done n label at.linked o ws e)
          (subst (λ a. KnowsBefore L v q a) (sym e) tt))
      by (Forks o os) e w h k =
          subst (EntersAt s v q own m j done n label) (same_Some _ _ h)
          (put (Forked (length os)) (forks_linked s v q x.cs at.sound at.known x.makes j done n label at.linked o os e)
          (subst (λ a. KnowsBefore L v q a) (sym e) tt))
      by (Offering o) e w h k =
          let k' : KnowsOffers j done q (Offered (way_of o.payload) o.channel) =
          subst (KnowsOffers j done q) (sym (same_Some _ _ h)) k in
          subst (EntersAt s v q own m j done n label) (same_Some _ _ h)
          (put (Offered (way_of o.payload) o.channel)
          (offers_linked s v q x.cs at.sound at.known x.makes j done n label at.linked o e)
          (subst (λ a. KnowsBefore L v q a) (sym e) (known_linked s v j done n label q o at.linked k')))
      by EndsProcess e w h k = subst (EntersAt s v q own m j done n label) (same_Some _ _ h)
          (put happenings.Ended (ends_linked s v q x.cs at.sound at.known x.makes j done n label at.linked e)
          (subst (λ a. KnowsBefore L v q a) (sym e) tt))

  -- an entry with its steps
  record Entry (turn : ℕ) (left : JournalState → StateOf g → ℕ
      → Type 0) (c : JournalState) (s : StateOf g) (v : JudgeNotes)
      (j : Knowledge)
      (done : List Occurrence) (n : ℕ) (label : ℕ → Option Event) (q : Name) (what : Happening) : Type 0 where
    course : JournalState
    state : StateOf g
    steps_left : ℕ
    goes_on : left course state steps_left
    notes : JudgeNotes
    label_after : ℕ → Option Event
    at : KnownAfterEntries g state notes (knowledge_after j n q what) (With done q what) (suc n) label_after
    way : Before state
    tags : List (Tag g)
    runs : (lf : ℕ → Option Event) → LabelsAgree lf label_after (suc n)
        → Runs g lf (beside s v) (record { who = q; what = what; position = n; knows = j.past q }) tags
        (beside state notes)
    agree : LabelsAgree label_after label n
    valid : Valid g turn (c.since q) what tags (ticks_of g state q)
    since : course.since ≡ (λ r. cond (same_name q r) (ticks_of g state q) (c.since r))

  abbrev HeadOf : Knowledge → ℕ → Name → Happening → Head
  HeadOf j n q what = record { who = q; what = what; position = n; knows = j.past q }

  kernel_entry : (turn : ℕ) (left : JournalState → StateOf g → ℕ
      → Type 0) (c : JournalState) (s m : StateOf g) (paused : Bool)
      (v : JudgeNotes) (j : Knowledge) (done : List Occurrence) (n : ℕ) (label : ℕ → Option Event) (q : Name)
      (what : Happening)
      (r : ℕ) → IsCleanly what
      → ((x : Tag g) (ticks : ℕ) → blocks.IsStepOfEntry g turn x what ticks → IsLast g turn (c.since q) what x ticks)
      → ((ticks : ℕ) → (course_after q what ticks c).since ≡ (λ r. cond (same_name q r) ticks (c.since r)))
      → KernelStep g left c m paused q what r
      → Turned turn (c.since q) q s m v j done n label (HeadOf j n q what) paused
      → KnowsOffers j done q what → Entry turn left c s v j done n label q what
  kernel_entry turn left c s m paused v j done n label q what r ok last since_is
      (_, k) t knows =
      let own : Process = k.makes.process in
      let u : StateOf g = k.next in
      let x = stepped g m q own u k.makes.runs k.makes.steps (no_fault_step g m q own u
      (Some what) k.makes.runs k.makes.happens ok k.makes.steps t.known.no_fault) in
      let y = enters m t.notes q own u j done n label what t.known x k.makes.happens knows in
      let w : JudgeNotes = notes_after m t.notes q (L.next own m.store) in
      let lab = grown n t.notes q label in
      let agree : LabelsAgree lab label n = λ i lt. rw (ne_eqb n i (λ e. omega (arith, e, lt))) in
      let good = good_step m t.notes j done n label q own u t.way t.known x y.knows in
      let ticks : ticks_of g u q ≡ ticks_by g (L.next own m.store) = ap (λ z. ticks_of g z q) x.to
      ∙ ticks_after g m q x.cs t.known.sound x.makes ∙ ap (λ z. ticks_by g (L.next z m.store)) x.process_is in
      let says_it : happening_of {L = L} (L.next own m.store) (Advances []) ≡ Some what =
      said_same {L = L} (L.next own m.store) [] x.cs
      ∙ ap (λ z. happening_of {L = L} (L.next z m.store) (Advances x.cs)) (sym x.process_is) ∙ sym (said g m q own u x)
      ∙ k.makes.happens in
      let silent : AllSilent g turn (c.since q) t.tags =
      ⊎_elim (λ (z : (paused ≡ false) × AllSilent g turn (c.since q) t.tags). z.1)
      (λ (z : (paused ≡ true) × Valid g turn (c.since q) Paused t.tags (ticks_of g m q)). absurd
      (false≢true (sym k.unpaused ∙ z.0))) t.kind in
      record {
        course = course_after q what (ticks_of g u q) c;
        state = u;
        steps_left = k.rest;
        goes_on = k.ahead;
        notes = w;
        label_after = lab;
        at = y.at;
        way = before_step m q own u t.way t.known.no_fault x;
        tags = t.tags ++ tag_of m own ∷ [];
        runs = λ lf ag. run_on lf (HeadOf j n q what) t.tags (tag_of m own) (beside s v) (beside m t.notes) (beside u w)
            (t.runs lf (λ i lt. ag i (omega (arith, lt)) ∙ agree i lt)) (record {
              fits = record {
                works = k.makes.runs;
                act_is = refl;
                pauses_are = refl;
                past = λ i e lt is. knows_so m t.notes j done n label lf q t.known (λ z lt. ag z (omega (arith, lt))
                    ∙ agree z lt) i e lt is;
                named = inr (ag n (omega arith) ∙ rw (eq-eqb n n refl) refl);
              };
              good = good;
            });
        agree = agree;
        valid = valid_on (c.since q) t.tags (tag_of m own) (ticks_of g u q) silent
            (last (tag_of m own) (ticks_of g u q) (says_it, ticks));
        since = since_is (ticks_of g u q);
      }
    where
      run_on : (lf : ℕ → Option Event) (h : Head) (xs : List (Tag g)) (x : Tag g) (a b d : WithNotes L)
          → Runs g lf a h xs b → Does g lf b h x d → Runs g lf a h (xs ++ x ∷ []) d
      run_on lf h [] x a b d r y = (d, subst (λ z. Does g lf z h x d) r y, refl)
      run_on lf h (z ∷ xs) x a b d r y = (r.0, r.1, run_on lf h xs x r.0 b d r.2 y)

      valid_on : (since : ℕ) (xs : List (Tag g)) (x : Tag g) (ticks : ℕ) → AllSilent g turn since xs
          → IsLast g turn since what x ticks → Valid g turn since what (xs ++ x ∷ []) ticks
      valid_on since [] x ticks silent l = inr (refl, l)
      valid_on since (z ∷ xs) x ticks silent l = inl (silent.0, valid_on since xs x ticks silent.1 l)

  entry : (turn : ℕ) (left : JournalState → StateOf g → ℕ → Type 0) (c : JournalState) (s m : StateOf g) (paused : Bool)
      (v : JudgeNotes)
      (j : Knowledge) (done : List Occurrence) (n : ℕ) (label : ℕ → Option Event) (q : Name) (what : Happening) (r : ℕ)
      → IsCleanly what
      → EntryStep g left c m paused q what r → Turned turn (c.since q) q s m v j done n label (HeadOf j n q what) paused
      → KnowsOffers j done q what → Entry turn left c s v j done n label q what
  entry turn left c s m paused v j done n label q Opened r ok h t k =
      kernel_entry turn left c s m paused v j done n label q Opened r ok (λ x i y. y) (λ i. refl) h t k
  entry turn left c s m paused v j done n label q (Forked i) r ok h t k =
      kernel_entry turn left c s m paused v j done n label q (Forked i) r ok (λ x i y. y) (λ i. refl) h t k
  entry turn left c s m paused v j done n label q (Offered w d) r ok h t k =
      kernel_entry turn left c s m paused v j done n label q (Offered w d) r ok (λ x i y. y) (λ i. refl) h t k
  entry turn left c s m paused v j done n label q happenings.Ended r ok h t k =
      kernel_entry turn left c s m paused v j done n label q happenings.Ended r ok (λ x i y. y) (λ i. refl) h t k
  entry turn left c s m paused v j done n label q (Faulted f) r ok h t k = absurd ok
  entry turn left c s m paused v j done n label q Laid r ok h t k = absurd ok
  entry turn left c s m paused v j done n label q Paused r ok h t k = record {
    course = with_ticks q (ticks_of g m q) c;
    state = m;
    steps_left = r;
    goes_on = h.2;
    notes = t.notes;
    label_after = λ i. cond (n == i) None (label i);
    at = record {
      linked = pause_linked m t.notes j done n label q t.known.linked;
      sound = t.known.sound;
      known = t.known.known;
      no_fault = t.known.no_fault;
    };
    way = t.way;
    tags = t.tags;
    runs = λ lf ag. t.runs lf (λ k lt. ag k (omega (arith, lt)) ∙ rw (ne_eqb n k (λ e. omega (arith, e, lt))));
    agree = λ k lt. rw (ne_eqb n k (λ e. omega (arith, e, lt)));
    valid = ⊎_elim (λ (z : (paused ≡ false) × AllSilent g turn (c.since q) t.tags). absurd
        (false≢true (sym z.0 ∙ h.1))) (λ (z : (paused ≡ true)
        × Valid g turn (c.since q) Paused t.tags (ticks_of g m q)). z.1) t.kind;
    since = refl;
  }

  -- the entries of the front of a journal, with their steps, and the rest of the journal
  pub record JournalFront (turn : ℕ) (tail : List Occurrence) (t : StateOf g) (pre : List Occurrence) (c : JournalState)
      (s : StateOf g) (v : JudgeNotes) (j : Knowledge) (done : List Occurrence) (n : ℕ) (label : ℕ
      → Option Event) : Type
      0 where
    pub course : JournalState
    pub state : StateOf g
    pub steps_left : ℕ
    pub goes_on : Along g turn course state tail steps_left t
    pub notes : JudgeNotes
    pub label_after : ℕ → Option Event
    pub known : KnownAfterEntries g state notes (knowledge_from j n pre) (done ++ pre) (n + length pre) label_after
    pub way : Before state
    pub blocks_of : List (Block g)
    pub heads_are : heads g blocks_of ≡ heads_from j n pre
    pub runs : BlockRuns g label_after (beside s v) blocks_of (beside state notes)
    pub agree : LabelsAgree label_after label n
    pub valid : AllValid g turn c.since blocks_of
    pub since : course.since ≡ since_all g turn c.since blocks_of

  pub journal_front : (turn : ℕ) (tail : List Occurrence) (t : StateOf g) (pre : List Occurrence) (c : JournalState)
      (s : StateOf g)
      (r : ℕ) (v : JudgeNotes) (j : Knowledge) (done : List Occurrence) (n : ℕ) (label : ℕ → Option Event)
      → Along g turn c s (pre ++ tail) r t → IsClean pre → KnownAfterEntries g s v j done n label → Before s
      → KnownFrom j done pre
      → JournalFront turn tail t pre c s v j done n label
  journal_front turn tail t [] c s r v j done n label a clean at way known =
      let size : n ≡ n + 0 = omega arith in
      record {
        course = c;
        state = s;
        steps_left = r;
        goes_on = a;
        notes = v;
        label_after = label;
        known = subst (λ z. KnownAfterEntries g s v j z (n + 0) label) (sym (append-nil done))
            (subst (λ z. KnownAfterEntries g s v j done z label) size at);
        way = way;
        blocks_of = [];
        heads_are = refl;
        runs = refl;
        agree = λ k lt. refl;
        valid = tt;
        since = refl;
      }
  journal_front turn tail t (e ∷ pre) c s r v j done n label
      a clean at way
      known =
      let tu = turned turn (c.since e.who) e.who a.steps s a.middle v j done n label (HeadOf j n e.who e.what) a.paused
      refl refl refl a.turns at way in
      let en = entry turn (λ c1 u d. Along g turn c1 u (pre ++ tail) d t) c s a.middle a.paused v j done n label e.who
      e.what a.rest clean.0 a.enters tu known.0 in
      let k : KnownFrom (knowledge_after j n e.who e.what) (With done e.who e.what) pre =
      subst (λ z. KnownFrom (knowledge_after j z e.who e.what) (With done e.who e.what) pre) at.linked.size known.1 in
      let w = journal_front turn tail t pre en.course en.state en.steps_left en.notes (knowledge_after j n e.who e.what)
      (With done e.who e.what) (suc n) en.label_after en.goes_on clean.1 en.at en.way k in
      let b : Block g = record { head = HeadOf j n e.who e.what; tags = en.tags; ticks = ticks_of g en.state e.who } in
      let size : suc n + length pre ≡ n + suc (length pre) = omega arith in
      record {
        course = w.course;
        state = w.state;
        steps_left = w.steps_left;
        goes_on = w.goes_on;
        notes = w.notes;
        label_after = w.label_after;
        known = subst (λ z. KnownAfterEntries g w.state w.notes
            (knowledge_from (knowledge_after j n e.who e.what) (suc n) pre) (done ++ e ∷ pre) z
            w.label_after) size
            (subst (λ z. KnownAfterEntries g w.state w.notes
            (knowledge_from (knowledge_after j n e.who e.what) (suc n) pre) z
            (suc n + length pre) w.label_after) (append_assoc done (e ∷ []) pre) w.known);
        way = w.way;
        blocks_of = b ∷ w.blocks_of;
        heads_are = ap (λ z. HeadOf j n e.who e.what ∷ z) w.heads_are;
        runs = (beside en.state en.notes, en.runs w.label_after w.agree, w.runs);
        agree = λ k lt. w.agree k (omega (arith, lt)) ∙ en.agree k lt;
        valid = (en.valid, subst (λ z. AllValid g turn z w.blocks_of) en.since w.valid);
        since = w.since ∙ ap (λ z. since_all g turn z w.blocks_of) en.since;
      }
