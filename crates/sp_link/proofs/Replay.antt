-- The other way round: where the meaning goes along a journal, the system does (`replays`). Turn and entry of the
-- meaning are functions, and the machine's turn gives one of each; so the journal's entry is the machine's.
use Rattle.std.proofs.Common.{◌≡◌, ◌⊎◌, inl, inr, ℕ, zero, suc, ◌+◌, ◌<◌, List, [], ◌∷◌, Some, None, Bool, true, false}
use Rattle.std.proofs.Common.{if◌then◌else◌, ◌&&◌, refl, sym, ap, ◌∙◌, subst, arith}
use Rattle.std.proofs.lemmas.Option.{none-some, same_Some}
use Rattle.sp_base.proofs.Facts.{not_true_and_false}
use Rattle.sp_journal.specs.declared.entry.Event.{Event}
use Rattle.sp_journal.specs.declared.entry.Event.TheVariants as event
use Rattle.sp_journal.specs.declared.entry.Way.{Way}
use Rattle.sp_journal.specs.declared.entry.Way.TheVariants as way
use Rattle.sp_journal.specs.declared.entry.Entry.{Entry}
use Rattle.sp_journal.specs.Births.{Births, channel, births_after_event, happening, occurrences_from, CanFollow}
use Rattle.sp_journal.specs.Births.{NameableFrom}
use Rattle.sp_cell.specs.Map.{Plain}
use Rattle.sp_meaning.specs.Model.{Name, Waits, Joins, Absent, Ended}
use Rattle.sp_meaning.specs.Steps.{own_part_in, all_ended, has_ended}
use Rattle.sp_meaning.specs.Entries.{Happening, Offered, Laid, Paused}
use Rattle.sp_meaning.specs.LocalWork.{RunInput, Process}
use Rattle.sp_meaning.specs.Runs.{StateOf, running_process, happening_at}
use Rattle.sp_meaning.specs.Along.{Turn, JournalState, KernelStep, EntryStep, Along, with_fault, with_ticks, ticks_of}
use Rattle.sp_meaning.specs.Along.{course_after}
use Rattle.sp_meaning.proofs.TurnWalks.{turn_runs}
use Rattle.sp_code.specs.Machine.{Config}
use Rattle.sp_code.specs.Memory.{Memory}
use Rattle.sp_code.specs.PlainStore.{plain}
use Rattle.sp_code.specs.System.{System, EntriesLead}
use Rattle.sp_code.specs.System as sys
use Rattle.sp_link.proofs.JournalEntries.{entry}
use Rattle.sp_link.proofs.Journal.{Now, IsOpen, AllBegan}
use Rattle.sp_link.proofs.OneState.{SameTurnEnd, turn_one}
use Rattle.sp_link.proofs.Relation.{RunContext, BirthRights, RightsOfAll, Linked, Began, at_open, Performs_all, run_is}
use Rattle.sp_link.proofs.Relation.{left_of}
use Rattle.sp_link.proofs.Relation.{stop_of}

-- ---- and so is its entry

module _ (g : RunInput) where
  -- an entry's three forms
  abbrev pub Forms : (JournalState → StateOf g → ℕ → Type 0) → JournalState → StateOf g → Bool → Name → Happening → ℕ
      → Type 0
  Forms left c m p q what n = ((what ≡ Laid) × (c.faulted ≡ true) × left (with_fault q c) m n)
      ⊎ (((what ≡ Paused) × (c.faulted ≡ false) × (p ≡ true) × left (with_ticks q (ticks_of g m q) c) m n)
      ⊎ KernelStep g left c m p q what n)

  forms : (left : JournalState → StateOf g → ℕ
      → Type 0) (c : JournalState) (m : StateOf g) (p : Bool) (q : Name) (what : Happening)
      (n : ℕ) → EntryStep g left c m p q what n → Forms left c m p q what n
  forms left c m p q Laid n h = inl (refl, h.0, h.1)
  forms left c m p q Paused n h = inr (inl (refl, h.0, h.1, h.2))
  forms _ _ _ _ _ _ _ h = inr (inr h)

  abbrev pub Here : JournalState → StateOf g → JournalState → StateOf g → ℕ → Type 0
  Here c1 s1 c2 s2 n = (c2 ≡ c1) × (s2 ≡ s1)

  -- two entries from one place are one, and lead to one place
  pub entry_one : (left : JournalState → StateOf g → ℕ
      → Type 0) (c c1 : JournalState) (m s1 : StateOf g) (p : Bool) (q : Name)
      (a b : Happening) (n k : ℕ)
      → EntryStep g (Here c1 s1) c m p q a n → EntryStep g left c m p q b k → (a ≡ b) × ((r : ℕ) × left c1 s1 r)
  entry_one left c c1 m s1 p q a b n k h i = both (forms (Here c1 s1) c m p q a n h) (forms left c m p q b k i)
    where
      moved : (c2 : JournalState) (s2 : StateOf g) (r : ℕ) → Here c1 s1 c2 s2 0 → left c2 s2 r → left c1 s1 r
      moved c2 s2 r e x = subst (λ y. left y s1 r) e.0 (subst (λ y. left c2 y r) e.1 x)

      both : Forms (Here c1 s1) c m p q a n → Forms left c m p q b k → (a ≡ b) × ((r : ℕ) × left c1 s1 r)
      both (inl x) (inl y) = (x.0 ∙ sym y.0, (k, moved _ _ k x.2 y.2))
      both (inl x) (inr (inl y)) = absurd (not_true_and_false c.faulted x.1 y.1)
      both (inl x) (inr (inr y)) = absurd (not_true_and_false c.faulted x.1 y.0)
      both (inr (inl x)) (inl y) = absurd (not_true_and_false c.faulted y.1 x.1)
      both (inr (inl (is0, _, _, left0))) (inr (inl (is1, _, _, left1))) = (is0 ∙ sym is1, (k, moved _ _ k left0 left1))
      both (inr (inl x)) (inr (inr y)) = absurd (not_true_and_false p x.2 y.1.unpaused)
      both (inr (inr x)) (inl y) = absurd (not_true_and_false c.faulted y.1 x.0)
      both (inr (inr x)) (inr (inl y)) = absurd (not_true_and_false p y.2 x.1.unpaused)
      both (inr (inr (_, x))) (inr (inr (_, y))) =
          let one : x.makes.process ≡ y.makes.process =
          same_Some x.makes.process y.makes.process (sym x.makes.runs ∙ y.makes.runs) in
          let what : a ≡ b = same_Some a b (sym x.makes.happens ∙ ap (λ z. happening_at g m q z) one
          ∙ y.makes.happens) in
          let meets : x.next ≡ y.next = same_Some x.next y.next (sym x.makes.steps ∙ y.makes.steps) in (
            what,
            (
              y.rest,
              moved _ _ y.rest x.ahead (subst (λ z. left (course_after q z (ticks_of g x.next q) c) x.next y.rest)
                  (sym what)
                  (subst (λ z. left (course_after q b (ticks_of g z q) c) z y.rest) (sym meets) y.ahead)),
            ),
          )

-- ---- a journal

-- where all have ended none is left
over_none : (G : RunContext) (lf : BirthRights) (kids : ℕ → ℕ → BirthRights) (q : Name)
    (c : Name → Rattle.sp_meaning.specs.Model.Condition Process Rattle.sp_meaning.specs.LocalWork.LocationContent
    Rattle.sp_meaning.specs.LocalWork.Address) (k n : ℕ) → all_ended c q k n ≡ true → left_of G lf kids q c k n ≡ 0
over_none G lf kids q c k zero e = refl
over_none G lf kids q c k (suc n) e = by (has_ended (c ((k, n) ∷ q))) refl e (λ h. over_none G lf kids q c k n h)
  where
    by : (b : Bool) → has_ended (c ((k, n) ∷ q)) ≡ b → b && all_ended c q k n ≡ true
        → (all_ended c q k n ≡ true → left_of G lf kids q c k n ≡ 0) → left_of G lf kids q c k (suc n) ≡ 0
    by true f h ih =
        let x : left_of G lf kids q c k (suc n) ≡ 0 + left_of G lf kids q c k n =
        ap (λ b. (if b then 0 else 1) + left_of G lf kids q c k n) f in
        let y = ih h in omega (arith, x, y)
    by false f h ih = absurd (cc h)

-- of the events that speak of open channels one has one name
module _ (G : RunContext) (b : Births) (began : Began G b) where
  one_channel : (x y : ℕ) → x < b.channels → y < b.channels → channel b x ≡ channel b y → x ≡ y
  one_channel x y l m e = G.one_channel x y (few x l) (few y m) (sym (began.openings x l) ∙ e ∙ began.openings y m)
    where
      few : (j : ℕ) → j < b.channels → j < G.births.channels
      few j h = let a = began.channels in omega (arith, a, h)

  offered_is : (v w : Way) (c d : Rattle.sp_meaning.specs.Model.Channel) → Offered v c ≡ Offered w d → (v ≡ w) × (c ≡ d)
  offered_is v w c d e = (cc e, cc e)

  pub one_event : (f e : Event) → IsOpen b f → IsOpen b e → happening b f ≡ happening b e → f ≡ e
  one_event (event.Fork n) (event.Fork k) h g e = let z : n ≡ k = cc e in ap (λ y. event.Fork y) z
  one_event (event.Fork n) event.Open h g e = absurd (cc e)
  one_event (event.Fork n) (event.Send y) h g e = absurd (cc e)
  one_event (event.Fork n) (event.Receive y) h g e = absurd (cc e)
  one_event (event.Fork n) event.End h g e = absurd (cc e)
  one_event (event.Fork n) (event.Fault k) h g e = absurd (cc e)
  one_event (event.Fork n) event.Laid h g e = absurd (cc e)
  one_event (event.Fork n) event.Pause h g e = absurd (cc e)
  one_event event.Open (event.Fork k) h g e = absurd (cc e)
  one_event event.Open event.Open h k e = refl
  one_event event.Open (event.Send y) h g e = absurd (cc e)
  one_event event.Open (event.Receive y) h g e = absurd (cc e)
  one_event event.Open event.End h g e = absurd (cc e)
  one_event event.Open (event.Fault k) h g e = absurd (cc e)
  one_event event.Open event.Laid h g e = absurd (cc e)
  one_event event.Open event.Pause h g e = absurd (cc e)
  one_event (event.Send x) (event.Fork k) h g e = absurd (cc e)
  one_event (event.Send x) event.Open h g e = absurd (cc e)
  one_event (event.Send x) (event.Send y) h k e =
      ap (λ z. event.Send z) (one_channel x y h k (offered_is way.Send way.Send (channel b x) (channel b y) e).1)
  one_event (event.Send x) (event.Receive y) h k e = let z : way.Send ≡ way.Receive =
      (offered_is way.Send way.Receive (channel b x) (channel b y) e).0 in absurd (cc z)
  one_event (event.Send x) event.End h g e = absurd (cc e)
  one_event (event.Send x) (event.Fault k) h g e = absurd (cc e)
  one_event (event.Send x) event.Laid h g e = absurd (cc e)
  one_event (event.Send x) event.Pause h g e = absurd (cc e)
  one_event (event.Receive x) (event.Fork k) h g e = absurd (cc e)
  one_event (event.Receive x) event.Open h g e = absurd (cc e)
  one_event (event.Receive x) (event.Send y) h k e = let z : way.Receive ≡ way.Send =
      (offered_is way.Receive way.Send (channel b x) (channel b y) e).0 in absurd (cc z)
  one_event (event.Receive x) (event.Receive y) h k e =
      ap (λ z. event.Receive z) (one_channel x y h k
      (offered_is way.Receive way.Receive (channel b x) (channel b y) e).1)
  one_event (event.Receive x) event.End h g e = absurd (cc e)
  one_event (event.Receive x) (event.Fault k) h g e = absurd (cc e)
  one_event (event.Receive x) event.Laid h g e = absurd (cc e)
  one_event (event.Receive x) event.Pause h g e = absurd (cc e)
  one_event event.End (event.Fork k) h g e = absurd (cc e)
  one_event event.End event.Open h g e = absurd (cc e)
  one_event event.End (event.Send y) h g e = absurd (cc e)
  one_event event.End (event.Receive y) h g e = absurd (cc e)
  one_event event.End event.End h k e = refl
  one_event event.End (event.Fault k) h g e = absurd (cc e)
  one_event event.End event.Laid h g e = absurd (cc e)
  one_event event.End event.Pause h g e = absurd (cc e)
  one_event (event.Fault n) (event.Fork k) h g e = absurd (cc e)
  one_event (event.Fault n) event.Open h g e = absurd (cc e)
  one_event (event.Fault n) (event.Send y) h g e = absurd (cc e)
  one_event (event.Fault n) (event.Receive y) h g e = absurd (cc e)
  one_event (event.Fault n) event.End h g e = absurd (cc e)
  one_event (event.Fault n) (event.Fault k) h g e = let z : n ≡ k = cc e in ap (λ y. event.Fault y) z
  one_event (event.Fault n) event.Laid h g e = absurd (cc e)
  one_event (event.Fault n) event.Pause h g e = absurd (cc e)
  one_event event.Laid (event.Fork k) h g e = absurd (cc e)
  one_event event.Laid event.Open h g e = absurd (cc e)
  one_event event.Laid (event.Send y) h g e = absurd (cc e)
  one_event event.Laid (event.Receive y) h g e = absurd (cc e)
  one_event event.Laid event.End h g e = absurd (cc e)
  one_event event.Laid (event.Fault k) h g e = absurd (cc e)
  one_event event.Laid event.Laid h k e = refl
  one_event event.Laid event.Pause h g e = absurd (cc e)
  one_event event.Pause (event.Fork k) h g e = absurd (cc e)
  one_event event.Pause event.Open h g e = absurd (cc e)
  one_event event.Pause (event.Send y) h g e = absurd (cc e)
  one_event event.Pause (event.Receive y) h g e = absurd (cc e)
  one_event event.Pause event.End h g e = absurd (cc e)
  one_event event.Pause (event.Fault k) h g e = absurd (cc e)
  one_event event.Pause event.Laid h g e = absurd (cc e)
  one_event event.Pause event.Pause h k e = refl

-- an event that can come next
pub follows_open : (b : Births) (p : ℕ) (e : Event) → CanFollow b (record { process = p; event = e }) → IsOpen b e
follows_open b p (event.Send c) h = h.1
follows_open b p (event.Receive c) h = h.1
follows_open _ _ _ _ = tt

module _ (G : RunContext) where
  -- who is running in the meaning runs in the machine
  pub runs_there : (lv : RightsOfAll G) (c : JournalState) (s : StateOf G.g) (u : System Plain) → Linked G lv c s u
      → (i : ℕ)
      → i < u.births.processes → (own : Process) → running_process G.g s (G.births.name i) ≡ Some own
      → c.laid (G.births.name i) ≡ false → (d : Config (Memory Plain)) × (u.condition i ≡ sys.Working d)
  runs_there lv c s u l i lt own e la = go (u.condition i) refl (l.does i lt)
    where
      w : Name
      w = G.births.name i

      idle : (x : Rattle.sp_meaning.specs.Model.Condition Process Rattle.sp_meaning.specs.LocalWork.LocationContent
          Rattle.sp_meaning.specs.LocalWork.Address) → s.condition (G.births.name i) ≡ x
          → own_part_in s.condition (G.births.name i) x ≡ Some own
      idle x h = ap (own_part_in s.condition (G.births.name i)) (sym h) ∙ e

      joined : (left k n : ℕ) (pr : Process) (d : Config (Memory Plain)) → s.condition (G.births.name i) ≡ Joins k n pr
          → Rattle.sp_link.proofs.Relation.Joined G (lv (G.births.name i)) (λ a b. lv ((a, b) ∷ G.births.name i))
          (G.births.name i) (c.since (G.births.name i)) k n left pr s d → ⊥
      joined left k n pr d h z = by (all_ended s.condition (G.births.name i) k n) refl (idle (Joins k n pr) h)
        where
          by : (b : Bool) → all_ended s.condition (G.births.name i) k n ≡ b → (if b then Some pr else None) ≡ Some own
              → ⊥
          by true f g1 = let y = over_none G (lv (G.births.name i)) (λ a b. lv ((a, b) ∷ G.births.name i))
              (G.births.name i) s.condition k n f in let a = z.count in let b = z.some in omega (arith, y, a, b)
          by false f g1 = none-some own g1

      go : (x : sys.Condition Plain) → u.condition i ≡ x → Performs_all G lv (G.births.name i) c s (u.births.opens i) x
          → (d : Config (Memory Plain)) × (u.condition i ≡ sys.Working d)
      go sys.Absent h z = absurd z
      go (sys.Working d) h z = (d, h)
      go (sys.Waits y d) h z = absurd (none-some own (idle (Waits z.0) z.1))
      go (sys.Joins left d) h (k, n, pr, joins, stands, _, _) = absurd (joined left k n pr d joins stands)
      go (sys.Laid d) h z = absurd (let a : true ≡ false = sym z.0 ∙ la in cc a)
      go sys.Gone h z = absurd (none-some own (idle Ended z.0))
      go (sys.Over d) h z = absurd (none-some own (idle Ended z.0))

module _ (G : RunContext) where
  pub replays : (es : List Entry) (lv : RightsOfAll G) (c : JournalState) (s : StateOf G.g) (u : System Plain)
      → Now G lv c s u
      → AllBegan G u.births es → NameableFrom u.births es → (n : ℕ) (t : StateOf G.g)
      → Along G.g G.pause c s (occurrences_from u.births es) n t → (v : System Plain)
      × EntriesLead plain (run_is G) u es v
  replays [] lv c s u l b y n t h = (u, refl)
  replays (e ∷ es) lv c s u l b y n t along =
      on (λ lv1 c1 s1 u1 k b1 y1 r h1. replays es lv1 c1 s1 u1 k b1 y1 r t h1)
    where
      w : Name
      w = G.births.name e.process

      lt : e.process < u.births.processes
      lt = let ((room, _), _) = y in room

      name_is : u.births.name e.process ≡ G.births.name e.process
      name_is = l.began.names e.process lt

      unlaid : c.laid (G.births.name e.process) ≡ false
      unlaid = subst (λ a. c.laid a ≡ false) name_is along.not_laid

      way : Turn G.g G.pause (c.since (G.births.name e.process)) (G.births.name e.process) along.steps s
          along.middle along.paused
      way = subst (λ a. Turn G.g G.pause (c.since a) a along.steps s along.middle along.paused) name_is
          along.turns

      left : JournalState → StateOf G.g → ℕ → Type 0
      left c1 s1 r = Along G.g G.pause c1 s1 (occurrences_from (births_after_event u.births e.process e.event) es) r t

      entered : EntryStep G.g left c along.middle along.paused (G.births.name e.process) (happening u.births e.event)
          along.rest
      entered = subst (λ a. EntryStep G.g left c along.middle along.paused a (happening u.births e.event) along.rest)
          name_is along.enters

      own : (a : Process) × (running_process G.g s (G.births.name e.process) ≡ Some a)
      own = turn_runs G.g G.pause (c.since (G.births.name e.process)) (G.births.name e.process) along.steps s
          along.middle along.paused way

      at : (d : Config (Memory Plain)) × (u.condition e.process ≡ sys.Working d)
      at = runs_there (at_open G u.births.channels) lv c s u l e.process lt own.0 own.1 unlaid

      en : Rattle.sp_link.proofs.Pauses.Entry_of (at_open G u.births.channels) c s u e.process at.0
      en = entry (stop_of (at_open G u.births.channels) lv c s u l e.process at.0 at.1)

      f : Event
      f = sys.event_of G.g.limits u en.turn

      u1 : System Plain
      u1 = sys.system_after_turn plain (run_is G) e.process en.turn u

      same : SameTurnEnd G.g G.pause (c.since (G.births.name e.process)) (G.births.name e.process) en.way.steps
          along.steps en.way.source along.middle en.way.paused along.paused
      same = turn_one G.g G.pause (c.since (G.births.name e.process)) (G.births.name e.process) en.way.steps
          along.steps s en.way.source along.middle en.way.paused along.paused en.way.turn way

      its : EntryStep G.g (Here G.g en.way.course en.way.state) c along.middle along.paused (G.births.name e.process)
          (happening u.births f)
          (en.way.cost + 0)
      its = subst (λ a. EntryStep G.g (Here G.g en.way.course en.way.state) c a along.paused (G.births.name e.process)
          (happening u.births f) (en.way.cost + 0)) same.state
          (subst (λ a. EntryStep G.g (Here G.g en.way.course en.way.state) c en.way.source a (G.births.name e.process)
          (happening u.births f) (en.way.cost + 0)) same.paused
          (en.way.enters (Here G.g en.way.course en.way.state) 0 (refl, refl)))

      one : (happening u.births f ≡ happening u.births e.event) × ((r : ℕ) × left en.way.course en.way.state r)
      one = entry_one G.g left c en.way.course along.middle en.way.state along.paused (G.births.name e.process)
          (happening u.births f)
          (happening u.births e.event) (en.way.cost + 0) along.rest its entered

      event_is : f ≡ e.event
      event_is = one_event (at_open G u.births.channels) u.births l.began f e.event en.speaks
          (follows_open u.births e.process e.event y.0) one.0

      births_are : u1.births ≡ births_after_event u.births e.process e.event
      births_are = ap (λ a. births_after_event u.births e.process a) event_is

      on : ((lv1 : RightsOfAll G) (c1 : JournalState) (s1 : StateOf G.g) (u1 : System Plain) → Now G lv1 c1 s1 u1
          → AllBegan G u1.births es → NameableFrom u1.births es → (r : ℕ)
          → Along G.g G.pause c1 s1 (occurrences_from u1.births es) r t → (v : System Plain)
          × EntriesLead plain (run_is G) u1 es v) → (v : System Plain) × EntriesLead plain (run_is G) u (e ∷ es) v
      on ih =
          let (steps_left, goes_on) = one.1 in
          let z = ih en.lives en.way.course en.way.state u1 (en.linked (subst (λ a. Began G a) (sym births_are) b.0))
          (subst (λ a. AllBegan G a es) (sym births_are) b.1) (subst (λ a. NameableFrom a es) (sym births_are) y.1)
          steps_left (subst (λ a. Along G.g G.pause en.way.course en.way.state (occurrences_from a es) steps_left t)
          (sym births_are) goes_on) in
          (z.0, (u1, (at.0, at.1, en.turn, en.is_turn, event_is, refl), z.1))
