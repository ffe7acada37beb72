-- Entries with their steps are a run along the journal of these entries.
use Rattle.std.proofs.Common.{◌≡◌, ⊎_elim, ℕ, zero, suc, ◌+◌, Bool, true, false, cond, ◌&&◌, nat_le, List, [], ◌∷◌}
use Rattle.std.proofs.Common.{◌++◌, Option, Some, None, refl, sym, ap, ◌∙◌, subst}
use Rattle.std.proofs.lemmas.Option.{same_Some}
use Rattle.sp_meaning.specs.Model.{Name, same_name, Language}
use Rattle.sp_meaning.specs.Steps.{Advances, act_outcome, fault_or}
use Rattle.sp_meaning.specs.LocalWork.{RunInput, Process}
use Rattle.sp_meaning.specs.SuperPascal.{superpascal}
use Rattle.sp_meaning.specs.Entries.{Happening, Opened, Forked, Offered, Faulted, Laid, Paused, Occurrence}
use Rattle.sp_journal.specs.Names as happenings
use Rattle.sp_meaning.specs.Runs.{StateOf, running_process, next_state, happening_of, happening_at}
use Rattle.sp_meaning.specs.Along.{Either, ticks_of, is_due_after, Turn, MakesEntry, JournalState, with_ticks}
use Rattle.sp_meaning.specs.Along.{course_after, KernelStep}
use Rattle.sp_meaning.specs.Along.{EntryStep, Along}
use Rattle.sp_race.specs.Notes.{Event}
use Rattle.sp_race.specs.RunNotes.{WithNotes}
use Rattle.sp_race.proofs.GoodSteps.{steps}
use Rattle.sp_witness.proofs.IndependentSteps.{Head, Tag, Block, Does, Runs, BlockRuns}
use Rattle.sp_witness.proofs.Ticks.{ticks_by, ticks_after, said_same}
use Rattle.sp_witness.proofs.Blocks.{IsMove, IsLocalNotDue, AllSilent, IsStepOfEntry, IsLast, Valid, since_after}
use Rattle.sp_witness.proofs.Blocks.{since_all, AllValid}

abbrev pub entry_of : Head → Occurrence
entry_of h = record { who = h.who; what = h.what }

module _ (g : RunInput) where
  abbrev L : Language
  L = superpascal g

  abbrev pub entries : List (Block g) → List Occurrence
  entries [] = []
  entries (b ∷ bs) = entry_of b.head ∷ entries bs

  module _ (turn : ℕ) (label : ℕ → Option Event) where
    module _ (s : WithNotes L) (h : Head) (x : Tag g) (m : WithNotes L) (does : Does g label s h x m) where
      own_is : does.good.makes.own ≡ x.own
      own_is = same_Some _ _ (sym does.good.makes.works ∙ does.fits.works)

      says_is : happening_at g s.state h.who x.own ≡ happening_of {L = L} x.act (Advances [])
      says_is =
          let a = L.next does.good.makes.own s.state.store in
          ap (happening_at g s.state h.who) (sym own_is)
          ∙ ap (happening_of {L = L} a) (ap (λ f. fault_or f (act_outcome s.state h.who a)) does.good.makes.within
          ∙ does.good.makes.does)
          ∙ said_same {L = L} a does.good.cs []
          ∙ ap (λ z. happening_of {L = L} z (Advances [])) (ap (λ o. L.next o s.state.store) own_is ∙ does.fits.act_is)

      next_is : next_state g s.state h.who ≡ Some m.state
      next_is = steps s.state h.who does.good.cs does.good.makes ∙ ap (λ (z : StateOf g). Some z) (sym does.good.to)

      ticks_are : ticks_of g m.state h.who ≡ ticks_by g x.act
      ticks_are = ap (λ z. ticks_of g z h.who) does.good.to
          ∙ ticks_after g s.state h.who does.good.cs does.good.sound does.good.makes
          ∙ ap (ticks_by g) (ap (λ o. L.next o s.state.store) own_is ∙ does.fits.act_is)

      due_is : (since : ℕ) (b : Bool) (ticks : ℕ) → IsMove g turn since x b ticks
          → is_due_after g turn since s.state x.own h.who m.state ≡ b
      due_is since b ticks v =
          (λ i. does.fits.pauses_are i && nat_le (since + turn) ((ticks_are ∙ ap (ticks_by g) v.move_is) i)) ∙ v.due_is

      local_says : (since : ℕ) (b : Bool) (ticks : ℕ) → IsMove g turn since x b ticks
          → happening_at g s.state h.who x.own ≡ None
      local_says since b ticks v = says_is ∙ ap (λ z. happening_of {L = L} z (Advances [])) v.move_is

    -- one local step that is not due, in front
    more_turn : (since : ℕ) (s m : WithNotes L) (h : Head) (x : Tag g) (k : ℕ) (t : StateOf g) (paused : Bool)
        → Does g label s h x m → IsLocalNotDue g turn since x → Turn g turn since h.who k m.state t paused
        → Turn g turn since h.who (suc k) s.state t paused
    more_turn since s m h x k t paused does silent go =
        let b = due_is s h x m does since false silent.0 silent.1 in record {
          process = x.own;
          runs = does.fits.works;
          enters_none = local_says s h x m does since false silent.0 silent.1;
          next = m.state;
          steps = next_is s h x m does;
          ahead = subst (λ z. Either z ((k ≡ 0) × (t ≡ m.state) × (paused ≡ true))
              (Turn g turn since h.who k m.state t paused)) (sym b) go;
        }

    -- local steps up to a kernel step
    pub turn_silent : (since : ℕ) (s m : WithNotes L) (h : Head) (xs : List (Tag g)) → AllSilent g turn since xs
        → Runs g label s h xs m → (own : Process) → running_process g m.state h.who ≡ Some own → (what : Happening)
        → happening_at g m.state h.who own ≡ Some what
        → (k : ℕ) × Turn g turn since h.who k s.state m.state false
    turn_silent since s m h [] silent r own w what is =
        let e : m.state ≡ s.state = ap (λ (z : WithNotes L). z.state) r in (
          zero,
          record {
            stays = e;
            unpaused = refl;
            process = own;
            runs = subst (λ (z : StateOf g). running_process g z h.who ≡ Some own) e w;
            what = what;
            happens = subst (λ (z : StateOf g). happening_at g z h.who own ≡ Some what) e is;
          },
        )
    turn_silent since s m h (x ∷ xs) silent r own w what is =
        let t = turn_silent since r.0 m h xs silent.1 r.2 own w what is in
        (suc t.0, more_turn since s r.0 h x t.0 m.state false r.1 silent.0 t.1)

    abbrev EndsBy : StateOf g → StateOf g → Bool → Name → Happening → Type 0
    EndsBy mid u paused q Paused = (paused ≡ true) × (mid ≡ u)
    EndsBy mid u paused q (Forked n) = (paused ≡ false) × MakesEntry g mid q (Forked n) u
    EndsBy mid u paused q Opened = (paused ≡ false) × MakesEntry g mid q Opened u
    EndsBy mid u paused q (Offered w c) = (paused ≡ false) × MakesEntry g mid q (Offered w c) u
    EndsBy mid u paused q happenings.Ended = (paused ≡ false) × MakesEntry g mid q happenings.Ended u
    EndsBy mid u paused q (Faulted f) = ⊥
    EndsBy mid u paused q Laid = ⊥

    record Back (since : ℕ) (s u : StateOf g) (q : Name) (what : Happening) (ticks : ℕ) : Type 0 where
      count : ℕ
      mid : StateOf g
      paused : Bool
      turns : Turn g turn since q count s mid paused
      ends : EndsBy mid u paused q what
      ticks_end : ticks_of g u q ≡ ticks

    back : (since : ℕ) (s u : WithNotes L) (h : Head) (xs : List (Tag g)) (what : Happening) (ticks : ℕ)
        → Valid g turn since what xs ticks → Runs g label s h xs u → Back since s.state u.state h.who what ticks
    back since s u h [] what ticks v r = absurd v
    back since s u h (x ∷ xs) what ticks v r = ⊎_elim
        (λ (y : IsLocalNotDue g turn since x × Valid g turn since what xs ticks).
        let b = back since r.0 u h xs what ticks y.1 r.2 in
        record {
          count = suc b.count;
          mid = b.mid;
          paused = b.paused;
          turns =
              more_turn since s r.0 h x b.count b.mid b.paused r.1 y.0 b.turns;
          ends = b.ends;
          ticks_end = b.ticks_end;
        })
        (λ (y : (xs ≡ []) × IsLast g turn since what x ticks).
        let e : u ≡ r.0 = subst (λ z. Runs g label r.0 h z u) y.0 r.2 in
        subst (λ (z : WithNotes L). Back since s.state z.state h.who what ticks) (sym e) (last what r.0 r.1 y.1))
        v
      where
        kernel : (w : Happening) (m : WithNotes L) → Does g label s h x m → IsStepOfEntry g turn x w ticks
            → ((mid : StateOf g) → (false ≡ false) × MakesEntry g mid h.who w m.state
            → EndsBy mid m.state false h.who w)
            → Back since s.state m.state h.who w ticks
        kernel w m does y ends =
            let is : happening_at g s.state h.who x.own ≡ Some w = says_is s h x m does ∙ y.0 in
            record {
              count = zero;
              mid = s.state;
              paused = false;
              turns = record {
                stays = refl;
                unpaused = refl;
                process = x.own;
                runs = does.fits.works;
                what = w;
                happens = is;
              };
              ends = ends s.state (
                refl,
                record { process = x.own; runs = does.fits.works; happens = is; steps = next_is s h x m does },
              );
              ticks_end = ticks_are s h x m does ∙ sym y.1;
            }

        last : (w : Happening) (m : WithNotes L) → Does g label s h x m → IsLast g turn since w x ticks
            → Back since s.state m.state h.who w ticks
        last Paused m does y =
            let b = due_is s h x m does since true ticks y in
            record {
              count = suc zero;
              mid = m.state;
              paused = true;
              turns = record {
                process = x.own;
                runs = does.fits.works;
                enters_none = local_says s h x m does since true ticks y;
                next = m.state;
                steps = next_is s h x m does;
                ahead = subst (λ z. Either z ((zero ≡ 0) × (m.state ≡ m.state) × (true ≡ true))
                    (Turn g turn since h.who zero m.state m.state true)) (sym b) (refl, refl, refl);
              };
              ends = (refl, refl);
              ticks_end = ticks_are s h x m does ∙ ap (ticks_by g) y.move_is ∙ sym y.ticks_are;
            }
        last (Forked n) m does y = kernel (Forked n) m does y (λ mid z. z)
        last Opened m does y = kernel Opened m does y (λ mid z. z)
        last (Offered w c) m does y = kernel (Offered w c) m does y (λ mid z. z)
        last happenings.Ended m does y = kernel happenings.Ended m does y (λ mid z. z)
        last (Faulted f) m does y = absurd y
        last Laid m does y = absurd y

    -- no fault stands, and nobody is laid
    abbrev pub IsFair : JournalState → Type 0
    IsFair c = (c.faulted ≡ false) × ((q : Name) → c.laid q ≡ false)

    kernel_made : (left : JournalState → StateOf g → ℕ → Type 0) (c : JournalState) (mid u : StateOf g) (paused : Bool)
        (q : Name) (what : Happening) (rest : ℕ) → IsFair c → (paused ≡ false) × MakesEntry g mid q what u
        → left (course_after q what (ticks_of g u q) c) u rest → KernelStep g left c mid paused q what (suc rest)
    kernel_made left c mid u paused q what rest fair (unpaused, makes) ahead =
        (fair.0, record { unpaused = unpaused; next = u; rest = rest; size = refl; makes = makes; ahead = ahead })

    entered : (left : JournalState → StateOf g → ℕ
        → Type 0) (c : JournalState) (mid u : StateOf g) (paused : Bool) (q : Name)
        (what : Happening) (ticks : ℕ) → IsFair c → EndsBy mid u paused q what → ticks_of g u q ≡ ticks
        → ((c1 : JournalState) → c1.since ≡ (λ z. cond (same_name q z) ticks (c.since z)) → IsFair c1
        → (r : ℕ) × left c1 u r)
        → (n : ℕ) × EntryStep g left c mid paused q what n
    entered left c mid u paused q Paused ticks fair ends t go =
        let x = go (with_ticks q (ticks_of g u q) c) (λ i z. cond (same_name q z) (t i) (c.since z)) fair in (
          x.0,
          (
            fair.0,
            ends.0,
            subst (λ (z : StateOf g). left (with_ticks q (ticks_of g z q) c) z x.0)
                (sym ends.1) x.1,
          ),
        )
    entered left c mid u paused q (Forked n) ticks fair ends t go =
        let x = go (course_after q (Forked n) (ticks_of g u q) c) (λ i z. cond (same_name q z) (t i) (c.since z))
        fair in
        (suc x.0, kernel_made left c mid u paused q (Forked n) x.0 fair ends x.1)
    entered left c mid u paused q Opened ticks fair ends t go =
        let x = go (course_after q Opened (ticks_of g u q) c) (λ i z. cond (same_name q z) (t i) (c.since z)) fair in
        (suc x.0, kernel_made left c mid u paused q Opened x.0 fair ends x.1)
    entered left c mid u paused q (Offered w d) ticks fair ends t go =
        let x = go (course_after q (Offered w d) (ticks_of g u q) c) (λ i z. cond (same_name q z) (t i) (c.since z))
        fair in
        (suc x.0, kernel_made left c mid u paused q (Offered w d) x.0 fair ends x.1)
    entered left c mid u paused q happenings.Ended ticks fair ends t go =
        let x = go (course_after q happenings.Ended (ticks_of g u q) c) (λ i z. cond (same_name q z) (t i) (c.since z))
        fair in
        (suc x.0, kernel_made left c mid u paused q happenings.Ended x.0 fair ends x.1)
    entered left c mid u paused q (Faulted f) ticks fair ends t go = absurd ends
    entered left c mid u paused q Laid ticks fair ends t go = absurd ends

    -- the entries, and then what goes on after them
    pub rebuilt : (tail : List Occurrence) (t : StateOf g) (bs : List (Block g)) (s u : WithNotes L) (c : JournalState)
        → BlockRuns g label s bs u → AllValid g turn c.since bs → IsFair c
        → ((c1 : JournalState) → c1.since ≡ since_all g turn c.since bs → IsFair c1
        → (r : ℕ) × Along g turn c1 u.state tail r t) → (n : ℕ) × Along g turn c s.state (entries bs ++ tail) n t
    rebuilt tail t [] s u c runs valid fair go =
        let x = go c refl fair in
        (x.0, subst (λ (z : WithNotes L). Along g turn c z.state tail x.0 t) runs x.1)
    rebuilt tail t (b ∷ bs) s u c runs valid fair go =
        let k = back (c.since b.head.who) s runs.0 b.head b.tags b.head.what b.ticks valid.0 runs.1 in
        let rest : (c1 : JournalState) → c1.since ≡ since_after g turn c.since b → IsFair c1
        → (n : ℕ) × Along g turn c1 runs.0.state (entries bs ++ tail) n t = λ c1 e f.
        rebuilt tail t bs runs.0 u c1 runs.2 (subst (λ z. AllValid g turn z bs) (sym e) valid.1) f
        (λ c2 i. go c2 (i ∙ ap (λ z. since_all g turn z bs) e)) in
        let e = entered (λ c1 u1 r. Along g turn c1 u1 (entries bs ++ tail) r t) c k.mid runs.0.state k.paused
        b.head.who b.head.what b.ticks fair k.ends k.ticks_end rest in (
          k.count + e.0,
          record {
            not_laid = fair.1 b.head.who;
            steps = k.count;
            rest = e.0;
            middle = k.mid;
            paused = k.paused;
            size = refl;
            turns = k.turns;
            enters = e.1;
          },
        )
