-- Along each journal of the program that waits for a message, to an end: it has opened its channel, waits on it and is
-- in a deadlock.
use Rattle.std.proofs.Common.{◌≡◌, inl, inr, ℕ, true, List, [], ◌∷◌, Option, Some, None, refl, sym, ◌∙◌}
use Rattle.std.proofs.Common.{ap, subst, map}
use Rattle.sp_base.specs.declared.limits.TheConstants.{TURN_TICKS}
use Rattle.sp_journal.specs.declared.entry.Way.{Way}
use Rattle.sp_journal.specs.declared.entry.Way.TheVariants as way
use Rattle.sp_journal.specs.declared.outcome.End.{End}
use Rattle.sp_journal.specs.declared.outcome.End.TheVariants as end
use Rattle.sp_meaning.specs.Along.{Along, JournalState, course_after, before_entries}
use Rattle.sp_meaning.specs.Ends.{EndIs, IsDeadlock, Waiting, WaitsSo, name_before, waiter_of}
use Rattle.sp_meaning.specs.Entries.{Happening, Occurrence, Offered, Opened}
use Rattle.sp_meaning.specs.LocalWork.{Address, LocationContent, Process, RunInput}
use Rattle.sp_meaning.specs.Model.{Absent, Channel, Condition, Ended, Joins, Name, Waits, Works}
use Rattle.sp_meaning.specs.Runs.{StateOf, next_state, output_of, running_process, start}
use Rattle.sp_meaning.specs.Steps.{way_of}
use Rattle.promise_rows.specs.Files.{root_waits}
use Rattle.promise_rows.specs.Programs.{run_of, waits}
use Rattle.promise_rows.proofs.RootJournals.{GoesOn, Leads, RootRuns, by_entry, forced, over, own_in, some_none}

abbrev pub g : RunInput
g = run_of waits

abbrev or_start : Option (StateOf g) → StateOf g
or_start None = start g
or_start (Some s) = s

-- behind the open, and behind the offer
abbrev opened : StateOf g
opened = or_start (next_state g (start g) [])

abbrev pub waiting : StateOf g
waiting = or_start (next_state g opened [])

abbrev own_at : StateOf g → Process
own_at s = own_in (running_process g s [])

abbrev first_channel : Channel
first_channel = record { owner = []; nth = 0 }

at_start : RootRuns g (start g) (own_at (start g))
at_start = record { runs = refl; alone = λ a q. refl }

at_opened : RootRuns g opened (own_at opened)
at_opened = record { runs = refl; alone = λ a q. refl }

to_open : Leads g Opened opened (start g)
to_open = by_entry (own_at (start g)) at_start refl refl

to_offer : Leads g (Offered way.Receive first_channel) waiting opened
to_offer = by_entry (own_at opened) at_opened refl refl

idle : (q : Name) → running_process g waiting q ≡ None
idle [] = refl
idle (a ∷ q) = refl

no_end : (x : End) → EndIs g (start g) x → ⊥
no_end end.Done h = cc h
no_end (end.Deadlock ws) h = some_none ⊥ (running_process g (start g) []) _ refl (h.1.idle [])
no_end (end.Fault p f) h = cc h.1
no_end end.Memory h = h

no_end_yet : (x : End) → EndIs g opened x → ⊥
no_end_yet end.Done h = cc h
no_end_yet (end.Deadlock ws) h = some_none ⊥ (running_process g opened []) _ refl (h.1.idle [])
no_end_yet (end.Fault p f) h = cc h.1
no_end_yet end.Memory h = h

abbrev the_one : Waiting
the_one = record { who = []; way = way.Receive; channel = first_channel }

the_one_waits : WaitsSo g waiting the_one
the_one_waits = (_, refl, refl, refl)

-- what a process waits for, in its condition
abbrev way_in : Condition Process LocationContent Address → Way
way_in (Waits o) = way_of o.payload
way_in Absent = way.Send
way_in (Works own) = way.Send
way_in (Joins fork count next_state) = way.Send
way_in Ended = way.Send

abbrev channel_in : Condition Process LocationContent Address → Channel
channel_in (Waits o) = o.channel
channel_in Absent = first_channel
channel_in (Works own) = first_channel
channel_in (Joins fork count next_state) = first_channel
channel_in Ended = first_channel

only_one : (who : Name) (w : Way) (d : Channel) → WaitsSo g waiting (record { who = who; way = w; channel = d })
    → ◌≡◌ {A = Waiting} (record { who = who; way = w; channel = d }) the_one
only_one [] w d (o, cond, ways, channels) =
    ap (λ (x : Way). record { who = []; way = x; channel = d }) (ways ∙ sym (ap way_in cond))
    ∙ ap (λ (y : Channel). record { who = []; way = way.Receive; channel = y }) (channels ∙ sym (ap channel_in cond))
only_one (a ∷ q) w d (o, cond, ways, channels) = absurd (cc cond)

is_one : (v : Waiting) → WaitsSo g waiting v → v ≡ the_one
is_one v h = only_one v.who v.way v.channel h

not_before : (p q : Name) → p ≡ [] → q ≡ [] → name_before p q ≡ true → ⊥
not_before p q e f h = no_true (subst (λ (x : Name). name_before x [] ≡ true) e
    (subst (λ (y : Name). name_before p y ≡ true) f h))
  where
    no_true : name_before [] [] ≡ true → ⊥
    no_true x = cc x

alone : (vs : List Waiting) → IsDeadlock g waiting vs → vs ≡ the_one ∷ []
alone [] h = absurd (h.whole the_one the_one_waits)
alone (v ∷ []) h = ap (λ (x : Waiting). x ∷ []) (is_one v (h.only v (inl refl)))
alone (v ∷ (u ∷ vs)) h = absurd (not_before v.who u.who (ap (λ (x : Waiting). x.who) (is_one v (h.only v (inl refl))))
    (ap (λ (x : Waiting). x.who) (is_one u (h.only u (inr (inl refl))))) h.sorted.0)

waits_end : (x : End) → EndIs g waiting x → x ≡ end.Deadlock (root_waits ∷ [])
waits_end end.Done h = absurd (cc h)
waits_end (end.Deadlock ws) (vs, h, e) = ap end.Deadlock (e ∙ ap (map waiter_of) (alone vs h))
waits_end (end.Fault p f) h = absurd (cc h.1)
waits_end end.Memory h = absurd h

-- the open, and the offer that waits
abbrev pub two_entries : List Occurrence
two_entries = record { who = []; what = Opened } ∷ record { who = []; what = Offered way.Receive first_channel } ∷ []

pub record IsOver (es : List Occurrence) (t : StateOf g) (x : End) : Type 0 where
  pub journal : es ≡ two_entries
  pub output : output_of g t ≡ []
  pub end : x ≡ end.Deadlock (root_waits ∷ [])

occurrence : (e : Occurrence) (what : Happening) → e.who ≡ [] → e.what ≡ what → e ≡ record { who = []; what = what }
occurrence e what p q = ap (λ (x : Name). record { who = x; what = e.what }) p
    ∙ ap (λ (y : Happening). record { who = []; what = y }) q

module _ (t : StateOf g) (x : End) (h : EndIs g t x) where
  second : (e d : Occurrence) (c : JournalState) → e.who ≡ [] → e.what ≡ Opened → (es : List Occurrence)
      → GoesOn g TURN_TICKS c (Offered way.Receive first_channel) waiting d es t → IsOver (e ∷ d ∷ es) t x
  second e d c p q [] k = record {
    journal = ap (λ (y : Occurrence). y ∷ d ∷ []) (occurrence e Opened p q)
        ∙ ap (λ (y : Occurrence). record { who = []; what = Opened } ∷ y ∷ [])
        (occurrence d (Offered way.Receive first_channel) k.who k.what);
    output = ap (output_of g) k.along.1;
    end = waits_end x (subst (λ s. EndIs g s x) k.along.1 h);
  }
  second e d c p q (f ∷ es) k = absurd (over g TURN_TICKS
      (course_after [] (Offered way.Receive first_channel) k.ticks c) waiting idle f es k.rest t k.along)

  first : (e : Occurrence) (es : List Occurrence) → GoesOn g TURN_TICKS before_entries Opened opened e es t
      → IsOver (e ∷ es) t x
  first e [] k = absurd (no_end_yet x (subst (λ s. EndIs g s x) k.along.1 h))
  first e (d ∷ es) k = second e d (course_after [] Opened k.ticks before_entries) k.who k.what es
      (forced g TURN_TICKS (course_after [] Opened k.ticks before_entries)
      (Offered way.Receive first_channel) waiting opened
      to_offer refl d es k.rest t k.along)

pub is_over : (es : List Occurrence) (n : ℕ) (t : StateOf g) (x : End)
    → Along g TURN_TICKS before_entries (start g) es n t
    → EndIs g t x → IsOver es t x
is_over [] n t x (e, f) h = absurd (no_end x (subst (λ s. EndIs g s x) f h))
is_over (e ∷ es) n t x a h = first t x h e es
    (forced g TURN_TICKS before_entries Opened opened (start g) to_open refl e es n t a)
