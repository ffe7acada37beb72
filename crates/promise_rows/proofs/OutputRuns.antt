-- Along each journal of the program that writes 42, to an end: it has written it and is done, and the journal has one
-- entry.
use Rattle.std.proofs.Common.{◌≡◌, ℕ, List, [], ◌∷◌, Option, Some, None, false, refl, ◌∙◌, ap, subst}
use Rattle.std.specs.Prelude.{codes}
use Rattle.sp_base.specs.declared.limits.TheConstants.{TURN_TICKS}
use Rattle.sp_journal.specs.declared.outcome.End.{End}
use Rattle.sp_journal.specs.declared.outcome.End.TheVariants as end
use Rattle.sp_meaning.specs.Along.{Along, course_after, before_entries}
use Rattle.sp_meaning.specs.Ends.{EndIs, EndsSo}
use Rattle.sp_meaning.specs.Entries.{Happening, Occurrence}
use Rattle.sp_journal.specs.Names as happenings
use Rattle.sp_meaning.specs.LocalWork.{Process, RunInput}
use Rattle.sp_meaning.specs.Model.{Name}
use Rattle.sp_meaning.specs.Runs.{StateOf, next_state, output_of, running_process, start}
use Rattle.promise_rows.specs.Programs.{run_of, writes_42}
use Rattle.promise_rows.proofs.RootJournals.{GoesOn, Leads, RootRuns, by_entry, by_step, forced, over, own_in}
use Rattle.promise_rows.proofs.RootJournals.{some_none}

abbrev pub g : RunInput
g = run_of writes_42

abbrev or_start : Option (StateOf g) → StateOf g
or_start None = start g
or_start (Some s) = s

-- behind the write, and behind the end
abbrev written : StateOf g
written = or_start (next_state g (start g) [])

abbrev pub ended : StateOf g
ended = or_start (next_state g written [])

abbrev own_at : StateOf g → Process
own_at s = own_in (running_process g s [])

at_start : RootRuns g (start g) (own_at (start g))
at_start = record { runs = refl; alone = λ a q. refl }

at_written : RootRuns g written (own_at written)
at_written = record { runs = refl; alone = λ a q. refl }

way : Leads g happenings.Ended ended (start g)
way = by_step (own_at (start g)) written at_start refl refl refl (by_entry (own_at written) at_written refl refl)

idle : (q : Name) → running_process g ended q ≡ None
idle [] = refl
idle (a ∷ q) = refl

abbrev the_end : Occurrence
the_end = record { who = []; what = happenings.Ended }

-- the end alone
abbrev pub one_end : List Occurrence
one_end = the_end ∷ []

-- the state with its end and its journal
pub record IsOver (es : List Occurrence) (t : StateOf g) (x : End) : Type 0 where
  pub journal : es ≡ one_end
  pub output : output_of g t ≡ codes "42"
  pub end : x ≡ end.Done

no_end : (x : End) → EndIs g (start g) x → ⊥
no_end end.Done h = cc h
no_end (end.Deadlock ws) h = some_none ⊥ (running_process g (start g) []) _ refl (h.1.idle [])
no_end (end.Fault p f) h = cc h.1
no_end end.Memory h = h

done : (x : End) → EndIs g ended x → x ≡ end.Done
done end.Done h = refl
done (end.Deadlock ws) h = absurd (h.1.goes_on refl)
done (end.Fault p f) h = absurd (cc h.1)
done end.Memory h = absurd h

occurrence : (e : Occurrence) → e.who ≡ [] → e.what ≡ happenings.Ended
    → e ≡ record { who = []; what = happenings.Ended }
occurrence e p q = ap (λ (x : Name). record { who = x; what = e.what }) p
    ∙ ap (λ (y : Happening). record { who = []; what = y }) q

pub is_over : (es : List Occurrence) (n : ℕ) (t : StateOf g) (x : End)
    → Along g TURN_TICKS before_entries (start g) es n t
    → EndIs g t x → IsOver es t x
is_over [] n t x (e, f) h = absurd (no_end x (subst (λ s. EndIs g s x) f h))
is_over (e ∷ es) n t x a h = go es (forced g TURN_TICKS before_entries happenings.Ended ended
    (start g) way refl e es n t a)
  where
    go : (es : List Occurrence) → GoesOn g TURN_TICKS before_entries happenings.Ended ended e es t → IsOver (e ∷ es) t x
    go [] k = record {
      journal = ap (λ y. y ∷ []) (occurrence e k.who k.what);
      output = ap (output_of g) k.along.1;
      end = done x (subst (λ s. EndIs g s x) k.along.1 h);
    }
    go (d ∷ es) k = absurd (over g TURN_TICKS _ ended idle d es k.rest t k.along)

-- the meaning is defined along the end alone, and leads to that state
pub meant : Along g TURN_TICKS before_entries (start g) one_end 2 ended
meant = record {
  not_laid = refl;
  steps = 1;
  rest = 1;
  middle = written;
  paused = false;
  size = refl;
  turns = record {
    process = own_at (start g);
    runs = refl;
    enters_none = refl;
    next = written;
    steps = refl;
    ahead = record {
      stays = refl;
      unpaused = refl;
      process = own_at written;
      runs = refl;
      what = happenings.Ended;
      happens = refl;
    };
  };
  enters = (
    refl,
    record {
      unpaused = refl;
      next = ended;
      rest = 0;
      size = refl;
      makes = record { process = own_at written; runs = refl; happens = refl; steps = refl };
      ahead = (refl, refl);
    },
  );
}

-- and so does each way along it
pub at_end : (n : ℕ) (t : StateOf g) → Along g TURN_TICKS before_entries (start g) one_end n t → t ≡ ended
at_end n t a = (forced g TURN_TICKS before_entries happenings.Ended ended (start g) way refl the_end [] n t a).along.1

-- it is not defined along two ends
pub not_twice : (n : ℕ) (t : StateOf g) → Along g TURN_TICKS before_entries (start g)
    (the_end ∷ one_end) n t → ⊥
not_twice n t a =
    let k = forced g TURN_TICKS before_entries happenings.Ended ended (start g) way refl the_end one_end n t a in
    over g TURN_TICKS (course_after [] happenings.Ended k.ticks before_entries) ended idle the_end [] k.rest t k.along

-- the end of that state is done
pub ends_done : (o : Option End) → EndsSo g ended o → o ≡ Some end.Done
ends_done None h = absurd (h end.Done refl)
ends_done (Some x) h = ap (λ (y : End). Some y) (done x h)
