-- Rows of forks, joins and rendezvous on a channel, by computing.
use Rattle.std.proofs.Common.{◌≡◌, inl, inr, [], ◌∷◌, Some, None, refl, sym, ◌∙◌, ap, subst}
use Rattle.std.specs.Prelude.{codes}
use Rattle.std.specs.Fmt.{digits}
use Rattle.sp_base.specs.declared.fault.Fault.TheVariants as fault
use Rattle.sp_journal.specs.declared.entry.Way.{Way}
use Rattle.sp_journal.specs.declared.entry.Way.TheVariants as way
use Rattle.sp_journal.specs.declared.outcome.End.TheVariants as end
use Rattle.sp_meaning.specs.Ends.{IsDeadlock, IsIn, Waiting, WaitsSo}
use Rattle.sp_meaning.specs.LocalWork.{Address, LocationContent, Process}
use Rattle.sp_meaning.specs.Model.{Channel, Condition, Name, Waits}
use Rattle.sp_meaning.specs.Runs.{StateOf, running_process}
use Rattle.sp_meaning.specs.Steps.{way_of}
use Rattle.run_tests.proofs.Goes.{Goes, behind, child, later, of, root}
use Rattle.run_tests.proofs.Programs.{forks_nobody, joins, receives_alone, two_sends}

-- the first send comes first
first_send_first : Goes (of two_sends) (root ∷ root ∷ child 2 ∷ child 0 ∷ child 1 ∷ child 2 ∷ child 0 ∷ child 1
    ∷ child 2 ∷ root ∷ root ∷ root ∷ []) 12 (codes "12") (Some end.Done)
unfolding digits
first_send_first = record { steps = refl; output = refl; end = refl }

-- the second one does
second_send_first : Goes (of two_sends) (root ∷ root ∷ child 2 ∷ child 1 ∷ child 0 ∷ child 2 ∷ child 0 ∷ child 1
    ∷ child 2 ∷ root ∷ root ∷ root ∷ []) 12 (codes "21") (Some end.Done)
unfolding digits
second_send_first = record { steps = refl; output = refl; end = refl }

-- F6: a send comes beside one that waits, and nobody steps after it
sends_contend : Goes (of two_sends) (root ∷ root ∷ child 0 ∷ child 1 ∷ child 2 ∷ []) 4 []
    (Some (end.Fault (record { pairs = record { fork = 0; child = 1 } ∷ [] }) fault.F6))
sends_contend = record { steps = refl; output = refl; end = (child 1, refl, refl) }

-- a join orders the next use of a channel
join_orders : Goes (of joins) (root ∷ root ∷ child 0 ∷ child 1 ∷ child 0 ∷ child 1 ∷ root ∷ later 1 ∷ later 0
    ∷ later 0 ∷ later 1 ∷ root ∷ []) 12 [] (Some end.Done)
join_orders = record { steps = refl; output = refl; end = refl }

-- a forall over nothing is one step
nobody_forked : Goes (of forks_nobody) (root ∷ root ∷ root ∷ []) 3 [] (Some end.Done)
nobody_forked = record { steps = refl; output = refl; end = refl }

-- ---- a receive alone is a deadlock

abbrev alone : StateOf (of receives_alone)
alone = behind (of receives_alone) (root ∷ root ∷ root ∷ [])

abbrev first_channel : Channel
first_channel = record { owner = []; nth = 0 }

abbrev the_one : Waiting
the_one = record { who = []; way = way.Receive; channel = first_channel }

-- what a process waits for, in its condition
abbrev way_in : Condition Process LocationContent Address → Way
way_in (Waits o) = way_of o.payload
way_in _ = way.Send

abbrev channel_in : Condition Process LocationContent Address → Channel
channel_in (Waits o) = o.channel
channel_in _ = first_channel

idle : (q : Name) → running_process (of receives_alone) alone q ≡ None
idle [] = refl
idle (a ∷ q) = refl

one_waits : (w : Waiting) → IsIn w (the_one ∷ []) → WaitsSo (of receives_alone) alone w
one_waits w (inl e) = at_one w e
  where
    at_one : (w : Waiting) → w ≡ the_one → WaitsSo (of receives_alone) alone w
    at_one w e = subst (λ (x : Waiting). WaitsSo (of receives_alone) alone x) (sym e) (_, refl, refl, refl)
one_waits w (inr h) = absurd h

only_one : (who : Name) (w : Way) (d : Channel)
    → WaitsSo (of receives_alone) alone (record { who = who; way = w; channel = d })
    → ◌≡◌ {A = Waiting} (record { who = who; way = w; channel = d }) the_one
only_one [] w d (o, cond, ways, channels) =
    ap (λ (x : Way). record { who = []; way = x; channel = d }) (ways ∙ sym (ap way_in cond))
    ∙ ap (λ (y : Channel). record { who = []; way = way.Receive; channel = y }) (channels ∙ sym (ap channel_in cond))
only_one (a ∷ q) w d (o, cond, ways, channels) = absurd (cc cond)

deadlock : IsDeadlock (of receives_alone) alone (the_one ∷ [])
deadlock = record {
  idle = idle;
  goes_on = λ e. cc e;
  no_fault = refl;
  sorted = tt;
  only = one_waits;
  whole = λ w h. inl (only_one w.who w.way w.channel h);
}

alone_waits : Goes (of receives_alone) (root ∷ root ∷ root ∷ []) 2 []
    (Some (end.Deadlock (record {
      process = record { pairs = [] };
      way = way.Receive;
      channel = record { owner = record { pairs = [] }; nth = 0 };
    } ∷ [])))
alone_waits = record { steps = refl; output = refl; end = (the_one ∷ [], deadlock, refl) }
