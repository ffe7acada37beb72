-- Worked witnesses, by computation.
use Rattle.std.proofs.Common.{◌≡◌, ℕ, List, [], ◌∷◌, refl}
use Rattle.sp_base.specs.declared.fault.Fault.TheVariants as fault
use Rattle.sp_journal.specs.declared.entry.Way.TheVariants as way
use Rattle.sp_journal.specs.Names.{Name, Channel, Happening, Opened, Forked, Offered, Ended, Faulted, Paused}
use Rattle.sp_journal.specs.Names.{Occurrence}
use Rattle.sp_journal.specs.declared.entry.Event.{Event}
use Rattle.sp_journal.specs.declared.entry.Event.TheVariants as event
use Rattle.sp_journal.specs.declared.entry.Entry.{Entry}
use Rattle.sp_journal.specs.declared.entry.Journal.{Journal}
use Rattle.sp_witness.specs.Witness.{witness}
use Rattle.sp_witness.specs.OccurrenceNumbers.{witness_journal}

abbrev by : Name → Happening → Occurrence
by p h = record { who = p; what = h }

abbrev root : Name
root = []

-- child i of the root's fork k
abbrev child : ℕ → ℕ → Name
child k i = (k, i) ∷ []

abbrev nth : ℕ → Channel
nth n = record { owner = []; nth = n }

abbrev sends : Channel → Happening
sends c = Offered way.Send c

abbrev receives : Channel → Happening
receives c = Offered way.Receive c

-- two senders and one that receives twice
abbrev two_senders : List Occurrence
two_senders =
    by root Opened ∷ by root (Forked 3) ∷ by (child 0 0) (receives (nth 0)) ∷ by (child 0 1) (sends (nth 0))
    ∷ by (child 0 2) (sends (nth 0))
    ∷ by (child 0 0) (receives (nth 0)) ∷ by (child 0 1) Ended ∷ by (child 0 2) Ended ∷ by (child 0 0) Ended
    ∷ by root Ended ∷ []

two_senders_contend : witness two_senders 3 4
    ≡ by root Opened ∷ by root (Forked 3) ∷ by (child 0 1) (sends (nth 0)) ∷ by (child 0 2) (Faulted fault.F6) ∷ []
two_senders_contend = refl

-- one that sends twice and two receivers
abbrev two_receivers : List Occurrence
two_receivers =
    by root Opened ∷ by root (Forked 3) ∷ by (child 0 0) (sends (nth 0)) ∷ by (child 0 1) (receives (nth 0))
    ∷ by (child 0 2) (receives (nth 0))
    ∷ by (child 0 0) (sends (nth 0)) ∷ by (child 0 1) Ended ∷ by (child 0 2) Ended ∷ by (child 0 0) Ended
    ∷ by root Ended ∷ []

two_receivers_contend : witness two_receivers 3 4
    ≡ by root Opened ∷ by root (Forked 3) ∷ by (child 0 1) (receives (nth 0)) ∷ by (child 0 2) (Faulted fault.F6) ∷ []
two_receivers_contend = refl

-- pauses: those of the two that offer stand, and those of a process that has a later entry in this part; the receiver's
-- fall away
abbrev with_pauses : List Occurrence
with_pauses =
    by root Paused ∷ by root Opened ∷ by root (Forked 3) ∷ by (child 0 0) Paused ∷ by (child 0 1) Paused
    ∷ by (child 0 0) (receives (nth 0)) ∷ by (child 0 1) (sends (nth 0))
    ∷ by (child 0 2) Paused ∷ by (child 0 1) Paused ∷ by (child 0 2) Paused ∷ by (child 0 2) (sends (nth 0))
    ∷ by (child 0 0) (receives (nth 0)) ∷ []

pauses_stand : witness with_pauses 6 10
    ≡ by root Paused ∷ by root Opened ∷ by root (Forked 3) ∷ by (child 0 1) Paused ∷ by (child 0 2) Paused
    ∷ by (child 0 2) Paused ∷ by (child 0 1) (sends (nth 0)) ∷ by (child 0 2) (Faulted fault.F6) ∷ []
pauses_stand = refl

-- The same by numbers

abbrev entry : ℕ → Event → Entry
entry p e = record { process = p; event = e }

-- two senders: the run with one worker, and its witness
abbrev sent_twice : Journal
sent_twice = record {
  entries =
      entry 0 event.Open ∷ entry 0 (event.Fork 3) ∷ entry 1 (event.Receive 0) ∷ entry 2 (event.Send 0)
      ∷ entry 3 (event.Send 0) ∷ entry 1 (event.Receive 0)
      ∷ entry 2 event.End ∷ entry 3 event.End ∷ entry 1 event.End ∷ entry 0 event.End ∷ [];
}

sent_twice_numbered : witness_journal sent_twice 3 4
    ≡ record {
      entries =
          entry 0 event.Open ∷ entry 0 (event.Fork 3) ∷ entry 2 (event.Send 0) ∷ entry 3 (event.Fault fault.F6) ∷ [];
    }
sent_twice_numbered = refl

-- two receivers
abbrev received_twice : Journal
received_twice = record {
  entries =
      entry 0 event.Open ∷ entry 0 (event.Fork 3) ∷ entry 1 (event.Send 0) ∷ entry 2 (event.Receive 0)
      ∷ entry 3 (event.Receive 0) ∷ entry 1 (event.Send 0)
      ∷ entry 2 event.End ∷ entry 3 event.End ∷ entry 1 event.End ∷ entry 0 event.End ∷ [];
}

received_twice_numbered : witness_journal received_twice 3 4
    ≡ record {
      entries =
          entry 0 event.Open ∷ entry 0 (event.Fork 3) ∷ entry 2 (event.Receive 0) ∷ entry 3 (event.Fault fault.F6) ∷ [];
    }
received_twice_numbered = refl

-- numbers that change: two forks of which the witness has one. Child 1 of the second fork is process 4 in the run, and
-- 2 in the witness
abbrev two_forks : Journal
two_forks = record {
  entries =
      entry 0 (event.Fork 2) ∷ entry 1 event.Open ∷ entry 2 event.Open ∷ entry 1 (event.Fork 1) ∷ entry 2 (event.Fork 2)
      ∷ entry 4 (event.Send 1) ∷ entry 5 (event.Receive 1) ∷ entry 5 (event.Receive 1) ∷ entry 4 event.End ∷ [];
}

two_forks_numbered : witness_journal two_forks 5 6
    ≡ record {
      entries =
          entry 0 (event.Fork 2) ∷ entry 2 event.Open ∷ entry 2 (event.Fork 2) ∷ entry 3 (event.Send 0)
          ∷ entry 4 (event.Fault fault.F6) ∷ [];
    }
two_forks_numbered = refl
