-- All of this belongs to what the program promises (docs/promise.txt).
-- Journals in which the process of every entry is the one that had been ready longest before it. The laws of
-- `sp_code` and the contracts of the runner promise such a journal of a run by one worker.
use Rattle.std.specs.Prelude.{◌≡◌, ℕ, suc, zero, ◌-◌, cond, ◌==◌, List, [], ◌∷◌, ◌++◌, Option, Some, None}
use Rattle.sp_journal.specs.declared.entry.Event.{Event}
use Rattle.sp_journal.specs.declared.entry.Event.TheVariants as event
use Rattle.sp_journal.specs.declared.entry.Entry.{Entry}
use Rattle.sp_journal.specs.declared.entry.Journal.{Journal}
use Rattle.sp_journal.specs.declared.entry.Birth.{Birth}
use Rattle.sp_journal.specs.Maps.{at_key}
use Rattle.sp_journal.specs.Births.{Births, first_births, births_after_entry}

-- the ready processes, the oldest first; the process whose offer is pending on each channel; and how many children of
-- its last fork each process still waits for
pub record QueueState : Type 0 where
  pub ready : List ℕ
  pub pending : ℕ → Option ℕ
  pub awaited : ℕ → ℕ

-- the root alone is ready
abbrev pub first_queue : QueueState
first_queue = record { ready = 0 ∷ []; pending = λ c. None; awaited = λ p. 0 }

-- n numbers from i on
abbrev pub numbers : ℕ → ℕ → List ℕ
numbers i zero = []
numbers i (suc n) = i ∷ numbers (suc i) n

-- these become ready in this order
abbrev pub queue_with : QueueState → List ℕ → QueueState
queue_with l ps = record l { ready = l.ready ++ ps }

-- an offer waits; or it meets, and then who waited becomes ready before who came
abbrev pub queue_after_offer : QueueState → ℕ → ℕ → Option ℕ → QueueState
queue_after_offer l p c None = record l { pending = at_key ◌==◌ c (Some p) l.pending }
queue_after_offer l p c (Some z) = queue_with (record l { pending = at_key ◌==◌ c None l.pending }) (z ∷ p ∷ [])

-- after the last child the parent becomes ready
abbrev pub queue_after_end : QueueState → Option Birth → QueueState
queue_after_end l None = l
queue_after_end l (Some b) = record l {
  ready = l.ready ++ cond (l.awaited b.parent == 1) (b.parent ∷ []) [];
  awaited = at_key ◌==◌ b.parent (l.awaited b.parent - 1) l.awaited;
}

-- after this event of process p, which is ready no more
abbrev pub queue_after_event : Births → QueueState → ℕ → Event → QueueState
queue_after_event s l p (event.Fork n) = queue_with (record l { awaited = at_key ◌==◌ p n l.awaited })
    (numbers s.processes n)
queue_after_event s l p event.Open = queue_with l (p ∷ [])
queue_after_event s l p (event.Send c) = queue_after_offer l p c (l.pending c)
queue_after_event s l p (event.Receive c) = queue_after_offer l p c (l.pending c)
queue_after_event s l p event.End = queue_after_end l (s.birth p)
queue_after_event s l p event.Pause = queue_with l (p ∷ [])
queue_after_event _ l _ _ = l

-- further entries, each by the process that has been ready longest
abbrev pub InTurnFrom : Births → QueueState → List Entry → Type 0
InTurnFrom s l [] = Unit {0}
InTurnFrom s l (e ∷ es) = (rest : List ℕ) × (l.ready ≡ e.process ∷ rest)
    × InTurnFrom (births_after_entry s e) (queue_after_event s (record l { ready = rest }) e.process e.event) es

-- first in, first out: the process of every entry is the one that had been ready longest before it
abbrev pub IsFirstInFirstOut : Journal → Type 0
IsFirstInFirstOut j = InTurnFrom first_births first_queue j.entries
