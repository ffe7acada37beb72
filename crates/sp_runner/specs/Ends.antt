-- All of this belongs to what the program promises (docs/promise.txt).
-- How the system of all processes ends, and what it leaves: the end and the output of a run in the words of the
-- machine's system. The runner's contract cites it, and sp_link leads it to the meaning.
use Rattle.std.specs.Prelude.{◌≡◌, ◌≢◌, ℕ, List, [], ◌∷◌, ◌++◌, Option, Some, None, false}
use Rattle.std.specs.List.Sorted.{IsPermutation, IsSortedByKey}
use Rattle.sp_base.specs.Order.{name_cmp}
use Rattle.sp_cell.specs.Map.{Plain}
use Rattle.sp_journal.specs.declared.entry.Entry.{Entry}
use Rattle.sp_journal.specs.declared.entry.Way.{Way}
use Rattle.sp_journal.specs.declared.entry.Way.TheVariants as way
use Rattle.sp_journal.specs.declared.outcome.End.{End}
use Rattle.sp_journal.specs.declared.outcome.End.TheVariants as end
use Rattle.sp_journal.specs.declared.outcome.Waiter.{Waiter}
use Rattle.sp_journal.specs.Births.{Births, channel}
use Rattle.sp_journal.specs.Names.{proc_name, chan_name}
use Rattle.sp_journal.specs.Queue.{numbers}
use Rattle.sp_code.specs.Machine.{Stop, Sends, Receives}
use Rattle.sp_code.specs.Memory.{CodeRun}
use Rattle.sp_code.specs.PlainStore.{plain}
use Rattle.sp_code.specs.System.{System, Condition, Waits, IsSystem}
use Rattle.sp_code.specs.Agreement.{phase_in, Running, Finished}
use Rattle.sp_code.specs.OutputHolder.{IsOutputOf}
use Rattle.sp_kernel.specs.Faults.{fault_in}

-- ---- who waits

-- the way and the channel of an offer
abbrev pub offer_at : Stop → Option (Way × ℕ)
offer_at (Sends c k cs) = Some (way.Send, c)
offer_at (Receives c k a) = Some (way.Receive, c)
offer_at _ = None

-- those of a process that waits with one
abbrev pub offer_in : Condition Plain → Option (Way × ℕ)
offer_in (Waits stop c) = offer_at stop
offer_in _ = None

-- process q, if it waits, by its name and that of the channel
abbrev pub waiter_list : Births → ℕ → Option (Way × ℕ) → List Waiter
waiter_list b q None = []
waiter_list b q (Some o) =
    record { process = proc_name (b.name q); way = o.0; channel = chan_name (channel b o.1) } ∷ []

-- those of these processes that wait
abbrev pub waiters_among : Births → (ℕ → Condition Plain) → List ℕ → List Waiter
waiters_among b condition [] = []
waiters_among b condition (q ∷ qs) = waiter_list b q (offer_in (condition q)) ++ waiters_among b condition qs

-- ---- the end

-- the root has ended, and no fault stands
abbrev pub RootHasEnded : System Plain → Type 0
RootHasEnded s = (phase_in (s.condition 0) ≡ Finished) × (s.faulted ≡ false)

-- no process runs, the root has not ended, and no fault stands; these are all that wait, in order of names
pub record IsDeadlock (s : System Plain) (ws : List Waiter) : Type 0 where
  pub idle : (q : ℕ) → phase_in (s.condition q) ≢ Running
  pub goes_on : phase_in (s.condition 0) ≢ Finished
  pub no_fault : s.faulted ≡ false
  pub all : IsPermutation (waiters_among s.births s.condition (numbers 0 s.births.processes)) ws
  pub sorted : IsSortedByKey (λ (w : Waiter). w.process) name_cmp ws

-- the system after a journal is at this end; want of memory is the end of none
abbrev pub EndsAt : List Entry → System Plain → End → Type 0
EndsAt es s end.Done = RootHasEnded s
EndsAt es s (end.Deadlock ws) = IsDeadlock s ws
EndsAt es s (end.Fault name f) = (p : ℕ) × (fault_in es ≡ Some (p, f)) × (name ≡ proc_name (s.births.name p))
EndsAt es s end.Memory = ⊥

-- what the machine gives along a journal: an end and an output
pub record EndsWith (g : CodeRun) (es : List Entry) (e : End) (text : List ℕ) : Type 0 where
  pub system : System Plain
  pub along : IsSystem plain g es system
  pub end : EndsAt es system e
  pub output : (q : ℕ) × IsOutputOf system q text
