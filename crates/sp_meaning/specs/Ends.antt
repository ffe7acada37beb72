-- All of this belongs to what the program promises (docs/promise.txt).
-- How a run ends: done, in a deadlock, or with a fault. The contracts of runs and of the judge cite it, with the
-- waiting processes in the order of their names.
use Rattle.std.specs.Prelude.{◌≡◌, ◌≢◌, ◌⊎◌, ℕ, Bool, true, false, if◌then◌else◌, nat_lt, List, [], ◌∷◌, map, reverse}
use Rattle.std.specs.Prelude.{Option, Some, None}
use Rattle.sp_base.specs.declared.fault.Fault.{Fault}
use Rattle.sp_journal.specs.declared.entry.Way.{Way}
use Rattle.sp_journal.specs.declared.outcome.End.{End}
use Rattle.sp_journal.specs.declared.outcome.End.TheVariants as end
use Rattle.sp_journal.specs.declared.outcome.Waiter.{Waiter}
use Rattle.sp_journal.specs.Names.{proc_name, chan_name}
use Rattle.sp_meaning.specs.Model.{Name, Channel, Waits, Ended}
use Rattle.sp_meaning.specs.Steps.{OfferOf, way_of}
use Rattle.sp_meaning.specs.LocalWork.{RunInput}
use Rattle.sp_meaning.specs.SuperPascal.{superpascal}
use Rattle.sp_meaning.specs.Runs.{StateOf, running_process}

-- pair by pair, by fork and then child, a prefix first
abbrev pub pairs_before : List (ℕ × ℕ) → List (ℕ × ℕ) → Bool
pairs_before [] [] = false
pairs_before [] (b ∷ q) = true
pairs_before (a ∷ p) [] = false
pairs_before (a ∷ p) (b ∷ q) =
    if nat_lt a.0 b.0 then true else (if nat_lt b.0 a.0 then false else
    (if nat_lt a.1 b.1 then true else (if nat_lt b.1 a.1 then false else pairs_before p q)))

-- the order of names goes from the root on
abbrev pub name_before : Name → Name → Bool
name_before p q = pairs_before (reverse p) (reverse q)

-- a process that waits, with its way and channel
pub record Waiting : Type 0 where
  pub who : Name
  pub way : Way
  pub channel : Channel

-- one of those that wait
abbrev pub IsIn : Waiting → List Waiting → Type 0
IsIn w [] = ⊥
IsIn w (v ∷ vs) = (w ≡ v) ⊎ IsIn w vs

-- each before the next one, by names
abbrev pub IsSorted : List Waiting → Type 0
IsSorted [] = Unit
IsSorted (w ∷ []) = Unit
IsSorted (w ∷ v ∷ vs) = (name_before w.who v.who ≡ true) × IsSorted (v ∷ vs)

module _ (g : RunInput) where
  -- the root has ended
  abbrev pub IsDone : StateOf g → Type 0
  IsDone s = s.condition [] ≡ Ended

  -- no process is running
  abbrev pub IsIdle : StateOf g → Type 0
  IsIdle s = (q : Name) → running_process g s q ≡ None

  -- the process waits so
  abbrev pub WaitsSo : StateOf g → Waiting → Type 0
  WaitsSo s w = (o : OfferOf (superpascal g)) × (s.condition w.who ≡ Waits o) × (w.way ≡ way_of o.payload)
      × (w.channel ≡ o.channel)

  -- no process is running, the root has not ended and no fault stands; the list is every process that waits, in order
  -- of names
  pub record IsDeadlock (s : StateOf g) (ws : List Waiting) : Type 0 where
    pub idle : IsIdle s
    pub goes_on : s.condition [] ≢ Ended
    pub no_fault : s.fault ≡ None
    pub sorted : IsSorted ws
    pub only : (w : Waiting) → IsIn w ws → WaitsSo s w
    pub whole : (w : Waiting) → WaitsSo s w → IsIn w ws

  -- this process met this fault
  abbrev pub HasFault : StateOf g → Name → Fault → Type 0
  HasFault s q f = s.fault ≡ Some (q, f)

-- a waiting process as the program tells it
abbrev pub waiter_of : Waiting → Waiter
waiter_of w = record { process = proc_name w.who; way = w.way; channel = chan_name w.channel }

-- the end of a state as the program tells it; a state may have none, and want of memory is the end of none
abbrev pub EndIs : (g : RunInput) → StateOf g → End → Type 0
EndIs g s end.Done = IsDone g s
EndIs g s (end.Deadlock ws) = (vs : List Waiting) × IsDeadlock g s vs × (ws ≡ map waiter_of vs)
EndIs g s (end.Fault p f) = (q : Name) × HasFault g s q f × (p ≡ proc_name q)
EndIs g s end.Memory = ⊥

-- it has this end, or none
abbrev pub EndsSo : (g : RunInput) → StateOf g → Option End → Type 0
EndsSo g s None = (e : End) → EndIs g s e → ⊥
EndsSo g s (Some e) = EndIs g s e
