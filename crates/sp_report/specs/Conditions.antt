-- None of this belongs to what the program promises: it is for contracts between crates.
-- What each process does after the entries of a journal, by the rules of the kernel. The report of those that wait is
-- said by it, as a fold over the entries.
use Rattle.std.specs.Prelude.{ℕ, ◌-◌, ◌==◌, ◌&&◌, Bool, true, false, cond, not, List, [], ◌∷◌, Option, Some, None}
use Rattle.sp_journal.specs.declared.entry.Way.{Way}
use Rattle.sp_journal.specs.declared.entry.Way.TheVariants as way
use Rattle.sp_journal.specs.declared.entry.Event.{Event}
use Rattle.sp_journal.specs.declared.entry.Event.TheVariants as event
use Rattle.sp_journal.specs.declared.entry.Entry.{Entry}
use Rattle.sp_journal.specs.declared.entry.Birth.{Birth}
use Rattle.sp_journal.specs.Maps.{at_key}
use Rattle.sp_journal.specs.Names.{same_way}
use Rattle.sp_journal.specs.Births.{Births, births_after_entry, first_births, is_next}
use Rattle.sp_report.specs.declared.condition.Condition.{Condition}
use Rattle.sp_report.specs.declared.condition.Condition.TheVariants as condition
use Rattle.sp_report.specs.declared.condition.Pending.{Pending}

-- the condition of each process, the pending offer of each channel, and whether there was a fault
pub record Conditions : Type 0 where
  pub of : ℕ → Condition
  pub pending : ℕ → Option Pending
  pub faulted : Bool

-- the root runs
abbrev pub first_conditions : Conditions
first_conditions = record {
  of = at_key ◌==◌ 0 condition.Running (λ q. condition.Unstarted);
  pending = λ c. None;
  faulted = false;
}

-- process p is in this condition
abbrev pub with_condition : Conditions → ℕ → Condition → Conditions
with_condition t p k = record t { of = at_key ◌==◌ p k t.of }

-- process p waits for n children, which run
abbrev pub conditions_after_fork : Births → Conditions → ℕ → ℕ → Conditions
conditions_after_fork s t p n = record t {
  of = λ q. cond (is_next s n q) condition.Running
      (at_key ◌==◌ p (condition.Joining s.processes n n) t.of q);
}

-- an offer waits where none is pending, and meets one of the other way; where one of its own way is pending it changes
-- nothing
abbrev pub conditions_after_offer : Conditions → Way → ℕ → ℕ → Option Pending → Conditions
conditions_after_offer t w p c None = record (with_condition t p (condition.Offering w c))
    { pending = at_key ◌==◌ c (Some (record { way = w; process = p })) t.pending }
conditions_after_offer t w p c (Some o) = cond (same_way w o.way) t
    (record (with_condition t o.process condition.Running) { pending = at_key ◌==◌ c None t.pending })

-- one child less has to end; after the last one the process runs
abbrev pub less_left : ℕ → ℕ → ℕ → Condition
less_left first n left = cond (left == 1) condition.Running (condition.Joining first n (left - 1))

-- process p waits for a child fewer
abbrev pub with_child_fewer : Conditions → ℕ → Condition → Conditions
with_child_fewer t p (condition.Joining first n left) = with_condition t p (less_left first n left)
with_child_fewer t _ _ = t

-- the parent of who ended waits for a child fewer
abbrev pub conditions_after_end : Conditions → Option Birth → Conditions
conditions_after_end t None = t
conditions_after_end t (Some b) = with_child_fewer t b.parent (t.of b.parent)

-- what this event of process p, which runs, changes
abbrev pub conditions_after_event : Births → Conditions → ℕ → Event → Conditions
conditions_after_event s t p (event.Fork n) = conditions_after_fork s t p n
conditions_after_event s t p event.Open = t
conditions_after_event s t p (event.Send c) = conditions_after_offer t way.Send p c (t.pending c)
conditions_after_event s t p (event.Receive c) = conditions_after_offer t way.Receive p c (t.pending c)
conditions_after_event s t p event.End = conditions_after_end (with_condition t p condition.Ended) (s.birth p)
conditions_after_event s t p (event.Fault f) = with_condition t p condition.Laid
conditions_after_event s t p event.Laid = with_condition t p condition.Laid
conditions_after_event s t p event.Pause = t

abbrev pub is_running : Condition → Bool
is_running condition.Running = true
is_running _ = false

abbrev pub is_fault : Event → Bool
is_fault (event.Fault f) = true
is_fault _ = false

-- only `laid` follows a fault, and it follows nothing else
abbrev pub is_timely : Bool → Event → Bool
is_timely faulted event.Laid = faulted
is_timely faulted _ = not faulted

-- a fault counts whoever makes it
abbrev pub conditions_with_fault : Event → Conditions → Conditions
conditions_with_fault e t = record t { faulted = cond (is_fault e) true t.faulted }

-- after this entry; that of a process which does not run, or at the wrong side of a fault, changes nothing
abbrev pub conditions_after : Births → Conditions → Entry → Conditions
conditions_after s t e =
    conditions_with_fault e.event (cond (is_running (t.of e.process) && is_timely t.faulted e.event)
    (conditions_after_event s t e.process e.event) t)

-- after all these entries
abbrev pub conditions_after_all : Births → Conditions → List Entry → Conditions
conditions_after_all s t [] = t
conditions_after_all s t (e ∷ es) = conditions_after_all (births_after_entry s e) (conditions_after s t e) es

-- after all these entries
abbrev pub conditions : List Entry → Conditions
conditions es = conditions_after_all first_births first_conditions es
