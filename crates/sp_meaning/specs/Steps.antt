-- Some of this belongs to what the program promises (docs/promise.txt).
-- One step of one process in a state: what it does, what it costs against the limits, and the state after it. Runs are
-- made of it; limits are faults of the step that would pass them.
use Rattle.std.specs.Option.{option_map_or}
use Rattle.std.specs.Prelude.{◌≡◌, ℕ, suc, zero, ◌+◌, ◌<◌, ◌≤◌, Bool, true, false, ◌&&◌, if◌then◌else◌, List, [], ◌∷◌}
use Rattle.std.specs.Prelude.{length, Option, Some, None, nat_lt, ◌==◌}
use Rattle.sp_base.specs.declared.fault.Fault.{Fault}
use Rattle.sp_base.specs.declared.fault.Fault.TheVariants as fault
use Rattle.sp_journal.specs.declared.entry.Way.{Way}
use Rattle.sp_journal.specs.declared.entry.Way.TheVariants as way
use Rattle.sp_meaning.specs.Maps.{IsTest}
use Rattle.sp_meaning.specs.Model.{Name, Channel, Totals, Language, Act, Moves, Opens, Forks, Offering, EndsProcess}
use Rattle.sp_meaning.specs.Model.{MeetsFault}
use Rattle.sp_meaning.specs.Model.{Payload, Message, Takes, Offer, Condition, Absent, Works, Waits, Joins, Ended, State}
use Rattle.sp_meaning.specs.Model.{Change, Becomes, Forked, WritesLocation, Pends, AddsTotals, Faults, with_change}
use Rattle.sp_meaning.specs.Model.{with_changes}
use Rattle.sp_meaning.specs.Schedules.{System}

abbrev pub ActOf : Language → Type 0
ActOf L = Act L.Own L.Loc L.Value L.Target

abbrev pub OfferOf : Language → Type 0
OfferOf L = Offer L.Own L.Value L.Target

abbrev pub ConditionOf : Language → Type 0
ConditionOf L = Condition L.Own L.Value L.Target

-- who is running

abbrev pub has_ended : {O V T : Type 0} → Condition O V T → Bool
has_ended Ended = true
has_ended _ = false

-- the children 0 to n - 1 of this fork have ended
abbrev pub all_ended : {O V T : Type 0} → (Name → Condition O V T) → Name → ℕ → ℕ → Bool
all_ended m p k zero = true
all_ended m p k (suc i) = has_ended (m ((k, i) ∷ p)) && all_ended m p k i

-- the own part of a process in this condition, where it is running: it works, or it joins and all its children have
-- ended
abbrev pub own_part_in : {O V T : Type 0} → (Name → Condition O V T) → Name → Condition O V T → Option O
own_part_in m p (Works o) = Some o
own_part_in m p (Joins k n o) = if all_ended m p k n then Some o else None
own_part_in _ _ _ = None

-- the own part of a process that is running
abbrev pub own_part : {L : Language} → State L → Name → Option L.Own
own_part s p = own_part_in s.condition p (s.condition p)

-- what a step comes to: changes, or a fault
pub data ActOutcome (L : Language) : Type 0 where
  Advances : (changes : List (Change L)) → ActOutcome L
  Faulty : (fault : Fault) → ActOutcome L

-- writes, as changes
abbrev pub write_changes : {L : Language} → List (L.Loc × L.Value) → List (Change L)
write_changes [] = []
write_changes (w ∷ ws) = WritesLocation w.0 w.1 ∷ write_changes ws

-- the children of fork k, from number i on
abbrev pub birth_changes : {L : Language} → Name → ℕ → ℕ → List L.Own → List (Change L)
birth_changes p k i [] = []
birth_changes p k i (o ∷ os) = Becomes ((k, i) ∷ p) (Works o) ∷ birth_changes p k (suc i) os

-- offers

abbrev pub way_of : {V T : Type 0} → Payload V T → Way
way_of (Message v) = way.Send
way_of (Takes t) = way.Receive

-- what goes over, and to where; nothing where both offers have one way
abbrev pub message : {V T : Type 0} → Payload V T → Payload V T → Option (T × V)
message (Message v) (Takes t) = Some (t, v)
message (Takes t) (Message v) = Some (t, v)
message _ _ = None

-- the cost of an entry
abbrev pub entry_cost : Totals
entry_cost = record { processes = 0; channels = 0; entries = 1 }

-- p's offer meets that of z: both go on, nothing is pending, and the message is assigned
abbrev pub meeting_changes : {L : Language} → State L → Name → OfferOf L → Name → OfferOf L → L.Target × L.Value
    → List (Change L)
meeting_changes {L} s p o z w m =
    Becomes p (Works o.next) ∷ Becomes z (Works w.next) ∷ Pends o.channel None
    ∷ WritesLocation (L.place m.0) (L.put m.0 (s.store (L.place m.0)) m.1) ∷ AddsTotals entry_cost ∷ []

-- the offer waits
abbrev pub waiting_changes : {L : Language} → State L → Name → OfferOf L → List (Change L)
waiting_changes s p o = Becomes p (Waits o) ∷ Pends o.channel (Some p) ∷ AddsTotals entry_cost ∷ []

-- F6 where both have one way, F7 where the message types differ
abbrev pub handover_outcome : {L : Language} → State L → Name → OfferOf L → Name → OfferOf L
    → Option (L.Target × L.Value)
    → ActOutcome L
handover_outcome s p o z w None = Faulty fault.F6
handover_outcome s p o z w (Some m) = if o.kind == w.kind then Advances (meeting_changes s p o z w m) else Faulty
    fault.F7

-- z's offer is pending. No case but the third comes up
abbrev pub meeting_outcome : {L : Language} → State L → Name → OfferOf L → Name → ConditionOf L → ActOutcome L
meeting_outcome s p o z (Waits w) = handover_outcome s p o z w (message o.payload w.payload)
meeting_outcome _ _ _ _ _ = Faulty fault.F6

-- the offer waits, or it meets the one that is pending
abbrev pub offer_outcome : {L : Language} → State L → Name → OfferOf L → Option Name → ActOutcome L
offer_outcome s p o None = Advances (waiting_changes s p o)
offer_outcome s p o (Some z) = meeting_outcome s p o z (s.condition z)

-- what p's act does to the state
abbrev pub act_outcome : {L : Language} → State L → Name → ActOf L → ActOutcome L
act_outcome s p (Moves o ws) = Advances (Becomes p (Works o) ∷ write_changes ws)
act_outcome s p (Opens o ws) =
    Advances (Becomes p (Works o) ∷ AddsTotals (record { processes = 0; channels = 1; entries = 1 })
    ∷ write_changes ws)
act_outcome s p (Forks o os) = Advances (Becomes p (Joins (s.forks p) (length os) o) ∷ Forked p
    ∷ AddsTotals (record { processes = length os; channels = 0; entries = 1 }) ∷ birth_changes p (s.forks p) 0 os)
act_outcome s p (Offering o) = offer_outcome s p o (s.pending o.channel)
act_outcome s p EndsProcess = Advances (Becomes p Ended ∷ [])
act_outcome s p (MeetsFault f) = Faulty f

-- what counts against the totals
abbrev pub cost : {O M V T : Type 0} → Act O M V T → Option Totals
cost (Opens o ws) = Some (record { processes = 0; channels = 1; entries = 1 })
cost (Forks o os) = Some (record { processes = length os; channels = 0; entries = 1 })
cost (Offering o) = Some entry_cost
cost _ = None

-- a total that grows by n would pass its limit; one that does not grow passes none
abbrev pub is_limit_passed : ℕ → ℕ → ℕ → Bool
is_limit_passed limit total n = nat_lt 0 n && nat_lt limit (total + n)

-- the fault of the total that would pass its limit: first F15, then F13, then F14
abbrev pub limit_fault : Totals → Totals → Option Totals → Option Fault
limit_fault limits t None = None
limit_fault limits t (Some n) =
    if is_limit_passed limits.entries t.entries n.entries then Some fault.F15
    else (if is_limit_passed limits.processes t.processes n.processes then Some fault.F13
    else (if is_limit_passed limits.channels t.channels n.channels then Some fault.F14 else None))

-- a fault comes first
abbrev pub fault_or : {L : Language} → Option Fault → ActOutcome L → ActOutcome L
fault_or f x = option_map_or Faulty f x

-- what a step does, or the limit that it would pass
abbrev pub step_outcome : {L : Language} → Totals → State L → Name → ActOf L → ActOutcome L
step_outcome limits s p a = fault_or (limit_fault limits s.totals (cost a)) (act_outcome s p a)

-- a fault is set, and nothing else changes
abbrev pub result_of : {L : Language} → State L → Name → ActOutcome L → State L
result_of s p (Advances cs) = with_changes cs s
result_of s p (Faulty f) = with_change (Faults p f) s

abbrev pub step_with : {L : Language} → Totals → State L → Name → Option L.Own → Option (State L)
step_with limits s p None = None
step_with {L} limits s p (Some own) = Some (result_of s p (step_outcome limits s p (L.next own s.store)))

-- the next state when p steps, or none where p is not running
abbrev pub step : {L : Language} → Totals → State L → Name → Option (State L)
step limits s p = step_with limits s p (own_part s p)

-- no fault stands
abbrev pub HasNoFault : {L : Language} → State L → Type 0
HasNoFault s = s.fault ≡ None

-- the states and steps as a system of named processes
abbrev pub process_system : Language → Totals → System
process_system L limits = record { State = State L; Name = Name; step = step limits; HasNoFault = HasNoFault }

-- the laws of a language
pub record Laws (L : Language) : Type 0 where
  pub told : IsTest L.same_loc
  -- the next step goes by the own part and the locations that it touches alone
  pub local : (own : L.Own) (m n : L.Loc → L.Value) → ((l : L.Loc) → L.touches own m l → m l ≡ n l)
      → L.next own m ≡ L.next own n

-- what holds in each state that a lawful schedule comes to

-- it waits with an offer on this channel
abbrev pub WaitsOn : {O V T : Type 0} → Channel → Condition O V T → Type 0
WaitsOn c (Waits w) = w.channel ≡ c
WaitsOn _ _ = ⊥

-- it is there and has not ended
abbrev pub IsAlive : {O V T : Type 0} → Condition O V T → Type 0
IsAlive Absent = ⊥
IsAlive Ended = ⊥
IsAlive _ = Unit

abbrev pub JoinsAt : {O V T : Type 0} → ℕ → ℕ → Condition O V T → Type 0
JoinsAt k i (Joins m n o) = (m ≡ k) × (i < n)
JoinsAt _ _ _ = ⊥

pub record Sound {L : Language} (s : State L) : Type 0 where
  -- a pending offer is that of a process that waits on this channel
  pub waits : (c : Channel) (z : Name) → s.pending c ≡ Some z → WaitsOn c (s.condition z)
  -- there is no child of a fork that was not made yet
  pub unborn : (z : Name) (k i : ℕ) → s.forks z ≤ k → s.condition ((k, i) ∷ z) ≡ Absent
  -- the parent of a child that lives joins it
  pub joined : (z : Name) (k i : ℕ) → IsAlive (s.condition ((k, i) ∷ z)) → JoinsAt k i (s.condition z)

-- the root alone, with this own part and this store
abbrev pub first_condition : {O V T : Type 0} → O → Name → Condition O V T
first_condition own [] = Works own
first_condition own (x ∷ p) = Absent

-- the root alone
abbrev pub opening_state : (L : Language) → L.Own → (L.Loc → L.Value) → State L
opening_state L own store = record {
  condition = first_condition own;
  forks = λ p. 0;
  store = store;
  pending = λ c. None;
  totals = record { processes = 1; channels = 0; entries = 0 };
  fault = None;
}
