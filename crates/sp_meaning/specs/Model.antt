-- All of this belongs to what the program promises (docs/promise.txt).
-- Processes with structural names, channels, a store and totals: the state of a run, and what a step changes. What one
-- process does next is left to a Language; the rest is concrete. Laws of schedules and of disjoint runs are proved
-- over it once, for any language.
use Rattle.std.specs.Prelude.{ℕ, ◌+◌, Bool, List, [], ◌∷◌, Option, Some}
use Rattle.sp_base.specs.declared.fault.Fault.{Fault}
use Rattle.sp_meaning.specs.Maps.{at_key}
pub use Rattle.sp_journal.specs.Names.{Name, Channel, same_name, same_channel}

-- what a waiting process offers: a value, or a place for one
pub data Payload (Value Target : Type 0) : Type 0 where
  Message : (value : Value) → Payload Value Target
  Takes : (target : Target) → Payload Value Target

-- an offer on a channel, of a message type; next is how its process goes on once the message went over
pub record Offer (Own Value Target : Type 0) : Type 0 where
  pub channel : Channel
  pub kind : ℕ
  pub payload : Payload Value Target
  pub next : Own

-- What a process does next. Own is its own part: what remains to be done, its frames, depth, ticks and opens
pub data Act (Own Loc Value Target : Type 0) : Type 0 where
  Moves : (next : Own) (writes : List (Loc × Value)) → Act Own Loc Value Target
  Opens : (next : Own) (writes : List (Loc × Value)) → Act Own Loc Value Target
  Forks : (next : Own) (children : List Own) → Act Own Loc Value Target
  Offering : (offer : Offer Own Value Target) → Act Own Loc Value Target
  EndsProcess : Act Own Loc Value Target
  MeetsFault : (fault : Fault) → Act Own Loc Value Target

-- what a language gives: the parts of a process, its locations and values, and the next step
pub record Language : Type 1 where
  pub Own : Type 0
  pub Loc : Type 0
  pub Value : Type 0
  pub Target : Type 0
  pub same_loc : Loc → Loc → Bool
  -- the next step, from the own part and the store; and the locations that it reads or writes in this store
  pub next : Own → (Loc → Value) → Act Own Loc Value Target
  pub touches : Own → (Loc → Value) → Loc → Type 0
  -- where a message is put, and what then stands there, by what stood there and the message
  pub place : Target → Loc
  pub put : Target → Value → Value → Value

-- what a process is doing. One that joins waits for the children 0 to count - 1 of this fork, and goes on where all of
-- them have ended
pub data Condition (Own Value Target : Type 0) : Type 0 where
  Absent : Condition Own Value Target
  Works : (own : Own) → Condition Own Value Target
  Waits : (offer : Offer Own Value Target) → Condition Own Value Target
  Joins : (fork count : ℕ) (next : Own) → Condition Own Value Target
  Ended : Condition Own Value Target

-- how many processes and channels there have been, and how many counted entries
pub record Totals : Type 0 where
  pub processes : ℕ
  pub channels : ℕ
  pub entries : ℕ

-- The state of a run. Of a pending offer the process is kept, and what it offers stands in its condition
pub record State (L : Language) : Type 0 where
  pub condition : Name → Condition L.Own L.Value L.Target
  pub forks : Name → ℕ
  pub store : L.Loc → L.Value
  pub pending : Channel → Option Name
  pub totals : Totals
  pub fault : Option (Name × Fault)

-- what a step changes, one part of the state at a time
pub data Change (L : Language) : Type 0 where
  Becomes : (p : Name) (c : Condition L.Own L.Value L.Target) → Change L
  Forked : (p : Name) → Change L
  WritesLocation : (l : L.Loc) (v : L.Value) → Change L
  Pends : (c : Channel) (o : Option Name) → Change L
  AddsTotals : (n : Totals) → Change L
  Faults : (p : Name) (f : Fault) → Change L

abbrev pub add : Totals → Totals → Totals
add a b = record {
  processes = a.processes + b.processes;
  channels = a.channels + b.channels;
  entries = a.entries + b.entries;
}

abbrev pub with_change : {L : Language} → Change L → State L → State L
with_change (Becomes p c) s = record s { condition = at_key same_name p c s.condition }
with_change (Forked p) s = record s { forks = at_key same_name p (s.forks p + 1) s.forks }
with_change {L} (WritesLocation l v) s = record s { store = at_key L.same_loc l v s.store }
with_change (Pends c o) s = record s { pending = at_key same_channel c o s.pending }
with_change (AddsTotals n) s = record s { totals = add s.totals n }
with_change (Faults p f) s = record s { fault = Some (p, f) }

-- the changes, one after another
abbrev pub with_changes : {L : Language} → List (Change L) → State L → State L
with_changes [] s = s
with_changes (c ∷ cs) s = with_changes cs (with_change c s)
