-- Some of this belongs to what the program promises (docs/promise.txt).
-- The system of all processes of a run of code, along a journal. The laws of histories and the kernel's contracts
-- speak of it, and sp_link compares it with the meaning: a step for each entry, with no worker and no queue in it.
use Rattle.std.specs.Option.{option_and_then, option_map, option_map_or, unwrap_or}
use Rattle.std.specs.Prelude.{◌≡◌, ℕ, zero, suc, ◌+◌, ◌-◌, ◌==◌, ℤ, pos, ◌+ℤ◌, List, [], ◌∷◌, Option, Some, None, Bool}
use Rattle.std.specs.Prelude.{true, false, if◌then◌else◌, cond, nat_lt, length, slice_get}
use Rattle.sp_base.specs.declared.fault.Fault.{Fault}
use Rattle.sp_base.specs.declared.fault.Fault.TheVariants as fault
use Rattle.sp_base.specs.declared.limits.Limits.{Limits}
use Rattle.sp_cell.specs.declared.cell.Cell.{Cell}
use Rattle.sp_cell.specs.declared.cell.Cell.TheVariants as cell
use Rattle.sp_cell.specs.declared.spot.Spot.{Spot}
use Rattle.sp_cell.specs.declared.spot.Address.{Address}
use Rattle.sp_cell.specs.declared.spot.Handing.{Handing}
use Rattle.sp_cell.specs.Fork.{index_frame}
use Rattle.sp_journal.specs.declared.entry.Way.{Way}
use Rattle.sp_journal.specs.declared.entry.Way.TheVariants as way
use Rattle.sp_journal.specs.declared.entry.Event.{Event}
use Rattle.sp_journal.specs.declared.entry.Event.TheVariants as event
use Rattle.sp_journal.specs.declared.entry.Entry.{Entry}
use Rattle.sp_journal.specs.declared.entry.Birth.{Birth}
use Rattle.sp_journal.specs.declared.entry.Note.{Note}
use Rattle.sp_journal.specs.Maps.{at_key}
use Rattle.sp_journal.specs.Births.{Births, first_births, births_after_event, is_next}
use Rattle.sp_code.specs.declared.code.Formal.{Formal}
use Rattle.sp_code.specs.declared.code.Formal.TheVariants as formal
use Rattle.sp_code.specs.declared.code.Layout.{Layout}
use Rattle.sp_code.specs.declared.code.ChildTable.{ChildTable}
use Rattle.sp_code.specs.declared.code.ForkTable.{ForkTable}
use Rattle.sp_code.specs.Tables.{child_at}
use Rattle.sp_code.specs.Machine.{Stop, Forks, Opens, Sends, Receives, Ends, Pauses, Config, At, layout_of}
use Rattle.sp_code.specs.Turns.{Turn, Stopped, Faulted, IsTurn}
use Rattle.sp_code.specs.Memory.{CodeRun, Stores, Home, OfBlock, OfIndex, Frame, Memory, last_frames, reference_target}
use Rattle.sp_code.specs.Memory.{put_cell, put_cells, memory, first_process}
use Rattle.sp_code.specs.Control.{Control, Out, control_at_start, after_note, after_give, front}

-- ---- the variables of a fork

-- the place of x in a list of variables, counted from n
abbrev pub place_of : ℕ → ℕ → List ℕ → Option ℕ
place_of x n [] = None
place_of x n (y ∷ ys) = if x == y then Some n else place_of x (suc n) ys

-- the program's frame has its variables from number 2 on
abbrev pub first_number : Layout → ℕ
first_number l = if l.block == 0 then 2 else 0

-- a variable parameter stands for the entire variable that it refers to
abbrev pub spot_of_address : Option Address → Option Spot
spot_of_address a = option_map (λ a. a.spot) a

-- where variable k of a frame stands, by its formal if it is a parameter
abbrev pub spot_by : Frame → ℕ → Option Formal → Option Spot
spot_by f k (Some (formal.Reference n)) = spot_of_address (reference_target k f.references)
spot_by f k _ = Some (record { frame = f.number; variable = k })

-- the same of a variable with this place among the layout's
abbrev pub spot_at : Frame → Layout → Option ℕ → Option Spot
spot_at f l k = option_and_then (λ k. spot_by f k (slice_get l.formals k)) k

abbrev pub spot_of_layout : Frame → ℕ → Option Layout → Option Spot
spot_of_layout f x l = option_and_then (λ l. spot_at f l (place_of x (first_number l) l.variables)) l

-- where variable x of the tree stands in a frame, if it is one of its variables
abbrev pub spot_in : List Layout → Frame → Home → ℕ → Option Spot
spot_in ls f (OfBlock b) x = spot_of_layout f x (layout_of ls b)
spot_in ls f (OfIndex y) x = if x == y then Some (record { frame = f.number; variable = 0 }) else None

-- here, or in a frame further outward
abbrev pub or_outward : Option Spot → Option Spot → Option Spot
or_outward (Some s) o = Some s
or_outward None o = o

-- where it stands, outward from the first of these frames: no more than n levels
abbrev pub spot_from : List Layout → ℕ → List Frame → ℕ → Option Spot
spot_from ls (suc n) (f ∷ fs) x = or_outward (spot_in ls f f.home x) (spot_from ls n (last_frames f.link fs) x)
spot_from _ _ _ _ = None

-- the spot of variable x of the tree. The input and the output are variables 0 and 1 of frame 0
abbrev pub spot_of : List Layout → List Frame → ℕ → Option Spot
spot_of ls fs x = if nat_lt x 2 then Some (record { frame = 0; variable = x }) else spot_from ls (length fs) fs x

-- a spot before others, if there is one
abbrev pub with_spot : Option Spot → List Spot → List Spot
with_spot s ss = option_map_or (λ s. s ∷ ss) s ss

-- the spots of variables; one that stands nowhere has none
abbrev pub spots_of : List Layout → List Frame → List ℕ → List Spot
spots_of ls fs [] = []
spots_of ls fs (x ∷ xs) = with_spot (spot_of ls fs x) (spots_of ls fs xs)

-- the index of child k of a forall
abbrev pub index_by : ℤ → ℕ → Option ℕ → Option (ℕ × ℤ)
index_by value k x = option_map (λ x. (0, value +ℤ pos k)) x

-- what child k is handed
abbrev pub handing_of : List Layout → List Frame → ℤ → ℕ → ChildTable → Handing
handing_of ls fs value k c =
    record { moved = spots_of ls fs c.moved; shared = spots_of ls fs c.shared; index = index_by value k c.index }

-- for a number that no child has
abbrev pub no_child : ChildTable
no_child = record { entry = 0; moved = []; shared = []; index = None }

abbrev pub child_or : Option ChildTable → ChildTable
child_or c = unwrap_or c no_child

abbrev pub table_or : Option ForkTable → ForkTable
table_or t = unwrap_or t (record { children = [] })

-- the handings of children i to i + n - 1
abbrev pub plan_from : List Layout → List Frame → ForkTable → ℤ → ℕ → ℕ → List Handing
plan_from ls fs t value i zero = []
plan_from ls fs t value i (suc n) = handing_of ls fs value i (child_or (child_at t i))
    ∷ plan_from ls fs t value (suc i) n

-- ---- the state

-- what a process is doing: it runs, or is at the start of a turn; it waits at an offer; it joins so many children yet;
-- it was laid down; it has ended, and its pieces went back to its parent; it was the first process, and has ended
pub data Condition (S : Type 0) : Type 0 where
  Absent : Condition S
  Working : (c : Config (Memory S)) → Condition S
  Waits : (stop : Stop) (c : Config (Memory S)) → Condition S
  Joins : (left : ℕ) (c : Config (Memory S)) → Condition S
  Laid : (c : Config (Memory S)) → Condition S
  Gone : Condition S
  Over : (c : Config (Memory S)) → Condition S

-- the processes by their numbers; what the entries have given to processes and channels; whose offer is pending on a
-- channel; whether a fault stands; how many entries fork, open, send and receive there were
pub record System (S : Type 0) : Type 0 where
  pub condition : ℕ → Condition S
  pub births : Births
  pub pending : ℕ → Option ℕ
  pub faulted : Bool
  pub entries : ℕ

-- ---- events

-- an offer against the pending one: F6 where both have one way, F7 where the message types differ
abbrev pub clash_by : Way → ℕ → Option Stop → Option Fault
clash_by w k None = None
clash_by way.Send k (Some (Sends d j cs)) = Some fault.F6
clash_by way.Send k (Some (Receives d j a)) = if j == k then None else Some fault.F7
clash_by way.Receive k (Some (Sends d j cs)) = if j == k then None else Some fault.F7
clash_by way.Receive k (Some (Receives d j a)) = Some fault.F6
clash_by _ _ _ = None

-- the first of two
abbrev pub first_fault : Option Fault → Option Fault → Option Fault
first_fault None g = g
first_fault (Some f) g = Some f

-- the event of a stop that is no fault
abbrev pub event_at : Stop → Event
event_at (Forks t value n) = event.Fork n
event_at (Opens a) = event.Open
event_at (Sends c k cs) = event.Send c
event_at (Receives c k a) = event.Receive c
event_at Ends = event.End
event_at Pauses = event.Pause

module _ {S : Type 0} where
  -- the store of a process, whatever it does
  abbrev pub store_in : Condition S → Option S
  store_in Absent = None
  store_in (Working (At pc st n)) = Some n.store
  store_in (Waits s (At pc st n)) = Some n.store
  store_in (Joins left (At pc st n)) = Some n.store
  store_in (Laid (At pc st n)) = Some n.store
  store_in Gone = None
  store_in (Over (At pc st n)) = Some n.store

  -- what a process is stopped at, if it waits with an offer
  abbrev pub stop_of : Condition S → Option Stop
  stop_of (Waits s c) = Some s
  stop_of _ = None

  -- what the process waits with whose offer is pending
  abbrev pub pending_stop : System S → Option ℕ → Option Stop
  pending_stop s z = option_and_then (λ z. stop_of (s.condition z)) z

  -- the fault of the total that would pass its limit: first F15, then F13 or F14
  abbrev pub one_more_entry : Limits → System S → Option Fault → Option Fault
  one_more_entry lim s other = if nat_lt lim.entries (s.entries + 1) then Some fault.F15 else other

  -- the fault of a stop that would pass a limit
  abbrev pub limit_of : Limits → System S → Stop → Option Fault
  limit_of lim s (Forks t value n) = one_more_entry lim s
      (if nat_lt lim.processes (s.births.processes + n) then Some fault.F13 else None)
  limit_of lim s (Opens a) = one_more_entry lim s
      (if nat_lt lim.channels (s.births.channels + 1) then Some fault.F14 else None)
  limit_of lim s Ends = None
  limit_of lim s Pauses = None
  limit_of lim s _ = one_more_entry lim s None

  -- the fault of an offer against what is pending
  abbrev pub clash_of : System S → Stop → Option Fault
  clash_of s (Sends c k cs) = clash_by way.Send k (pending_stop s (s.pending c))
  clash_of s (Receives c k a) = clash_by way.Receive k (pending_stop s (s.pending c))
  clash_of _ _ = None

  -- the fault of a turn's event, if it is one: those of the turn come first, then F15, then F13, F14, F6 and F7
  abbrev pub fault_of : Limits → System S → Turn (Memory S) → Option Fault
  fault_of lim s (Faulted f c) = Some f
  fault_of lim s (Stopped stop c) = first_fault (limit_of lim s stop) (clash_of s stop)

  -- of a turn: a fault comes before it ends
  abbrev pub event_or : Option Fault → Turn (Memory S) → Event
  event_or (Some f) t = event.Fault f
  event_or None (Faulted f c) = event.Fault f
  event_or None (Stopped stop c) = event_at stop

  -- the event that a turn makes: Laid once a fault stands
  abbrev pub event_of : Limits → System S → Turn (Memory S) → Event
  event_of lim s t = if s.faulted then event.Laid else event_or (fault_of lim s t) t

  -- the process after its turn
  abbrev pub config_of : Turn (Memory S) → Config (Memory S)
  config_of (Stopped stop c) = c
  config_of (Faulted f c) = c

  -- a process at its entry has made no ticks since
  abbrev pub process_at_entry : Config (Memory S) → Config (Memory S)
  process_at_entry (At pc st n) = At pc st (record n { since = n.ticks })

  abbrev pub frames_of : Config (Memory S) → List Frame
  frames_of (At pc st n) = n.frames

  abbrev pub store_of : Config (Memory S) → S
  store_of (At pc st n) = n.store

  abbrev pub depth_of : Config (Memory S) → ℕ
  depth_of (At pc st n) = n.depth

  -- the process with another store
  abbrev pub on_store : (S → S) → Config (Memory S) → Config (Memory S)
  on_store f (At pc st n) = At pc st (record n { store = f n.store })

module _ {S : Type 0} (stores : Stores S) (g : CodeRun) where
  -- ---- events

  -- process q is in this condition
  abbrev pub becomes : ℕ → Condition S → System S → System S
  becomes q c s = record s { condition = at_key ◌==◌ q c s.condition }

  -- one more entry of a counted kind
  abbrev pub with_entry_counted : System S → System S
  with_entry_counted s = record s { entries = s.entries + 1 }

  -- what a fork of this table hands to its children
  abbrev pub plan_of : Config (Memory S) → (table : ℕ) → ℤ → ℕ → List Handing
  plan_of c t value n = plan_from g.code.layouts (frames_of c) (table_or (slice_get g.code.forks t)) value 0 n

  -- the frames of a child, above them that of its index
  abbrev pub with_index_frame : ℕ → Handing → Option ℕ → List Frame → List Frame
  with_index_frame q h None fs = fs
  with_index_frame q h (Some x) fs =
      record { owner = q; number = index_frame h; home = OfIndex x; link = length fs; references = [] } ∷ fs

  -- child k of a fork at c, with the number q: its frames are its parent's, with the index's above; it is one level
  -- deeper
  abbrev pub child_process : Config (Memory S) → ℤ → ℕ → ℕ → ChildTable → Config (Memory S)
  child_process c value q k child =
      let h = handing_of g.code.layouts (frames_of c) value k child in
      At child.entry [] (record {
        process = q;
        frames = with_index_frame q h child.index (frames_of c);
        depth = depth_of c + 1;
        ticks = 0;
        since = 0;
        cells = 0;
        store = stores.child (store_of c) h;
      })

  -- the children have the next numbers, and the parent joins them
  abbrev pub apply_fork : ℕ → (table : ℕ) → ℤ → ℕ → Config (Memory S) → System S → System S
  apply_fork q t value n c s = record s {
    condition = λ r.
        cond (is_next s.births n r) (Working
        (child_process c value r (r - s.births.processes)
        (child_or (child_at (table_or (slice_get g.code.forks t)) (r - s.births.processes)))))
        (cond (q == r) (Joins n (on_store (λ m. stores.handed m (plan_of c t value n)) c)) (s.condition r));
  }

  -- the new channel's number goes to the target
  abbrev pub apply_open : ℕ → Address → Config (Memory S) → System S → System S
  apply_open q a c s = becomes q (Working (on_store (put_cell stores a (cell.Channel s.births.channels)) c)) s

  -- a message goes over to a process that waits to receive, or from one that waits to send
  abbrev pub after_message : List Cell → Condition S → Condition S
  after_message cs (Waits (Receives d k a) c) = Working (on_store (put_cells stores a cs) c)
  after_message cs (Waits stop c) = Working c
  after_message cs d = d

  -- the cells that are sent
  abbrev pub message_of : Option Stop → List Cell
  message_of (Some (Sends c k cs)) = cs
  message_of _ = []

  -- an offer waits, or it meets the pending one, and then both go on
  abbrev pub apply_send : ℕ → Stop → (channel : ℕ) → List Cell → Config (Memory S) → Option ℕ → System S → System S
  apply_send q stop ch cs c None s = record (becomes q (Waits stop c) s) { pending = at_key ◌==◌ ch (Some q) s.pending }
  apply_send q stop ch cs c (Some z) s = record (becomes q (Working c) (becomes z (after_message cs (s.condition z)) s))
      { pending = at_key ◌==◌ ch None s.pending }

  -- an offer to receive, by what is pending: it waits, or it takes the message
  abbrev pub apply_receive : ℕ → Stop → (channel : ℕ) → Address → Config (Memory S) → Option ℕ → System S → System S
  apply_receive q stop ch a c None s =
      record (becomes q (Waits stop c) s) { pending = at_key ◌==◌ ch (Some q) s.pending }
  apply_receive q stop ch a c (Some z) s =
      record (becomes q (Working (on_store (put_cells stores a (message_of (stop_of (s.condition z)))) c))
      (becomes z (after_message [] (s.condition z)) s)) { pending = at_key ◌==◌ ch None s.pending }

  -- a child's pieces go back to its parent, which goes on after the last one. The first process has none
  abbrev pub parent_after_join : Config (Memory S) → Condition S → Condition S
  parent_after_join c (Joins left d) =
      let e = on_store (λ m. stores.joined m (store_of c)) d in
      if left == 1 then Working e else Joins (left - 1) e
  parent_after_join c d = d

  -- a process without a parent is over, and the parent of another one waits for a child fewer
  abbrev pub apply_end : ℕ → Config (Memory S) → Option Birth → System S → System S
  apply_end q c None s = becomes q (Over c) s
  apply_end q c (Some b) s = becomes b.parent (parent_after_join c (s.condition b.parent)) (becomes q Gone s)

  -- what a stop that is no fault does
  abbrev pub apply_stop : ℕ → Stop → Config (Memory S) → System S → System S
  apply_stop q (Forks t value n) c s = with_entry_counted (apply_fork q t value n c s)
  apply_stop q (Opens a) c s = with_entry_counted (apply_open q a c s)
  apply_stop q (Sends ch k cs) c s = with_entry_counted (apply_send q (Sends ch k cs) ch cs c (s.pending ch) s)
  apply_stop q (Receives ch k a) c s = with_entry_counted (apply_receive q (Receives ch k a) ch a c (s.pending ch) s)
  apply_stop q Ends c s = apply_end q c (s.births.birth q) s
  apply_stop q Pauses c s = becomes q (Working c) s

  -- process q is laid
  abbrev pub lays : ℕ → Config (Memory S) → System S → System S
  lays q c s = becomes q (Laid c) s

  -- a fault lays its process, and faults the system
  abbrev pub apply_unless_fault : Option Fault → ℕ → Turn (Memory S) → System S → System S
  apply_unless_fault (Some f) q t s = record (lays q (config_of t) s) { faulted = true }
  apply_unless_fault None q (Faulted f c) s = record (lays q c s) { faulted = true }
  apply_unless_fault None q (Stopped stop c) s = apply_stop q stop (process_at_entry c) s

  -- after a fault every process is laid at the end of its turn
  abbrev pub apply_turn : ℕ → Turn (Memory S) → System S → System S
  apply_turn q t s = if s.faulted then lays q (config_of t) s else apply_unless_fault (fault_of g.limits s t) q t s

  -- the system after the event that a turn of process q makes
  abbrev pub system_after_turn : ℕ → Turn (Memory S) → System S → System S
  system_after_turn q t s = let r = apply_turn q t s in
      record r { births = births_after_event s.births q (event_of g.limits s t) }

  -- ---- along a journal

  -- the first process alone
  abbrev pub opening_system : System S
  opening_system = record {
    condition = λ q. if q == 0 then Working (first_process stores g) else Absent;
    births = first_births;
    pending = λ c. None;
    faulted = false;
    entries = 0;
  }

  -- the turn of the entry's process, which runs, and then its event, which is the entry's, lead from s to t
  abbrev pub EntryLeads : System S → ℕ → Event → System S → Type 0
  EntryLeads s q e t =
      (c : Config (Memory S)) × (s.condition q ≡ Working c) × (turn : Turn (Memory S))
      × IsTurn (memory stores g) g.code c turn × (event_of g.limits s turn ≡ e) × (t ≡ system_after_turn q turn s)

  -- the entries, in order
  abbrev pub EntriesLead : System S → List Entry → System S → Type 0
  EntriesLead s [] t = t ≡ s
  EntriesLead s (e ∷ es) t = (u : System S) × EntryLeads s e.process e.event u × EntriesLead u es t

  -- the system along a journal is this one
  abbrev pub IsSystem : List Entry → System S → Type 0
  IsSystem es t = EntriesLead opening_system es t

  -- the output of a state is that of the process that holds it
  abbrev pub OutputIs : System S → List ℕ → Type 0
  OutputIs s bs = (q : ℕ) × (m : S) × (store_in (s.condition q) ≡ Some m) × (stores.output m ≡ Some bs)

  -- ---- histories of the kernel

  -- a process is given with its event; or nothing is; or a worker abandons
  abbrev pub GiveIsLegal : Control → System S → (worker : ℕ) → Option ℕ → Option Event → Option ℕ → System S → Type 0
  GiveIsLegal k s w None None got t = t ≡ s
  GiveIsLegal k s w None (Some e) got t = ⊥
  GiveIsLegal k s w (Some p) (Some e) got t = (k.doing p ≡ Out w) × EntryLeads s p e t
  GiveIsLegal k s w (Some p) None got t = (k.doing p ≡ Out w) × (got ≡ None) × (t ≡ s)

  -- a process got is the front of the queue; a note that is no abandon gets it, where there is one
  abbrev pub GetIsLegal : Control → Option Event → Option ℕ → Type 0
  GetIsLegal k None None = Unit {0}
  GetIsLegal k None (Some q) = front k ≡ Some q
  GetIsLegal k (Some e) got = got ≡ front k

  -- each further note is legal where the ones before it lead
  abbrev pub LegalFrom : Control → System S → List Note → Type 0
  LegalFrom k s [] = Unit {0}
  LegalFrom k s (n ∷ ns) =
      (t : System S) × GiveIsLegal k s n.worker n.given n.event n.got t
      × GetIsLegal (after_give n.given n.event n.got k) n.event n.got
      × LegalFrom (after_note n k) t ns

  -- a history is legal where the kernel, asked by one thread in that order from its opening state, gives these notes
  abbrev pub IsLegal : List Note → Type 0
  IsLegal ns = LegalFrom control_at_start opening_system ns
