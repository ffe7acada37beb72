-- None of this belongs to what the program promises: it is for contracts between crates.
-- The rule of the room's table, and what each step tells. Word 0 is the turn: 0 where it is free, and else one more
-- than the number of the seat that has it. Word 1 counts the history. The slot is at home where the turn is free. The
-- rule of the room's table of atomics, in `src/law.rt`, is this one.
use Rattle.std.specs.Prelude.{◌≡◌, ◌≢◌, ℕ, ◌+◌, ◌-◌, ◌<◌, ◌≤◌, List, [], ◌∷◌, ◌++◌, length, slice_index, drop, Option}
use Rattle.std.specs.Prelude.{Some, None, true, false}
use mathlib.Core.Option.{some}
use lib.ListN.{get_elem?}
use Rattle.atomic_table.specs.Table.{State, Me, Step}
use Rattle.std.specs.Global.{Box}
use Rattle.sp_room.specs.declared.room_slot.RoomSlot.{RoomSlot}
use Rattle.sp_room.specs.declared.view.View.{View}
use Rattle.sp_room.specs.History.{StartsWith, notes_by, note_list, LeadsTo}

-- the object and its notes, on the heap
abbrev pub SlotBox : Type 0 → Type 0 → Type 0
SlotBox O N = Box (RoomSlot O N)

-- the table, a seat at it, and a step
abbrev pub RoomTable : Type 0 → Type 0 → Type 0
RoomTable O N = State (Option (SlotBox O N)) (View O N)

-- a seat's part of the table
abbrev pub SeatPart : Type 0 → Type 0 → Type 0
SeatPart O N = Me (Option (SlotBox O N)) (View O N)

-- a step of the table
abbrev pub RoomStep : Type 0 → Type 0 → Type 0
RoomStep O N = Step (Option (SlotBox O N))

-- the claims of all seats on the reserve
abbrev pub claims_of : {O N : Type 0} → List (View O N) → ℕ
claims_of [] = 0
claims_of (v ∷ vs) = v.claims + claims_of vs

-- what the seat j knows, where this is the history, the turn and all views
pub record SeatKnows {O N : Type 0} (author : N → ℕ) (opening : O) (log : List N) (turn : ℕ) (views : List (View O N))
    (j : ℕ) (v : View O N) : Type 0 where
  pub opened : v.opening ≡ Some opening
  pub numbered : v.number ≡ j
  pub seen : StartsWith log v.seen
  pub own : notes_by author j log ≡ v.own
  pub holds : v.holding ≡ true → (turn ≡ j + 1) × (v.seen ≡ log) × (claims_of views ≤ v.reserve)
  pub counts : v.seats_made ≢ 0 → (v.seats_made ≡ length views) × (j + 1 ≡ length views)
  pub joins : v.from + length v.joined ≡ j
  pub taken_in : (i : ℕ) (own : List N) → get_elem? v.joined i ≡ some own
      → (notes_by author (v.from + i) log ≡ own) × (w : View O N) × (get_elem? views (v.from + i) ≡ some w)
      × (w.spent ≡ true)
  pub had_seen : (i : ℕ) (l : List N) → get_elem? v.looked i ≡ some l → StartsWith log l

-- the rule: there is one legal history, and each seat knows a beginning of it and its own notes in it
pub record RoomRule {O A G N : Type 0} (opens : O → Type 0) (steps : O → ℕ → A → O → G → Option N → Type 0)
    (author : N → ℕ) (opening : O) (s : RoomTable O N) : Type 0 where
  pub fine : opens opening
  pub log : List N
  pub last : O
  pub legal : LeadsTo steps opening log last
  pub wide : length s.words ≡ 2
  pub deep : length s.homes ≡ 1
  pub count : slice_index s.words 1 ≡ length log
  pub free : slice_index s.words 0 ≡ 0 → (d : SlotBox O N) × (get_elem? s.homes 0 ≡ some (some (Some d)))
      × (d.value.notes.items ≡ log) × LeadsTo steps opening log d.value.object
      × (claims_of s.views ≤ d.value.reserved) × (length log + d.value.reserved ≤ d.value.notes.cap)
  pub taken : (j : ℕ) → slice_index s.words 0 ≡ j + 1 → (v : View O N) × (get_elem? s.views j ≡ some v)
      × (v.holding ≡ true) × (v.spent ≡ false)
  pub each : (j : ℕ) (v : View O N) → get_elem? s.views j ≡ some v → v.spent ≡ false
      → SeatKnows author opening log (slice_index s.words 0) s.views j v
  pub nobody : (j : ℕ) → length s.views ≤ j → notes_by author j log ≡ []

module _ {O N : Type 0} where
  -- the seat k of a room, which has done nothing; the room was opened with this, if the seat knows it, and seats_made
  -- and claims are as in a view
  abbrev pub newborn_with : Option O → ℕ → ℕ → ℕ → View O N
  newborn_with opening k seats_made claims = record {
    opening = opening;
    number = k;
    seen = [];
    own = [];
    turns = 0;
    claims = claims;
    reserve = 0;
    holding = false;
    spent = false;
    seats_made = seats_made;
    from = k;
    joined = [];
    looked = [];
  }

  -- the same of a room opened with x
  abbrev pub newborn : O → ℕ → ℕ → ℕ → View O N
  newborn x k seats_made claims = newborn_with (Some x) k seats_made claims

  -- the first seat of a room
  abbrev pub first_view : O → View O N
  first_view x = newborn x 0 1 64

  -- a seat leaves the dealing to the next
  abbrev pub view_after_making : View O N → View O N
  view_after_making v = record v { seats_made = 0; claims = 1 }

  -- the next seat, which deals on
  abbrev pub newcomer : View O N → View O N
  newcomer v = record (newborn_with v.opening v.seats_made (v.seats_made + 1) (v.claims - 1)) { seen = v.seen }

  -- the seat before the others taken in is taken in too
  abbrev pub view_after_joining : View O N → View O N → View O N
  view_after_joining v w = record v { from = w.number; joined = w.own ∷ v.joined; looked = w.seen ∷ v.looked }

  -- a seat that was taken in
  abbrev pub spent_view : View O N
  spent_view = record (newborn_with None 0 0 0) { spent = true }

  -- the seat has the turn, and has seen this history
  abbrev pub holder : View O N → List N → ℕ → View O N
  holder v log reserve = record v { seen = log; holding = true; reserve = reserve }

  -- the note of the step is seen, and the seat's own
  abbrev pub view_after_note : View O N → List N → View O N
  view_after_note v note = record v { seen = v.seen ++ note; own = v.own ++ note }

  -- the same, of the reserve
  abbrev pub view_after_last_note : View O N → List N → View O N
  view_after_last_note v note = record v {
    seen = v.seen ++ note;
    own = v.own ++ note;
    claims = v.claims - 1;
    reserve = v.reserve - 1;
  }

  -- the turn is given back
  abbrev pub view_after_return : View O N → View O N
  view_after_return v = record v { turns = v.turns + 1; holding = false }

  -- the history so far is seen, in which the seat's own notes are these, and the slot's content is in hand
  abbrev pub HoldsSlot : {A G : Type 0} → (O → Type 0) → (O → ℕ → A → O → G → Option N → Type 0) → (N → ℕ) → View O N
      → SlotBox O N → Type 0
  HoldsSlot opens steps author v d = StartsWith d.value.notes.items v.seen
      × (notes_by author v.number d.value.notes.items ≡ v.own)
      × ((x : O) → v.opening ≡ Some x → opens x × LeadsTo steps x d.value.notes.items d.value.object)
      × (v.claims ≤ d.value.reserved) × (length d.value.notes.items + d.value.reserved ≤ d.value.notes.cap)

  -- the turn was taken where it was free
  abbrev pub Acquires : {A G : Type 0} → (O → Type 0) → (O → ℕ → A → O → G → Option N → Type 0) → (N → ℕ) → RoomStep O N
      → SeatPart O N
      → ℕ → SeatPart O N → Type 0
  Acquires opens steps author st m r m' = (r ≢ 0 → m' ≡ m)
      × (r ≡ 0 → (d : SlotBox O N) × (m' ≡ (holder m.0 d.value.notes.items d.value.reserved, (0, Some d) ∷ []))
      × HoldsSlot opens steps author m.0 d)

  -- the notes of a slot's content, if it is there
  abbrev pub items_of : Option (SlotBox O N) → List N
  items_of (Some d) = d.value.notes.items
  items_of None = []

  -- the notes of the content in hand
  abbrev pub in_hand : List (ℕ × Option (SlotBox O N)) → List N
  in_hand [] = []
  in_hand (x ∷ xs) = items_of x.1

  -- the notes in hand beyond those seen are seen, and the seat's own
  abbrev pub Raised : RoomStep O N → SeatPart O N → ℕ → SeatPart O N → Type 0
  Raised st m r m' = m' ≡ (view_after_note m.0 (drop (length m.0.seen) (in_hand m.1)), m.1)

  -- the same, of the reserve
  abbrev pub RaisedLast : RoomStep O N → SeatPart O N → ℕ → SeatPart O N → Type 0
  RaisedLast st m r m' = m' ≡ (view_after_last_note m.0 (drop (length m.0.seen) (in_hand m.1)), m.1)

  -- the turn was given back, and the slot's content with it
  abbrev pub Returned : RoomStep O N → SeatPart O N → ℕ → SeatPart O N → Type 0
  Returned st m r m' = m' ≡ (view_after_return m.0, [])

  -- no turn, no slot, and not taken in
  abbrev pub IsIdleSeat : SeatPart O N → Type 0
  IsIdleSeat m = (m.1 ≡ []) × (m.0.spent ≡ false) × (m.0.holding ≡ false)

  -- the seat k of n seats, which has taken in none
  pub record IsViewAt (n k : ℕ) (v : View O N) : Type 0 where
    pub number : v.number ≡ k
    pub from : v.from ≡ k
    pub joined : v.joined ≡ []
    pub looked : v.looked ≡ []
    pub last : k + 1 ≡ n → v.seats_made ≡ n

  -- the same, and it has done nothing
  pub record IsNewAt (n k : ℕ) (v : View O N) : Type 0 where
    pub stands : IsViewAt n k v
    pub seen : v.seen ≡ []
    pub own : v.own ≡ []
    pub turns : v.turns ≡ 0
    pub reserve : 0 < v.claims

-- one call of the object was made, where the room was opened with x. It met the object after a legal history that
-- begins with all that the seat had seen, and is seen with its note, if it left one, which is the seat's own
pub record Called {O A G N : Type 0} (steps : O → ℕ → A → O → G → Option N → Type 0) (x : O) (v : View O N) (ask : A)
    (got : G) (w : View O N) : Type 0 where
  pub before : List N
  pub met : O
  pub left : O
  pub note : Option N
  pub begins : StartsWith before v.seen
  pub legal : LeadsTo steps x before met
  pub answer : steps met v.number ask left got note
  pub appended : w.seen ≡ before ++ note_list note
  pub own : w.own ≡ v.own ++ note_list note
  pub legal_after : LeadsTo steps x w.seen left

-- no call of the object was made, for want of memory for the history: the ask comes back, and no note is added to a
-- legal history
pub record Declined {O A G N : Type 0} (steps : O → ℕ → A → O → G → Option N → Type 0) (refused : A → G → Type 0)
    (x : O) (v : View O N) (ask : A) (got : G) (w : View O N) : Type 0 where
  pub answer : refused ask got
  pub own : w.own ≡ v.own
  pub met : O
  pub legal : LeadsTo steps x w.seen met
