-- None of this belongs to what the program promises: it is for contracts between crates.
-- What a clause reads of a seat and of its room: its number, what it has seen, its own notes and its claims. The
-- contracts of the room, the runner and the example of a sum cite it.
use Rattle.std.specs.Prelude.{◌≡◌, ℕ, List, Some}
use Rattle.atomic_table.specs.Seated.{TableId}
use Rattle.sp_room.specs.declared.kept.Kept.{Ghosts}
use Rattle.sp_room.specs.declared.seat.Room.{Room}
use Rattle.sp_room.specs.declared.seat.RoomSeat.{RoomSeat}
use Rattle.sp_room.specs.declared.view.View.{View}
use Rattle.sp_room.specs.RoomRule.{IsViewAt, IsNewAt}

module _ {O A G N : Type 0} where
  -- the state with which the room was made
  abbrev pub opening_of : Room O A G N → O
  opening_of room = room.table.shared.key.value

module _ {O A G N : Type 0} {g : Ghosts O A G N} where
  abbrev pub seat_view : RoomSeat O A G N g → View O N
  seat_view t = t.seat.me.0

  abbrev pub seat_table : RoomSeat O A G N g → TableId
  seat_table t = t.seat.table_id

  -- the seat's number, from 0, which is that of its worker
  abbrev pub number_of : RoomSeat O A G N g → ℕ
  number_of t = (seat_view t).number

  -- the history that the seat has seen
  abbrev pub seen_by : RoomSeat O A G N g → List N
  seen_by t = (seat_view t).seen

  -- the seat's own notes
  abbrev pub own_of : RoomSeat O A G N g → List N
  own_of t = (seat_view t).own

  -- how often the seat has given the turn back
  abbrev pub turns_of : RoomSeat O A G N g → ℕ
  turns_of t = (seat_view t).turns

  -- how many notes of the reserve the seat has a claim on
  abbrev pub claims_of_seat : RoomSeat O A G N g → ℕ
  claims_of_seat t = (seat_view t).claims

  -- the seat is one of the room
  abbrev pub IsSeatOf : Room O A G N → RoomSeat O A G N g → Type 0
  IsSeatOf room t = (seat_table t ≡ room.table.shared.table_id) × ((seat_view t).opening ≡ Some (opening_of room))

  -- a seat of n, with the number k, that has done nothing
  abbrev pub IsNewSeat : ℕ → ℕ → RoomSeat O A G N g → Type 0
  IsNewSeat n k t = IsNewAt n k (seat_view t)

  -- the seat of n with the number k
  abbrev pub IsSeatAt : ℕ → ℕ → RoomSeat O A G N g → Type 0
  IsSeatAt n k t = IsViewAt n k (seat_view t)

  -- the same seat, later
  pub record SamePlace (t u : RoomSeat O A G N g) : Type 0 where
    pub table : seat_table u ≡ seat_table t
    pub opening : (seat_view u).opening ≡ (seat_view t).opening
    pub number : (seat_view u).number ≡ (seat_view t).number
    pub seats_made : (seat_view u).seats_made ≡ (seat_view t).seats_made
    pub from : (seat_view u).from ≡ (seat_view t).from
    pub joined : (seat_view u).joined ≡ (seat_view t).joined
    pub looked : (seat_view u).looked ≡ (seat_view t).looked
