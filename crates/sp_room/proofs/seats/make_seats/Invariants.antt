use Rattle.std.proofs.Common.{◌≡◌, ◌+◌, ◌-◌, ◌<◌, [], Some, ℕ, slice_get, vec_len}
use Rattle.std.specs.Vec.{vec_capacity}
use Rattle.sp_room.specs.RoomRule.{newborn}
use Rattle.sp_room.proofs.seats.make_seats.Given as goal

abbrev pub invariant-loop-number : goal.invariant-loop-number
invariant-loop-number g l =
    (l.last.table_id ≡ l.room.table.shared.table_id)
    × (l.last.me ≡ (newborn l.room.table.shared.key.value (vec_len l.row) l.number (64 - vec_len l.row), []))
    × (vec_len l.row + 1 ≡ l.number)
    × (vec_capacity l.row ≡ vec_capacity l.initial.row)
    × ((k : ℕ) (t : _) → slice_get l.row.items k ≡ Some t → (t.seat.table_id ≡ l.room.table.shared.table_id)
    × (t.seat.me.0 ≡ newborn l.room.table.shared.key.value k 0 1) × (k < vec_len l.row))
