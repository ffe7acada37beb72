use Rattle.std.proofs.Common.{◌≡◌, length}
use Rattle.sp_room.specs.Seats.{seat_view, seat_table}
use Rattle.sp_room.proofs.Rows.{HasTakenIn}
use Rattle.sp_room.proofs.ending.gather.Given as goal

abbrev pub invariant-loop-next : goal.invariant-loop-next
invariant-loop-next g l =
    (l.keeper.table_id ≡ l.room.table.shared.table_id)
    × HasTakenIn seat_view seat_table l.room.table.shared.table_id (length l.fn.row.items) l.fn.row.items l.row.items
    l.keeper.me.0

abbrev pub decreases-loop-next : goal.decreases-loop-next
decreases-loop-next g l = goal.left-loop-next g l
