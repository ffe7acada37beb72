-- What a worker knows at a new seat: it has no notes of its own yet, and a claim on a note of the reserve.
use Rattle.std.proofs.Common.{◌≡◌, ℕ, ◌<◌, [], sym, ap, ◌∙◌}
use Rattle.sp_journal.specs.declared.entry.Note.{Note}
use Rattle.sp_room.specs.declared.kept.Kept.{Ghosts}
use Rattle.sp_room.specs.declared.seat.RoomSeat.{RoomSeat}
use Rattle.sp_room.specs.Seats.{IsNewSeat, seen_by, own_of, number_of, claims_of_seat}
use Rattle.sp_runner.specs.Runs.{notes_of_worker}
use Rattle.sp_runner.specs.Works.{AreOwnNotes}

pub new_seat : {O A G : Type 0} {g : Ghosts O A G Note} (n k : ℕ) (t : RoomSeat O A G Note g) → IsNewSeat n k t
    → AreOwnNotes (seen_by t) (own_of t) (number_of t) × (own_of t ≡ []) × (0 < claims_of_seat t)
new_seat n k t s = (ap (notes_of_worker (number_of t)) s.seen ∙ sym s.own, s.own, s.reserve)
