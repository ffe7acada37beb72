-- A seat stays where it is, whatever it does: what a caller needs of a seat that moved.
use Rattle.std.proofs.Common.{ℕ, ◌∙◌}
use Rattle.sp_room.specs.declared.kept.Kept.{Ghosts}
use Rattle.sp_room.specs.declared.seat.Room.{Room}
use Rattle.sp_room.specs.declared.seat.RoomSeat.{RoomSeat}
use Rattle.sp_room.specs.Seats.{IsSeatOf, IsSeatAt, SamePlace}

module _ {O A G N : Type 0} {g : Ghosts O A G N} where
  pub stays_of : (room : Room O A G N) (t u : RoomSeat O A G N g) → SamePlace t u → IsSeatOf room t → IsSeatOf room u
  stays_of room t u same is = (same.table ∙ is.0, same.opening ∙ is.1)

  pub stays_at : (n k : ℕ) (t u : RoomSeat O A G N g) → SamePlace t u → IsSeatAt n k t → IsSeatAt n k u
  stays_at n k t u same is = record {
    number = same.number ∙ is.number;
    from = same.from ∙ is.from;
    joined = same.joined
        ∙ is.joined;
    looked = same.looked ∙ is.looked;
    last = λ z. same.seats_made ∙ is.last z;
  }

  pub same_again : (t u w : RoomSeat O A G N g) → SamePlace t u → SamePlace u w → SamePlace t w
  same_again t u w one two = record {
    table = two.table ∙ one.table;
    opening = two.opening ∙ one.opening;
    number = two.number ∙ one.number;
    seats_made = two.seats_made ∙ one.seats_made;
    from = two.from ∙ one.from;
    joined = two.joined ∙ one.joined;
    looked = two.looked ∙ one.looked;
  }
