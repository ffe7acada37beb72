use Rattle.std.proofs.Common.{◌≡◌}
use Rattle.sp_room.specs.Seats.{SamePlace, claims_of_seat}
use Rattle.sum_room.proofs.add_many.Given as goal

abbrev pub invariant-loop : goal.invariant-loop
invariant-loop g l = SamePlace l.initial.seat l.seat × (claims_of_seat l.seat ≡ claims_of_seat l.initial.seat)
