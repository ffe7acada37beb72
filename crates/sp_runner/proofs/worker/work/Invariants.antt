use Rattle.std.proofs.Common.{◌<◌}
use Rattle.sp_room.specs.Seats.{SamePlace, claims_of_seat, opening_of, number_of, seen_by, own_of}
use Rattle.sp_runner.specs.Works.{MayWork}
use Rattle.sp_runner.proofs.worker.work.Given as goal

abbrev pub invariant-loop : goal.invariant-loop
invariant-loop g l = record {
  same : SamePlace l.initial.seat l.seat;
  claim : 0 < claims_of_seat l.seat;
  may : MayWork (opening_of l.room) (number_of l.seat) (seen_by l.seat) (own_of l.seat) l.ask;
}
