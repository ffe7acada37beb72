use Rattle.std.proofs.Common.{rules}
use Rattle.sp_room.proofs.SeatsKeep.{deals_on}
use Rattle.sp_room.proofs.seats.make_seats.Goals as goal

pub split_seat-next-requires : goal.split_seat-next-requires
split_seat-next-requires g c = (
  search rules,
  search rules,
  deals_on g.K.Kept.opens g.K.Kept.steps g.K.Kept.author _ _ _ _ _ _ c.loop-number.invariant.1 (search rules)
      (search rules),
)
