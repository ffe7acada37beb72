use Rattle.std.proofs.Common.{rules}
use Rattle.sp_room.proofs.RoomKeeps.{gives_back}
use Rattle.sp_room.proofs.turn.give_back.Goals as goal

pub store-requires : goal.store-requires
store-requires g c = let (_, _, _, put_back) = c.exchange-empty.ensures in
    let (items, runs, reserve, space) = c.requires.slot in (
      search rules,
      search rules,
      gives_back g.K.Kept.opens g.K.Kept.steps g.K.Kept.author _ _ _ c.args.seat.now.me _
          c.args.slot c.requires.holds.0 put_back (search rules) c.requires.holds.1 items runs reserve space,
    )
