use Rattle.std.proofs.Common.{rules}
use Rattle.sp_room.proofs.RoomKeeps.{counts_last, gives_last}
use Rattle.sp_room.proofs.turn.give_last.Goals as goal

pub fetch_add-requires : goal.fetch_add-requires
fetch_add-requires g c = let (_, _, _, put_back) = c.exchange-empty.ensures in (
  search rules,
  search rules,
  counts_last g.K.Kept.opens g.K.Kept.steps g.K.Kept.author _ _ _ c.args.seat.now.me _ c.args.slot c.args.note
      c.requires.holds.0 put_back (search rules) c.requires.holds.1 c.requires.note c.requires.slot.0
      c.requires.slot.1 c.requires.claim (search rules),
)

pub store-requires : goal.store-requires
store-requires g c = let (_, _, _, put_back) = c.exchange-empty.ensures in
    let (items, runs, reserve, space) = c.requires.slot in (
      search rules,
      search rules,
      gives_last g.K.Kept.opens g.K.Kept.steps g.K.Kept.author _ _ _ c.args.seat.now.me _ _ c.args.slot c.args.note
          c.requires.holds.0 put_back c.fetch_add.ensures.2 (search rules) c.requires.holds.1
          items runs reserve space,
    )
