use Rattle.std.proofs.Common.{rules, Some, ap, sym, ◌∙◌, ◌∷◌}
use Rattle.atomic_table.specs.Table.{rest}
use Rattle.sp_room.proofs.RoomKeeps.{takes_turn}
use Rattle.sp_room.proofs.turn.take_turn.Goals as goal

pub compare_exchange-found-requires : goal.compare_exchange-found-requires
compare_exchange-found-requires g c = (
  search rules,
  search rules,
  takes_turn g.K.Kept.opens g.K.Kept.steps g.K.Kept.author _ _ _ _ _ (search rules) (search rules) (search rules),
)

pub exchange-requires : goal.exchange-requires
exchange-requires g c = let (_, _, (_, acquires)) = c.compare_exchange-found.ensures in
    let (slot, me_is, _) = acquires c.if-found-eq0.true in
    (search rules, (Some slot, ap (λ m. m.1) me_is ∙ ap (λ m. (0, Some slot) ∷ rest m.1) (sym me_is)))
