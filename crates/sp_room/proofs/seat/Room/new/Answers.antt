use Rattle.std.proofs.Common.{rules, refl, sym, ap, ◌∙◌, slice_get}
use Rattle.sp_room.specs.Seats.{seat_view}
use Rattle.sp_room.proofs.SeatsKeep.{born, opens_filed}
use Rattle.sp_room.proofs.seat.Room.new.Goals as goal

pub new-requires-2 : goal.new-requires-2
new-requires-2 g c =
    opens_filed g.K.Kept.opens g.K.Kept.steps g.K.Kept.author _
    (record { object = c.args.object; notes = c.in-Ok-with_capacity.notes; reserved = 64 }) c.in-Ok-new.slot _
    (search rules) (search rules) (search rules) c.requires.opens (search rules) refl (search rules)

pub returns-in-Ok-new-2-clause-seats : goal.returns-in-Ok-new-2-clause-seats
returns-in-Ok-new-2-clause-seats g c = λ k t e. let (table, is_new, claim, last) =
    c.make_seats-row.ensures.each k t (ap (λ l. slice_get l k) (sym c.of.ensures) ∙ e) in (
      (table, ap (λ v. v.opening) is_new),
      born c.in-Ok-new-2.table.shared.key.value c.args.seats k (seat_view t) is_new claim last,
    )

pub taken_back-requires : goal.taken_back-requires
taken_back-requires g c = (c.in-Ok-new.slot, search rules)
