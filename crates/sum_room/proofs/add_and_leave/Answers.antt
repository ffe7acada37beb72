use Rattle.std.proofs.Common.{ap, subst, sym, ◌∙◌, ◌<◌, slice_get}
use Rattle.sp_room.specs.Seats.{IsSeatOf, IsSeatAt}
use Rattle.sp_room.proofs.Places.{stays_of, stays_at, same_again}
use Rattle.sum_room.proofs.Places.{all_one}
use Rattle.sum_room.proofs.add_and_leave.Goals as goal

pub add_many-seat-requires : goal.add_many-seat-requires
add_many-seat-requires g c = (c.in-Ok.ensures.seats 0 c.only.result (ap (λ l. slice_get l 0) c.only.ensures)).0

pub serve-requires-clause-seat : goal.serve-requires-clause-seat
serve-requires-clause-seat g c = let t = c.in-Ok.ensures.seats 0 c.only.result
    (ap (λ l. slice_get l 0) c.only.ensures) in
    stays_of c.in-Ok.room _ _ c.add_many-seat.ensures.place t.0

pub serve-requires-clause-last : goal.serve-requires-clause-last
serve-requires-clause-last g c = let t = c.in-Ok.ensures.seats 0 c.only.result
    (ap (λ l. slice_get l 0) c.only.ensures) in
    λ is. subst (λ n. 0 < n) (sym c.add_many-seat.ensures.reserve) t.1.reserve

pub close-requires-clause-seats : goal.close-requires-clause-seats
close-requires-clause-seats g c = let t = c.in-Ok.ensures.seats 0 c.only.result
    (ap (λ l. slice_get l 0) c.only.ensures) in
    let same = same_again c.only.result c.add_many-seat.result.0 c.serve.new.self c.add_many-seat.ensures.place
    c.serve.ensures.place in
    all_one (λ n k t. IsSeatOf c.in-Ok.room t × IsSeatAt n k t) c.serve.new.self _
    (c.of.ensures ∙ c.in-Ok-from_array.ensures.items)
    (stays_of c.in-Ok.room _ _ same t.0, stays_at 1 0 _ _ same t.1.stands)
