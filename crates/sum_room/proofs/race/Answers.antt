use Rattle.std.proofs.Common.{ap, ◌∙◌, slice_get}
use Rattle.sp_room.specs.Seats.{IsSeatOf, IsSeatAt}
use Rattle.sp_room.proofs.Places.{stays_of, stays_at}
use Rattle.sum_room.proofs.Places.{all_three}
use Rattle.sum_room.proofs.race.Goals as goal

pub join-one-requires-after_bounds : goal.join-one-requires-after_bounds
join-one-requires-after_bounds g c κs within =
    let a = c.in-Ok.ensures.seats 0 c.three-a.result.0 (ap (λ l. slice_get l 0) c.three-a.ensures) in
    let b = c.in-Ok.ensures.seats 1 c.three-a.result.1 (ap (λ l. slice_get l 1) c.three-a.ensures) in
    (a.0, b.0)

pub serve-seen-requires-clause-seat : goal.serve-seen-requires-clause-seat
serve-seen-requires-clause-seat g c = (c.in-Ok.ensures.seats 2 c.three-a.result.2
    (ap (λ l. slice_get l 2) c.three-a.ensures)).0

pub close-settled-requires-clause-seats : goal.close-settled-requires-clause-seats
close-settled-requires-clause-seats g c =
    let a = c.in-Ok.ensures.seats 0 c.three-a.result.0 (ap (λ l. slice_get l 0) c.three-a.ensures) in
    let b = c.in-Ok.ensures.seats 1 c.three-a.result.1 (ap (λ l. slice_get l 1) c.three-a.ensures) in
    let d = c.in-Ok.ensures.seats 2 c.three-a.result.2 (ap (λ l. slice_get l 2) c.three-a.ensures) in
    let p = c.join-one.ensures.first in let q = c.join-one.ensures.second in let r = c.serve-seen.ensures.place in
    let ((one, _), (two, _)) = c.join-one.result in
    all_three (λ n k t. IsSeatOf c.in-Ok.room t × IsSeatAt n k t) one two
    c.serve-seen.new.self _ (c.of.ensures ∙ c.in-Ok-from_array.ensures.items)
    (stays_of c.in-Ok.room _ _ p a.0, stays_at 3 0 _ _ p a.1.stands)
    (stays_of c.in-Ok.room _ _ q b.0, stays_at 3 1 _ _ q b.1.stands)
    (stays_of c.in-Ok.room _ _ r d.0, stays_at 3 2 _ _ r d.1.stands)
