use denote.Exit.{yes}
use denote.Param.Send.{param_send, arg_send}
use Rattle.sp_base.proofs.limits.Limits.TheSendSync as limits
use Rattle.sp_base.proofs.Facts.{item_there, none_if_not_above}
use Rattle.sp_code.proofs.code.Code.TheSendSync as code
use Rattle.sp_kernel.proofs.ThreadBounds.{seat_send, room_sync}
use Rattle.std.proofs.Common.{◌≡◌, ◌∙◌, sym, ap, subst, Some, None, slice_get, refl, length, arith, ◌<◌, ◌≤◌}
use Rattle.std.proofs.lemmas.Option.{slice_get_read, slice_get_within, get_or_from_slice_get}
use Rattle.sp_room.specs.Seats.{IsSeatAt, SamePlace, seen_by, own_of}
use Rattle.sp_room.proofs.Places.{stays_of, stays_at}
use Rattle.sp_code.specs.WorkerHistory.{OneByOne}
use Rattle.sp_runner.proofs.FreshSeats.{new_seat}
use Rattle.sp_runner.specs.Works.{IsRunOf, LeftAfter}
use Rattle.sp_kernel.specs.Asks.{KernelSteps}
use Rattle.sp_kernel.specs.declared.kernel.Kernel.{Kernel}
use Rattle.sp_room.specs.declared.seat.RoomSeat.{RoomSeat}
use Rattle.sp_room.specs.History.{LeadsTo}
use Rattle.sp_room.specs.Ends.{object_of, notes_of}
use Rattle.sp_runner.proofs.Ending.{ran_to, first_of}
use Rattle.sp_runner.proofs.runner.run_all.Goals as goal

pub map_vec-done-requires-send-J : goal.map_vec-done-requires-send-J
map_vec-done-requires-send-J g c κs within = param_send 1 _ (arg_send _ yes _ seat_send)

pub map_vec-done-requires-send-X : goal.map_vec-done-requires-send-X
map_vec-done-requires-send-X g c κs within = param_send 2 _ (arg_send _ yes _ seat_send)

pub map_vec-done-requires-sync-F : goal.map_vec-done-requires-sync-F
map_vec-done-requires-sync-F g c κs within = record {
  shared = λ x b o κ. (
    (
      ((λ q. tt), c.type_bounds.sync-R.shared x.0.now _ _ _),
      (
        ((λ q. tt), room_sync.shared x.1.now _ _ _),
        (
          ((λ q. tt), code.the_sync.shared x.2.now _ _ _),
          (
            ((λ q. tt), limits.the_sync.shared x.3.now _ _ κ),
            (((λ q. tt), c.type_bounds.sync-G.shared x.4.now _ _ _), tt),
          ),
        ),
      ),
    ),
    λ q. tt,
  );
}

pub map_vec-done-requires-after_bounds : goal.map_vec-done-requires-after_bounds
map_vec-done-requires-after_bounds g c κs within i x below is =
    let at = slice_get_read c.into_vec.result.items _ i x refl below is in
    let new = c.in-Ok.ensures.seats i x (ap (λ l. slice_get l i) (sym c.into_vec.ensures) ∙ at) in
    let n = new_seat _ _ x new.1 in (
      (
        new.0,
        subst (λ (k : Kernel). IsRunOf k c.args.code.now c.args.limits.now)
            (sym c.in-Ok.ensures.opening) c.requires.run,
        n.0,
        n.1,
        n.2,
      ),
      (record { shared = c.type_bounds.sync-R.shared }, record { shared = c.type_bounds.sync-G.shared }),
    )

pub close-settled-requires-clause-seats : goal.close-settled-requires-clause-seats
close-settled-requires-clause-seats g c k t at =
    let here : slice_get c.in-Ok-done.seats.items k ≡ Some t = ap (λ l. slice_get l k) (sym c.of.ensures) ∙ at in
    let long : length c.in-Ok-done.seats.items ≡ length c.into_vec.result.items = omega
    (arith, c.in-Ok-done.seats.ok, c.into_vec.result.ok, c.in-Ok-done.ensures.len) in
    let below : k < length c.into_vec.result.items = let w = slice_get_within c.in-Ok-done.seats.items k t here in omega
    (arith, w, long) in
    let e = (c.in-Ok-done.ensures.each k t below).1 in
    let job = c.in-Ok.ensures.seats k e.job (ap (λ l. slice_get l k) (sym c.into_vec.ensures)
    ∙ slice_get_read c.into_vec.result.items _ k e.job refl below (sym (e.job_is e.job))) in
    let same : SamePlace e.job t = subst (SamePlace e.job)
    (get_or_from_slice_get c.in-Ok-done.seats.items k t t here) e.call.met.0 in
    let count : length c.of.result ≡ c.args.workers = ap length c.of.ensures ∙ long ∙ ap length c.into_vec.ensures
    ∙ c.in-Ok.ensures.count in (
      stays_of c.in-Ok.room e.job t same job.0,
      subst (λ n. IsSeatAt n k t) (sym count)
          (stays_at c.args.workers k e.job t same job.1.stands),
    )

pub returns : goal.returns
returns g c =
    let x : Kernel = c.args.kernel in
    let log = notes_of c.close-settled.result in let y : Kernel = object_of c.close-settled.result in
    let long : length c.in-Ok-done.seats.items ≡ length c.into_vec.result.items = omega
    (arith, c.in-Ok-done.seats.ok, c.into_vec.result.ok, c.in-Ok-done.ensures.len) in
    let count : length c.into_vec.result.items ≡ c.args.workers = ap length c.into_vec.ensures
    ∙ c.in-Ok.ensures.count in
    let f = first_of c.in-Ok-done.seats.items (omega (arith, long, count, c.requires.workers.0)) in
    let e = (c.in-Ok-done.ensures.each 0 f.0 (omega (arith, count, c.requires.workers.0))).1 in
    let left : LeftAfter (seen_by f.0) = subst (λ (t : RoomSeat _ _ _ _ _). LeftAfter (seen_by t))
    (get_or_from_slice_get c.in-Ok-done.seats.items 0 f.0 f.0 f.1) e.call.met.1 in
    let up : y.abandons ≡ 0 = ap (λ (z : Kernel). z.abandons) (sym c.object.ensures)
    ∙ none_if_not_above c.object.result.now.abandons (sym c.gave_up.ensures ∙ c.if-gave_up.false) in
    record {
      ran = ran_to x c.requires.run.opening log y
          (subst (λ (z : Kernel). LeadsTo KernelSteps z log y) c.in-Ok.ensures.opening c.close-settled.ensures.legal)
          (seen_by f.0) (c.close-settled.ensures.seen 0 f.0 (ap (λ l. slice_get l 0) c.of.ensures ∙ f.1)) left up;
      kept = up;
      calls = λ w l.
          let s = item_there c.in-Ok-done.seats.items w (omega (arith, l, long, count)) in
          let d = (c.in-Ok-done.ensures.each w s.0 (omega (arith, l, count))).1 in
          let own : OneByOne None (own_of s.0) = subst (λ (t : RoomSeat _ _ _ _ _). OneByOne None (own_of t))
          (get_or_from_slice_get c.in-Ok-done.seats.items w s.0 s.0 s.1) d.call.met.2 in
          subst (OneByOne None) (sym (c.close-settled.ensures.own w s.0 (ap (λ l. slice_get l w) c.of.ensures
          ∙ s.1))) own;
      others = λ w l. c.close-settled.ensures.others w (subst (λ n. n ≤ w) (sym (ap length c.of.ensures ∙ long
          ∙ count)) l);
    }
