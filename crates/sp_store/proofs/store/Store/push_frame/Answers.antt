use Rattle.std.proofs.Common.{◌≡◌, ◌≤◌, ap, arith, sym, ◌∙◌}
use Rattle.sp_cell.specs.Map.{Plain}
use Rattle.sp_cell.specs.Frame.{least_above, next_frame, without_spots_of}
use Rattle.sp_cell.proofs.FrameLaws.{without_next, rising_push}
use Rattle.sp_store.proofs.store.Store.push_frame.Goals as goal

pub returns-in-Err-add_pieces-clause-err : goal.returns-in-Err-add_pieces-clause-err
returns-in-Err-add_pieces-clause-err c =
    let p : Plain = record { map = c.self.inside.slots; own = c.self.inside.own.items; moved = c.self.inside.moved } in
    let number : c.next_frame-number.result ≡ next_frame p = c.next_frame-number.ensures
    ∙ sym (ap next_frame c.self.view_is) in
    let slots : c.remove_frame.new.self ≡ c.self.inside.slots = c.remove_frame.ensures ∙ c.in-Err-add_pieces.ensures.err
    ∙ ap (λ n. without_spots_of c.self.inside.slots n) number ∙ without_next p in
    rw (slots, c.reserve.ensures.items) c.self.view_is

pub invariant_of-self-2 : goal.invariant_of-self-2
invariant_of-self-2 c =
    let p : Plain = record { map = c.self.inside.slots; own = c.self.inside.own.items; moved = c.self.inside.moved } in
    let number : c.next_frame-number.result ≡ next_frame p = c.next_frame-number.ensures
    ∙ sym (ap next_frame c.self.view_is) in
    let most : least_above c.self.inside.own.items ≤ c.next_frame-number.result = omega (arith, number) in (
      c.self.invariant.0,
      rw (c.push_reserved.ensures.items, c.reserve.ensures.items)
          (rising_push c.self.inside.own.items c.next_frame-number.result c.self.invariant.1 most),
    )
