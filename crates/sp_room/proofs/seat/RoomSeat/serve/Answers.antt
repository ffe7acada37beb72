use Rattle.std.proofs.Common.{rules, arith, inl, inr, refl, subst, sym, ap, ◌∙◌, ◌-◌, ◌++◌, ◌∷◌, [], Some}
use Rattle.sp_room.specs.History.{note_list}
use Rattle.sp_room.proofs.ServeLaws.{noted_slot, seen_on, called, seen_last, called_last, declined}
use Rattle.sp_room.proofs.seat.RoomSeat.serve.Goals as goal

pub put_last-got-requires-clause-serves : goal.put_last-got-requires-clause-serves
put_last-got-requires-clause-serves g c = let v = c.args.self.now.seat.me.0 in let d = c.take_turn-held.result in
    let x = c.args.room.now.table.shared.key.value in
    let (begins, own, opened, claims, space) = c.take_turn-held.ensures.acquired.1 in
    let at = opened x c.requires.seat.1 in
    subst (λ z. g.K.Kept.can_serve z.object c.args.self.now.number c.args.ask) (sym c.deref_mut.ensures.value)
    (subst (λ n. g.K.Kept.can_serve d.value.object n c.args.ask) (sym c.args.self.now.numbered)
    (g.met.K.Kept.lasting x v.number v.seen v.own c.args.ask d.value.notes.items d.value.object at.0 c.requires.asks
    begins own at.1 (omega (
      arith,
      claims,
      space,
      c.requires.last (sym c.if-last.ensures),
      d.value.notes.small,
    ))).1)

pub put-requires-clause-serves : goal.put-requires-clause-serves
put-requires-clause-serves g c = let v = c.args.self.now.seat.me.0 in let d = c.take_turn-slot.result in
    let x = c.args.room.now.table.shared.key.value in
    let (begins, own, opened, _, space) = c.take_turn-slot.ensures.acquired.1 in
    let at = opened x c.requires.seat.1 in
    subst (λ z. g.K.Kept.can_serve z.object c.args.self.now.number c.args.ask) (sym c.deref_mut-2.ensures.value)
    (subst (λ n. g.K.Kept.can_serve d.value.object n c.args.ask) (sym c.args.self.now.numbered)
    (g.met.K.Kept.lasting x v.number v.seen v.own c.args.ask d.value.notes.items d.value.object at.0 c.requires.asks
    begins own at.1 (omega (arith, space, d.value.notes.small))).1)

pub give_last-self-requires-clause-slot : goal.give_last-self-requires-clause-slot
give_last-self-requires-clause-slot g c = let d = c.take_turn-held.result in let note = c.put_last-got.result.1 in
    let step = subst (λ z. g.K.Kept.steps z.object c.args.self.now.number c.args.ask c.put_last-got.new.slot.object
    c.put_last-got.result.0 (Some note)) c.deref_mut.ensures.value c.put_last-got.ensures.step in
    let n = noted_slot g.K.Kept.opens g.K.Kept.steps g.K.Kept.author c.args.room.now.table.shared.key.value
    c.args.self.now.seat.me _ _ d _ _ _ _ _ note c.put_last-got.new.slot.notes.items c.take_turn-held.ensures.acquired.0
    c.take_turn-held.ensures.acquired.1 c.requires.seat.1 step refl
    (c.put_last-got.ensures.notes ∙ ap (λ z. z.notes.items ++ note ∷ []) c.deref_mut.ensures.value) in (
      n.0,
      n.1,
      c.put_last-got.ensures.reserve.0
          ∙ ap (λ k. k - 1) (ap (λ z. z.reserved) c.deref_mut.ensures.value
          ∙ ap (λ m. m.0.reserve) (sym c.take_turn-held.ensures.acquired.0)),
      c.put_last-got.ensures.reserve.1,
    )

pub returns-then-last-clause-own : goal.returns-then-last-clause-own
returns-then-last-clause-own g c = (seen_last g.K.Kept.opens g.K.Kept.steps g.K.Kept.author
    c.args.room.now.table.shared.key.value c.args.self.now.seat.me _ _ _ c.take_turn-held.result _
    c.take_turn-held.ensures.acquired.0 c.take_turn-held.ensures.acquired.1 c.give_last-self.ensures.free
    (search rules)).1

pub returns-then-last-clause-call : goal.returns-then-last-clause-call
returns-then-last-clause-call g c = let note = c.put_last-got.result.1 in
    let step = subst (λ z. g.K.Kept.steps z.object c.args.self.now.number c.args.ask c.put_last-got.new.slot.object
    c.put_last-got.result.0 (Some note)) c.deref_mut.ensures.value c.put_last-got.ensures.step in
    inl (called_last g.K.Kept.opens g.K.Kept.steps g.K.Kept.author c.args.room.now.table.shared.key.value
    c.args.self.now.seat.me _ _ _ c.take_turn-held.result _ c.args.self.now.number _ _ _ note
    c.take_turn-held.ensures.acquired.0 c.take_turn-held.ensures.acquired.1 c.give_last-self.ensures.free
    c.requires.seat.1
    (search rules) step refl)

pub give_on-self-requires-clause-slot : goal.give_on-self-requires-clause-slot
give_on-self-requires-clause-slot g c = let d = c.take_turn-slot.result in let note = c.in-Some.note in
    let told = c.in-Ok.ensures.ok in
    let step = subst (λ z. g.K.Kept.steps z.object c.args.self.now.number c.args.ask c.put.new.slot.object
    c.in-Ok.field-0.got c.in-Ok.field-0.note) c.deref_mut-2.ensures.value told.0 in
    let n = noted_slot g.K.Kept.opens g.K.Kept.steps g.K.Kept.author c.args.room.now.table.shared.key.value
    c.args.self.now.seat.me _ _ d _ _ _ _ _ note c.put.new.slot.notes.items c.take_turn-slot.ensures.acquired.0
    c.take_turn-slot.ensures.acquired.1 c.requires.seat.1 step c.in-Some.is
    (told.1 ∙ (ap (λ o. c.deref_mut-2.result.now.notes.items ++ note_list o) c.in-Some.is
    ∙ ap (λ z. z.notes.items ++ note ∷ []) c.deref_mut-2.ensures.value)) in (
      n.0,
      n.1,
      c.put.ensures.reserve.0 ∙ (ap (λ z. z.reserved) c.deref_mut-2.ensures.value
          ∙ ap (λ m. m.0.reserve) (sym c.take_turn-slot.ensures.acquired.0)),
      c.put.ensures.reserve.1,
    )

pub returns-in-Some-clause-own : goal.returns-in-Some-clause-own
returns-in-Some-clause-own g c = (seen_on g.K.Kept.opens g.K.Kept.steps g.K.Kept.author
    c.args.room.now.table.shared.key.value c.args.self.now.seat.me _ _ _ c.take_turn-slot.result _
    c.take_turn-slot.ensures.acquired.0 c.take_turn-slot.ensures.acquired.1 c.give_on-self.ensures.free
    (search rules)).1

pub returns-in-Some-clause-call : goal.returns-in-Some-clause-call
returns-in-Some-clause-call g c =
    let step = subst (λ z. g.K.Kept.steps z.object c.args.self.now.number c.args.ask c.put.new.slot.object
    c.in-Ok.field-0.got c.in-Ok.field-0.note) c.deref_mut-2.ensures.value c.in-Ok.ensures.ok.0 in
    inl (called g.K.Kept.opens g.K.Kept.steps g.K.Kept.author c.args.room.now.table.shared.key.value
    c.args.self.now.seat.me _ _ _ c.take_turn-slot.result _ c.args.self.now.number _ _ _ c.in-Some.note
    c.take_turn-slot.ensures.acquired.0 c.take_turn-slot.ensures.acquired.1 c.give_on-self.ensures.free
    c.requires.seat.1
    (search rules) step c.in-Some.is)

pub returns-in-Err-clause-call : goal.returns-in-Err-clause-call
returns-in-Err-clause-call g c =
    inr (
      search rules,
      declined g.K.Kept.opens g.K.Kept.steps g.K.Kept.author c.args.room.now.table.shared.key.value
          g.K.Kept.refused c.args.self.now.seat.me _ _ _ c.take_turn-slot.result _ _ c.take_turn-slot.ensures.acquired.0
          c.take_turn-slot.ensures.acquired.1 c.give_back-self-in-Err.ensures.free c.requires.seat.1
          c.in-Err.ensures.err.0,
    )
