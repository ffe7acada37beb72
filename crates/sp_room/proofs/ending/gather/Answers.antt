use Rattle.std.proofs.Common.{rules, refl, sym, ap, subst, ◌∙◌, ◌++◌, ◌≤◌}
use Rattle.std.specs.Option.{option_to_list}
use Rattle.sp_room.specs.Seats.{seat_view, seat_table}
use Rattle.sp_room.proofs.Rows.{at_start, popped, keeps_first, keeps_next, next_number, owns_of, seens_of}
use Rattle.sp_room.proofs.SeatsKeep.{joins, settles, settled, nobody_else}
use Rattle.sp_room.proofs.ending.gather.Goals as goal

pub loop-next-init : goal.loop-next-init
loop-next-init g c = let rest = c.pop-last.new.self.items in
    let e = c.pop-last.ensures.items ∙ ap (λ o. rest ++ option_to_list o) c.in-Some.is in (
      (popped seat_view seat_table _ _ _ rest c.in-Some.last _ e c.requires.all).0,
      keeps_first seat_view seat_table _ _ _ rest c.in-Some.last e refl c.in-Some.last.idle.1 c.in-Some.last.idle.2
          c.requires.all,
    )

pub join_seat-requires : goal.join_seat-requires
join_seat-requires g c = let rest = c.pop.new.self.items in
    let e = c.pop.ensures.items ∙ ap (λ o. rest ++ option_to_list o) c.in-Some-pop.is in
    let k = c.loop-next.invariant.1 in
    let f = next_number seat_view seat_table _ _ _ rest c.loop-next.row.items c.in-Some-pop.next c.loop-next.keeper.me.0
    e k c.requires.all in (
      c.loop-next.invariant.0,
      f.0,
      c.in-Some-pop.next.idle.0,
      search rules,
      joins g.K.Kept.opens g.K.Kept.steps g.K.Kept.author _ _ _ _ _ k.0 k.1 c.in-Some-pop.next.idle.1
          c.in-Some-pop.next.idle.2 f.1,
    )

pub loop-next-preserved : goal.loop-next-preserved
loop-next-preserved g c = let rest = c.pop.new.self.items in
    let e = c.pop.ensures.items ∙ ap (λ o. rest ++ option_to_list o) c.in-Some-pop.is in (
      search rules,
      keeps_next seat_view seat_table _ _ _ rest c.loop-next.row.items c.in-Some-pop.next
          c.loop-next.keeper.me.0 _ e c.loop-next.invariant.1 (ap (λ m. m.0) c.join_seat.ensures.2) c.requires.all,
    )

pub unreachable-requires-in_default-held : goal.unreachable-requires-in_default-held
unreachable-requires-in_default-held g c = let k = c.loop-next.invariant.1 in
    let none = at_start seat_view seat_table c.args.room.table.shared.table_id _ c.args.row.items c.loop-next.row.items
    c.loop-next.keeper.me.0 (search rules) c.requires.some refl k in
    let t = settles g.K.Kept.opens g.K.Kept.steps g.K.Kept.author _ _ _ _ _ c.take_only-held.result
    c.close_with.ensures.values.2 k.0 k.1 none.0 none.1 c.take_only-held.ensures in
    c.in_default-held.not-Some t.0 t.1

pub returns-clause-legal : goal.returns-clause-legal
returns-clause-legal g c = let k = c.loop-next.invariant.1 in
    let none = at_start seat_view seat_table c.args.room.table.shared.table_id _ c.args.row.items c.loop-next.row.items
    c.loop-next.keeper.me.0 (search rules) c.requires.some refl k in
    (settled g.K.Kept.opens g.K.Kept.steps g.K.Kept.author _ _ _ _ _ c.take_only-held.result c.in-Some-held.slot
    c.close_with.ensures.values.2 k.0 k.1 none.0 none.1 c.take_only-held.ensures c.in-Some-held.is).0

pub returns-clause-own : goal.returns-clause-own
returns-clause-own g c = let k = c.loop-next.invariant.1 in
    let none = at_start seat_view seat_table c.args.room.table.shared.table_id _ c.args.row.items c.loop-next.row.items
    c.loop-next.keeper.me.0 (search rules) c.requires.some refl k in
    let s = (settled g.K.Kept.opens g.K.Kept.steps g.K.Kept.author _ _ _ _ _ c.take_only-held.result c.in-Some-held.slot
    c.close_with.ensures.values.2 k.0 k.1 none.0 none.1 c.take_only-held.ensures c.in-Some-held.is).1 in
    λ i t e. s i (seat_view t).own (owns_of seat_view seat_table c.args.room.table.shared.table_id _ c.args.row.items
    c.loop-next.keeper.me.0 none.2 i t e)

pub returns-clause-seen : goal.returns-clause-seen
returns-clause-seen g c = let k = c.loop-next.invariant.1 in
    let none = at_start seat_view seat_table c.args.room.table.shared.table_id _ c.args.row.items c.loop-next.row.items
    c.loop-next.keeper.me.0 (search rules) c.requires.some refl k in
    let s = (settled g.K.Kept.opens g.K.Kept.steps g.K.Kept.author _ _ _ _ _ c.take_only-held.result c.in-Some-held.slot
    c.close_with.ensures.values.2 k.0 k.1 none.0 none.1 c.take_only-held.ensures c.in-Some-held.is).2 in
    λ i t e. s i (seat_view t).seen (seens_of seat_view seat_table c.args.room.table.shared.table_id _ c.args.row.items
    c.loop-next.keeper.me.0 none.2 i t e)

pub returns-clause-others : goal.returns-clause-others
returns-clause-others g c = let k = c.loop-next.invariant.1 in let (_, _, _, made, _) = k in
    let none = at_start seat_view seat_table c.args.room.table.shared.table_id _ c.args.row.items c.loop-next.row.items
    c.loop-next.keeper.me.0 (search rules) c.requires.some refl k in
    λ i l. nobody_else g.K.Kept.opens g.K.Kept.steps g.K.Kept.author _ _ _ _ _ c.take_only-held.result
    c.in-Some-held.slot c.close_with.ensures.values.2 k.0 k.1 none.0 none.1 c.take_only-held.ensures
    c.in-Some-held.is i (subst (λ n. n ≤ i) (sym made) l)
