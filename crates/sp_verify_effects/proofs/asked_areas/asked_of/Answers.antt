use Rattle.std.proofs.Common.{List, subst, sym}
use Rattle.sp_verify_effects.specs.declared.asked_areas.Known.{Known}
use Rattle.sp_verify_effects.specs.declared.edges.Edge.{Edge}
use Rattle.sp_verify_effects.specs.AskedAreas.{AreKnown}
use Rattle.sp_verify_effects.specs.FactClosure.{FollowsEdges}
use Rattle.sp_verify_effects.proofs.AreaQueries.{all_asks, all_follow}
use Rattle.sp_verify_effects.proofs.asked_areas.asked_of.Goals as goal

pub returns-then-follows_edges-clause-follows : goal.returns-then-follows_edges-clause-follows
returns-then-follows_edges-clause-follows c =
    subst (λ (z : List (List Edge)). FollowsEdges z c.in-Ok.value) c.items.ensures
    (c.follows_edges.ensures c.if-follows_edges.true)

pub returns-clause-asks : goal.returns-clause-asks
returns-clause-asks c =
    let every = c.every_area.ensures in
    all_asks c.args.g.now.code.now c.every_area.result every.all every.clash every.side_effect

pub returns-clause-follows : goal.returns-clause-follows
returns-clause-follows c = all_follow c.args.rows.now c.every_area.result c.every_area.ensures.all

pub asks-requires-clause-broken : goal.asks-requires-clause-broken
asks-requires-clause-broken c = subst (λ (z : Known). AreKnown c.args.g.now.code.now z) (sym c.in-Ok.ensures)
    c.requires.broken
