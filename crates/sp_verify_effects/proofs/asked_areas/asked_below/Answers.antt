use Rattle.std.proofs.Common.{List, subst}
use Rattle.sp_verify_effects.specs.declared.edges.Edge.{Edge}
use Rattle.sp_verify_effects.specs.FactClosure.{FollowsEdges}
use Rattle.sp_verify_effects.proofs.AreaQueries.{all_follow, all_tables}
use Rattle.sp_verify_effects.proofs.asked_areas.asked_below.Goals as goal

pub returns-then-follows_edges-clause-follows : goal.returns-then-follows_edges-clause-follows
returns-then-follows_edges-clause-follows c =
    subst (λ (z : List (List Edge)). FollowsEdges z c.in-Ok.value) c.items-then-asks.ensures
    (c.follows_edges.ensures c.if-follows_edges.true)

pub returns-clause-asks : goal.returns-clause-asks
returns-clause-asks c =
    all_tables c.args.bound c.every_area.result c.args.g.now.code.now.forks c.every_area.ensures.all

pub returns-clause-follows : goal.returns-clause-follows
returns-clause-follows c = all_follow c.args.rows.now c.every_area.result c.every_area.ensures.all
