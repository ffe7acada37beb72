use Rattle.std.proofs.Common.{◌≡◌, ℕ, length, arith}
use Rattle.sp_verify_effects.specs.declared.edges.Edge.{Edge}
use Rattle.sp_verify_effects.specs.FactClosure.{IsFollowed}
use Rattle.sp_verify_effects.proofs.AreaQueries.{before_none, before_more, before_all}
use Rattle.sp_verify_effects.proofs.asked_areas.follows_row.Goals as goal

pub loop-k-init : goal.loop-k-init
loop-k-init c = before_none (λ (j : ℕ) (e : Edge). IsFollowed c.args.asked.now c.args.m e) c.args.row.now

pub loop-k-preserved : goal.loop-k-preserved
loop-k-preserved c =
    before_more (λ (j : ℕ) (e : Edge). IsFollowed c.args.asked.now c.args.m e) c.args.row.now c.loop-k.k
    c.edge_at-edge.result c.edge_at-edge.ensures
    (c.follows_edge.ensures c.if-not-follows_edge.false) c.loop-k.invariant

pub returns-then-not-follows_edge : goal.returns-then-not-follows_edge
returns-then-not-follows_edge c = λ t. absurd (cc t)

pub returns : goal.returns
returns c = λ t e i.
    let m : c.loop-k.k ≡ length c.args.row.now = omega arith in
    before_all (λ (j : ℕ) (x : Edge). IsFollowed c.args.asked.now c.args.m x) c.args.row.now
    c.loop-k.k m c.loop-k.invariant i.0 e i.1
