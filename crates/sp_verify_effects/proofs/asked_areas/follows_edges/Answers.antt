use Rattle.std.proofs.Common.{◌≡◌, ℕ, List, length, refl, subst, arith}
use Rattle.std.proofs.lemmas.Option.{slice_get_read}
use Rattle.sp_verify_effects.specs.declared.edges.Edge.{Edge}
use Rattle.sp_verify_effects.specs.FactClosure.{FollowsRow}
use Rattle.sp_verify_effects.proofs.AreaQueries.{before_none, before_more, before_all}
use Rattle.sp_verify_effects.proofs.asked_areas.follows_edges.Goals as goal

pub loop-m-init : goal.loop-m-init
loop-m-init c = before_none (λ (m : ℕ) (r : List Edge). FollowsRow c.args.asked.now m r) c.args.rows.now

pub loop-m-preserved : goal.loop-m-preserved
loop-m-preserved c =
    let rs = c.args.rows.now in
    let k = c.loop-m.m in
    let r = c.index-rows-m.result in
    let e = slice_get_read rs (length rs) k r refl c.loop-m-test.true c.index-rows-m.is in
    before_more (λ (m : ℕ) (r : List Edge). FollowsRow c.args.asked.now m r) rs k r e
    (subst (λ (z : List Edge). FollowsRow c.args.asked.now k z) c.items.ensures
    (c.follows_row.ensures c.if-not-follows_row.false)) c.loop-m.invariant

pub returns-then-not-follows_row : goal.returns-then-not-follows_row
returns-then-not-follows_row c = λ t. absurd (cc t)

pub returns : goal.returns
returns c = λ t m e h.
    let s : c.loop-m.m ≡ length c.args.rows.now = omega arith in
    before_all (λ (m : ℕ) (r : List Edge). FollowsRow c.args.asked.now m r) c.args.rows.now c.loop-m.m s
    c.loop-m.invariant m h.0 h.1 e h.2
