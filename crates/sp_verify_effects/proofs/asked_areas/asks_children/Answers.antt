use Rattle.std.proofs.Common.{◌≡◌, ℕ, length, refl, arith}
use Rattle.std.proofs.lemmas.Option.{slice_get_read}
use Rattle.sp_code.specs.declared.code.ChildTable.{ChildTable}
use Rattle.sp_verify_effects.specs.AskedAreas.{AsksBelow}
use Rattle.sp_verify_effects.proofs.AreaQueries.{before_none, before_more, before_all}
use Rattle.sp_verify_effects.proofs.asked_areas.asks_children.Goals as goal

pub loop-child-init : goal.loop-child-init
loop-child-init c = before_none (λ (j : ℕ) (t : ChildTable). AsksBelow c.args.bound c.args.asked.now t)
    c.args.children.now

pub loop-child-preserved : goal.loop-child-preserved
loop-child-preserved c =
    let ts = c.args.children.now in
    let k = c.loop-child.child-index in
    let t = c.child-item.result in
    let e = slice_get_read ts (length ts) k t refl c.loop-child-test.true c.child-item.is in
    before_more (λ (j : ℕ) (t : ChildTable). AsksBelow c.args.bound c.args.asked.now t) ts k t e
    (c.in-Ok.ensures c.if-not-asks.false) c.loop-child.invariant

pub returns-then-not-asks : goal.returns-then-not-asks
returns-then-not-asks c = λ t. absurd (cc t)

pub returns : goal.returns
returns c = λ t.
    let e : c.loop-child.child-index ≡ length c.args.children.now = omega arith in
    before_all (λ (j : ℕ) (t : ChildTable). AsksBelow c.args.bound c.args.asked.now t) c.args.children.now
    c.loop-child.child-index e c.loop-child.invariant
