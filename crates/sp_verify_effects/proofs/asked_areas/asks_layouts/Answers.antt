use Rattle.std.proofs.Common.{◌≡◌, ℕ, length, refl, arith}
use Rattle.std.proofs.lemmas.Option.{slice_get_read}
use Rattle.sp_code.specs.declared.code.Layout.{Layout}
use Rattle.sp_verify_effects.specs.AskedAreas.{AsksLayout}
use Rattle.sp_verify_effects.proofs.AreaQueries.{before_none, before_more, before_all}
use Rattle.sp_verify_effects.proofs.asked_areas.asks_layouts.Goals as goal

pub loop-l-init : goal.loop-l-init
loop-l-init c = before_none (λ (j : ℕ) (l : Layout). AsksLayout c.args.asked.now l) c.args.layouts.now

pub loop-l-preserved : goal.loop-l-preserved
loop-l-preserved c =
    let ls = c.args.layouts.now in
    let k = c.loop-l.l-index in
    let l = c.l-item.result in
    let e = slice_get_read ls (length ls) k l refl c.loop-l-test.true c.l-item.is in
    before_more (λ (j : ℕ) (l : Layout). AsksLayout c.args.asked.now l) ls k l e
    (c.in-Ok.ensures c.if-not-asks.false) c.loop-l.invariant

pub returns-then-not-asks : goal.returns-then-not-asks
returns-then-not-asks c = λ t. absurd (cc t)

pub returns : goal.returns
returns c = λ t.
    let e : c.loop-l.l-index ≡ length c.args.layouts.now = omega arith in
    before_all (λ (j : ℕ) (l : Layout). AsksLayout c.args.asked.now l) c.args.layouts.now c.loop-l.l-index e
    c.loop-l.invariant
