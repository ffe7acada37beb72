use Rattle.std.proofs.Common.{◌≡◌, ℕ, List, length, refl, subst, arith}
use Rattle.std.proofs.lemmas.Option.{slice_get_read}
use Rattle.sp_code.specs.declared.code.ChildTable.{ChildTable}
use Rattle.sp_code.specs.declared.code.ForkTable.{ForkTable}
use Rattle.sp_verify_effects.specs.AskedAreas.{AsksChildren}
use Rattle.sp_verify_effects.proofs.AreaQueries.{before_none, before_more, before_all}
use Rattle.sp_verify_effects.proofs.asked_areas.asks_tables.Goals as goal

pub loop-table-init : goal.loop-table-init
loop-table-init c = before_none (λ (j : ℕ) (t : ForkTable). AsksChildren c.args.bound c.args.asked.now t.children)
    c.args.tables.now

pub loop-table-preserved : goal.loop-table-preserved
loop-table-preserved c =
    let ts = c.args.tables.now in
    let k = c.loop-table.table-index in
    let t = c.table-item.result in
    let e = slice_get_read ts (length ts) k t refl c.loop-table-test.true c.table-item.is in
    before_more (λ (j : ℕ) (t : ForkTable). AsksChildren c.args.bound c.args.asked.now t.children) ts k t e
    (subst (λ (z : List ChildTable). AsksChildren c.args.bound c.args.asked.now z) c.items.ensures
    (c.in-Ok.ensures c.if-not-asks.false)) c.loop-table.invariant

pub returns-then-not-asks : goal.returns-then-not-asks
returns-then-not-asks c = λ t. absurd (cc t)

pub returns : goal.returns
returns c = λ t.
    let e : c.loop-table.table-index ≡ length c.args.tables.now = omega arith in
    before_all (λ (j : ℕ) (t : ForkTable). AsksChildren c.args.bound c.args.asked.now t.children) c.args.tables.now
    c.loop-table.table-index e c.loop-table.invariant
