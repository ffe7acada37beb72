use Rattle.std.proofs.Common.{◌≡◌, ◌+◌, length, refl, sym, subst, arith, rules}
use Rattle.std.proofs.lemmas.Option.{slice_get_read}
use Rattle.sp_verify_areas.specs.LeastPlaces.{IsLeast, Upto}
use Rattle.sp_verify_areas.proofs.Leasts.{more}
use Rattle.sp_verify_effects.specs.ChildEffects.{TableFails}
use Rattle.sp_verify_effects.proofs.TestFailures.{one_table}
use Rattle.sp_verify_effects.proofs.child_effects.first_in.Goals as goal

pub loop-table-preserved : goal.loop-table-preserved
loop-table-preserved c =
    let fs = c.args.tables.now in
    let R = TableFails c.args.effects.now fs in
    let k = c.loop-table.table-index in
    let t = c.table-item.result in
    let e = slice_get_read fs (length fs) k t refl c.loop-table-test.true c.table-item.is in
    let one = one_table c.args.effects.now fs k t c.in-Ok.value e (search rules) in
    subst (IsLeast (Upto R (k + 1))) (sym c.least-first.ensures)
    (more R k c.loop-table.first c.in-Ok.value c.loop-table.invariant one)

pub returns : goal.returns
returns c =
    let e : c.loop-table.table-index ≡ length c.args.tables.now = omega arith in
    subst (λ n. IsLeast (Upto (TableFails c.args.effects.now c.args.tables.now) n) c.loop-table.first) e
    c.loop-table.invariant
