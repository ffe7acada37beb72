use Rattle.std.proofs.Common.{◌+◌, length, arith, refl, sym, subst}
use Rattle.std.proofs.lemmas.Bool.{or_parts}
use Rattle.std.proofs.lemmas.Option.{slice_get_read}
use Rattle.sp_varsets.specs.Totals.{AreRowEntries}
use Rattle.sp_varsets.proofs.AddedSets.{went_well}
use Rattle.sp_varsets.proofs.CallSets.{row_entries_more}
use Rattle.sp_varsets.proofs.totals.row_entries.Goals as goal

pub rows-preserved : goal.rows-preserved
rows-preserved c k =
    let one = c.put_row.new.self.pool in
    let new = c.put_row-in-rows.new.self.pool in
    let (k2, well) = or_parts c.put_row-in-rows.new.self.is_lost c.is_err.result k in
    let k1 = c.put_row-in-rows.ensures.kept k2 in
    let (kept, entries) = c.rows.invariant (c.put_row.ensures.kept k1) in
    let inside = c.rows-test.true in
    let same = c.requires in
    let et = slice_get_read c.args.targets.now (length c.args.targets.now) c.rows.b c.index-targets-b.result refl
    (omega arith) c.index-targets-b.is in
    let es = slice_get_read c.args.seen.now (length c.args.seen.now) c.rows.b c.index-seen-b.result refl (omega arith)
    c.index-seen-b.is in (
      kept,
      subst (λ z. AreRowEntries c.args.walk.now.pool new c.args.targets.now c.args.seen.now z (c.rows.b + 1))
          (sym (went_well c.push.result c.is_err.result c.push.ensures.ok c.is_err.ensures.value well))
          (row_entries_more c.args.walk.now.pool c.rows.walk.pool one new
          c.args.targets.now c.args.seen.now c.rows.entries c.rows.b c.put_row.result c.put_row-in-rows.result
          c.index-targets-b.result c.index-seen-b.result
          entries et es (c.put_row.ensures.pool k1) (c.put_row.ensures.set k1) (c.put_row-in-rows.ensures.pool k2)
          (c.put_row-in-rows.ensures.set k2)),
    )
