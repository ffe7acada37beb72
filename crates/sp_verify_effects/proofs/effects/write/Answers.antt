use Rattle.std.proofs.Common.{ap, sym, ◌∙◌, subst, List, false}
use Rattle.std.specs.Prelude.{slice_set}
use Rattle.sp_verify_effects.specs.declared.effects.EffectRow.{EffectRow}
use Rattle.sp_verify_effects.specs.Effects.{WritesFact}
use Rattle.sp_verify_effects.proofs.Rows.{writes_one}
use Rattle.sp_verify_effects.proofs.effects.write.Goals as goal

pub returns : goal.returns
returns c =
    let rows = c.args.rows.now in
    let f = c.args.fact in
    subst (λ (x : List EffectRow). WritesFact rows x f)
    (sym (c.replace-none.ensures.list
    ∙ ap (λ (x : List EffectRow). slice_set x f.area c.put.new.row) c.replace-row.ensures.list))
    (writes_one rows f c.replace-row.result c.put.new.row
    (record {
      stored = c.new.result;
      loaded = c.new-2.result;
      stops = false;
    }) c.replace-row.ensures.replaced c.in-Ok.ensures)
