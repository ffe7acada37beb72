use Rattle.std.proofs.Common.{◌∷◌, [], ◌+◌, ◌∙◌, refl, ap, sym, subst, length, List, ℕ, false}
use Rattle.std.proofs.lemmas.List.{length-append}
use Rattle.sp_verify_effects.specs.declared.effects.EffectRow.{EffectRow}
use Rattle.sp_verify_effects.specs.declared.facts.Effect.{Effect}
use Rattle.sp_verify_effects.specs.Effects.{RowsHave}
use Rattle.sp_verify_effects.proofs.Rows.{effect_rows_more}
use Rattle.sp_verify_effects.proofs.effects.empty_rows.Goals as goal

pub loop-m-preserved : goal.loop-m-preserved
loop-m-preserved c =
    let rows = c.loop-m.rows in
    let e = c.in_ok-push.ensures.ok in (
      ap length e ∙ length-append rows
          (record { stored = c.new.result; loaded = c.new-in-loop-m.result; stops = false } ∷ [])
          ∙ ap (λ n. n + 1) c.loop-m.invariant.0,
      subst (λ (x : List EffectRow). (m : ℕ) (d : Effect) → RowsHave x m d → ⊥) (sym e)
          (effect_rows_more rows (record {
            stored = c.new.result;
            loaded = c.new-in-loop-m.result;
            stops = false;
          }) c.new.ensures c.new-in-loop-m.ensures refl c.loop-m.invariant.1),
    )
