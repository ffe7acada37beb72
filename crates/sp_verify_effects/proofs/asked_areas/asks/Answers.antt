use Rattle.std.proofs.Common.{ap, ◌∙◌, subst, List, None}
use Rattle.sp_code.specs.declared.code.ForkTable.{ForkTable}
use Rattle.sp_code.specs.declared.code.Layout.{Layout}
use Rattle.sp_code.specs.declared.code.Parts.{Parts}
use Rattle.sp_verify_effects.specs.AskedAreas.{AsksLayouts, AsksTables}
use Rattle.sp_verify_effects.proofs.asked_areas.asks.Goals as goal

pub returns-then-calls : goal.returns-then-calls
returns-then-calls c = λ t.
    let k = c.args.asked.now in
    let same = c.parts-parts.ensures.same in
    record {
      tables = subst (λ (fs : List ForkTable). AsksTables None k fs)
          (c.items.ensures ∙ ap (λ (z : Parts). z.forks) same) (c.in-Ok.ensures c.if-tables.true);
      layouts = subst (λ (ls : List Layout). AsksLayouts k ls)
          (c.items-then-tables.ensures ∙ ap (λ (z : Parts). z.layouts) same)
          (c.in-Ok-asks_layouts.ensures c.if-layouts.true);
      calls = c.in-Ok-asks_calls.ensures c.if-calls.true;
      inside = c.asks_inside.ensures t;
      known = c.requires.broken;
    }
