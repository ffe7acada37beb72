use Rattle.std.proofs.Common.{◌≡◌, ◌||◌, ap, sym, ◌∙◌, subst, List}
use Rattle.std.specs.Prelude.{slice_set}
use Rattle.sp_verify_effects.specs.declared.facts.Fact.{Fact}
use Rattle.sp_verify_effects.specs.declared.facts.Sets.{Sets}
use Rattle.sp_verify_effects.specs.Facts.{sets_have, same_fact}
use Rattle.sp_verify_effects.proofs.FactSets.{noted_put}
use Rattle.sp_verify_effects.proofs.facts.put_at.Goals as goal

pub returns : goal.returns
returns c =
    let old = c.args.areas.now in
    let g = c.args.fact in
    subst (λ (x : List Sets). (f : Fact) → sets_have x f.area f.effect
    ≡ (same_fact f g || sets_have old f.area f.effect))
    (sym (c.replace-none.ensures.list
    ∙ ap (λ (x : List Sets). slice_set x g.area c.put_effect.new.sets) c.replace-sets.ensures.list))
    (noted_put old c.no_sets-none.result c.replace-sets.result c.put_effect.new.sets g c.replace-sets.ensures.replaced
    c.in-Ok.ensures)
