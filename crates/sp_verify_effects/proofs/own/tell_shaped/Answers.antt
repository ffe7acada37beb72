use Rattle.std.proofs.Common.{List, ℕ, ◌∙◌, subst}
use Rattle.std.specs.Prelude.{Some, true, false}
use Rattle.sp_base.proofs.Facts.{on_map as ok_on}
use Rattle.sp_verify_rules.specs.Areas.{Area}
use Rattle.sp_verify_areas.specs.Only.{LiesOnlyIn}
use Rattle.sp_verify_shapes.specs.Stacks.{list_of}
use Rattle.sp_verify_effects.specs.Own.{IsEffectAmong, IsOf, IsStop, DoesBy, TellsAsked, variables_at}
use Rattle.sp_verify_effects.proofs.Owns.{shaped_told}
use Rattle.sp_verify_effects.proofs.own.tell_shaped.Goals as goal

pub returns : goal.returns
returns c =
    let q = c.args.asked.now in
    let code = c.args.g.now.code.now in
    let ss = list_of c.args.g.now.shapes.now.stacks c.args.stack in
    let n = c.args.area in
    let o = c.args.instr in
    let p = c.args.p in
    let f = c.args.facts.now in
    let g = c.tell.new.facts in
    let h = c.tell-2.new.facts in
    let k = c.tell_stop.new.facts in
    ok_on c.tell_stop.result (TellsAsked q h k (IsOf n (IsStop (Some o)))) ((a : Area) → LiesOnlyIn code p a
    → TellsAsked q f k (IsOf n (DoesBy code a p ss)))
    (λ v a only. shaped_told q code a p ss f g h k n o
    (variables_at code a c.stored_place.result ss) (variables_at code a c.loaded_place.result ss)
    c.requires.instr (c.stored_place.ensures code a ss) (c.loaded_place.ensures code a ss)
    (subst (λ (xs : List ℕ). TellsAsked q f g (IsOf n (IsEffectAmong true xs))) (c.items.ensures
    ∙ c.in-Ok.ensures a only) c.in-Ok-tell.ensures)
    (subst (λ (xs : List ℕ). TellsAsked q g h (IsOf n (IsEffectAmong false xs))) (c.items-2.ensures
    ∙ c.in-Ok-variables_at.ensures a only) c.in-Ok-tell-2.ensures) v)
    c.tell_stop.ensures
