use Rattle.std.proofs.Common.{ℕ, Option, ap, sym, ◌∙◌, subst}
use Rattle.sp_verify_areas.specs.LeastPlaces.{IsLeast, earlier_of}
use Rattle.sp_verify_rules.specs.Verdict.{BreaksV7}
use Rattle.sp_verify_effects.proofs.V7Passes.{keeps_all, v7_least}
use Rattle.sp_verify_effects.proofs.clash.first_clash.Goals as goal

pub called_inside-requires-clause-keeps : goal.called_inside-requires-clause-keeps
called_inside-requires-clause-keeps c = keeps_all c.args.g.now.code.now c.parts-parts.ensures.sizes
    c.requires.known.kept c.requires.v2 c.requires.v3 c.requires.v4 c.requires.v5

pub returns : goal.returns
returns c =
    let g = c.args.g.now in
    let code = g.code.now in
    let known = c.requires.known in
    let keeps = keeps_all code c.parts-parts.ensures.sizes known.kept c.requires.v2 c.requires.v3 c.requires.v4
    c.requires.v5 in
    let both = c.least-2.ensures ∙ ap (λ (o : Option ℕ). earlier_of o c.args.effects.now.asked.known.clash)
    c.least.ensures in
    subst (IsLeast (BreaksV7 code)) (sym both)
    (v7_least code keeps known.kept c.args.effects.now c.requires.effects g.blocks.now.first known.blocks g.shapes.now
    known.shapes c.in-Ok.value c.in-Ok.ensures c.in-Ok-first_call.value c.first_turn-turn.result
    c.in-Ok-first_call.ensures c.first_turn-turn.ensures)
