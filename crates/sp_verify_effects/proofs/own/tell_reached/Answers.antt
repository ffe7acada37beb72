use Rattle.std.proofs.Common.{sym, ◌∙◌}
use Rattle.sp_base.proofs.Facts.{on_map as ok_on}
use Rattle.sp_verify_rules.specs.Areas.{Area}
use Rattle.sp_verify_areas.specs.Only.{LiesOnlyIn}
use Rattle.sp_verify_shapes.specs.Stacks.{list_of}
use Rattle.sp_verify_effects.specs.Own.{IsOf, DoesBy, ReachedAt, TellsAsked}
use Rattle.sp_verify_effects.proofs.Owns.{not_reached, reached_told}
use Rattle.sp_verify_effects.proofs.own.tell_reached.Goals as goal

pub returns-in-None : goal.returns-in-None
returns-in-None c = not_reached c.args.asked.now c.args.g.now.code.now c.args.p c.args.g.now.shapes.now
    c.requires.known.shapes c.args.facts.now
    (sym c.reached.ensures ∙ c.in-None.is)

pub returns : goal.returns
returns c =
    let q = c.args.asked.now in
    let code = c.args.g.now.code.now in
    let p = c.args.p in
    let n = c.args.area in
    let s = c.in-Some.stack in
    let a = c.requires.lies.0 in
    let f = c.args.facts.now in
    let g = c.tell_shaped.new.facts in
    let ss = list_of c.args.g.now.shapes.now.stacks s in
    ok_on c.tell_shaped.result ((b : Area) → LiesOnlyIn code p b
    → TellsAsked q f g (IsOf n (DoesBy code b p ss))) (TellsAsked q f g (ReachedAt code p))
    (λ v. reached_told q code p c.args.g.now.shapes.now c.requires.known.shapes f g n s a (sym c.reached.ensures
    ∙ c.in-Some.is) c.requires.lies.1 c.requires.lies.2 (v a c.requires.lies.1))
    c.tell_shaped.ensures
