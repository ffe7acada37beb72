use Rattle.std.proofs.Common.{ap, sym, ◌∙◌}
use Rattle.sp_verify_effects.specs.AskedAreas.{is_marked}
use Rattle.sp_verify_effects.proofs.AreaQueries.{followed_edge, not_marked_edge}
use Rattle.sp_verify_effects.proofs.asked_areas.follows_edge.Goals as goal

pub returns-then-not-has : goal.returns-then-not-has
returns-then-not-has c = λ t.
    not_marked_edge c.args.asked.now c.args.m c.args.edge
    (ap (is_marked c.args.asked.now) (sym c.target.ensures) ∙ (sym c.has.ensures ∙ c.if-not-has.true))

pub returns-then-has : goal.returns-then-has
returns-then-has c = λ t.
    followed_edge c.args.asked.now c.args.m c.args.edge (sym c.has-2.ensures ∙ c.if-has.true) (c.may_pass.ensures t)

pub returns-else-has : goal.returns-else-has
returns-else-has c = λ t. absurd (cc t)
