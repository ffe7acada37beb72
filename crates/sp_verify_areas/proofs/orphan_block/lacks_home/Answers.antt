use Rattle.std.proofs.Common.{ap, sym, ◌∙◌}
use Rattle.sp_verify_areas.specs.Blocks.{number_from}
use Rattle.sp_verify_areas.specs.OrphanBlock.{is_place}
use Rattle.sp_verify_areas.proofs.OrphanLayouts.{lacks_elsewhere, lacks_none, lacks_not, lacks_twice}
use Rattle.sp_verify_areas.proofs.orphan_block.lacks_home.Goals as goal

pub returns-then-not-is_first : goal.returns-then-not-is_first
returns-then-not-is_first c = λ ls l n e b are led.
    lacks_elsewhere ls c.args.item l e (ap (λ i. is_place (number_from 0 ls i) c.args.item) b
    ∙ sym (c.is_first.ensures ls n) ∙ c.if-not-is_first.true)

pub returns-then-flag_at : goal.returns-then-flag_at
returns-then-flag_at c = λ ls l n e b are led. lacks_twice ls c.args.item l e c.args.flags.now are
    (sym c.flag_at.ensures ∙ c.if-flag_at.true)

pub returns-in-None : goal.returns-in-None
returns-in-None c = λ ls l n e b are led.
    lacks_none ls c.args.item l e c.args.flags.now c.args.grown.now
    (ap (λ i. is_place (number_from 0 ls i) c.args.item) b ∙ sym (c.is_first.ensures ls n)
    ∙ c.if-not-is_first.false)
    are (sym c.flag_at.ensures ∙ c.if-flag_at.false) led (sym c.node_at.ensures ∙ c.in-None.is)

pub returns-in-Some : goal.returns-in-Some
returns-in-Some c = λ ls l n e b are led.
    lacks_not ls c.args.item l e c.args.flags.now c.args.grown.now _
    (ap (λ i. is_place (number_from 0 ls i) c.args.item) b ∙ sym (c.is_first.ensures ls n)
    ∙ c.if-not-is_first.false)
    are (sym c.flag_at.ensures ∙ c.if-flag_at.false) led (sym c.node_at.ensures ∙ c.in-Some.is)
