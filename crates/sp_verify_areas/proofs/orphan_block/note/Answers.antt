use Rattle.std.proofs.Common.{ap, sym, ◌∙◌}
use Rattle.sp_verify_areas.specs.Blocks.{number_from}
use Rattle.sp_verify_areas.specs.OrphanBlock.{is_place}
use Rattle.sp_verify_areas.proofs.OrphanLayouts.{note_first, note_other}
use Rattle.sp_verify_areas.proofs.BlockNodes.{place_there}
use Rattle.sp_verify_areas.proofs.orphan_block.note.Goals as goal

pub returns-then-is_first : goal.returns-then-is_first
returns-then-is_first c = λ ls l n e b are.
    note_first ls c.args.item l e c.args.flags.now (ap (λ i. is_place (number_from 0 ls i) c.args.item) b
    ∙ sym (c.is_first.ensures ls n) ∙ c.if-is_first.true) are

pub returns-in-None : goal.returns-in-None
returns-in-None c = λ ls l n e b are.
    absurd (place_there ls c.args.item l e (ap (number_from 0 ls) b ∙ sym (n c.args.block) ∙ sym c.place.ensures
    ∙ c.in-None.is))

pub returns-in-Some : goal.returns-in-Some
returns-in-Some c = λ ls l n e b are.
    note_other ls c.args.item l e c.args.flags.now c.mark.new.flags c.in-Some.place
    (ap (λ i. is_place (number_from 0 ls i) c.args.item) b ∙ sym (c.is_first.ensures ls n) ∙ c.if-is_first.false)
    (ap (number_from 0 ls) b ∙ sym (n c.args.block) ∙ sym c.place.ensures ∙ c.in-Some.is) are c.mark.ensures
