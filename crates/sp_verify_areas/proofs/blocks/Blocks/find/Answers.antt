use Rattle.std.proofs.Common.{sym, ◌∙◌}
use Rattle.sp_verify_areas.proofs.BlockLaws.{place_none, place_some}
use Rattle.sp_verify_areas.proofs.blocks.Blocks.find.Goals as goal

pub returns-in-None : goal.returns-in-None
returns-in-None c = sym (place_none 0 c.args.layouts.now c.args.block (sym (c.requires c.args.block)
    ∙ sym c.place.ensures ∙ c.in-None.is))

pub returns-in-Some : goal.returns-in-Some
returns-in-Some c = c.get.ensures
    ∙ place_some c.args.layouts.now c.args.block c.in-Some.place (sym (c.requires c.args.block) ∙ sym c.place.ensures
    ∙ c.in-Some.is)
