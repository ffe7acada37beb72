use Rattle.sp_verify_effects.proofs.Inward.{flagged, not_flagged}
use Rattle.sp_verify_effects.proofs.inside.note.Goals as goal

pub returns-in-Some : goal.returns-in-Some
returns-in-Some c =
    flagged c.args.g.now.code.now c.requires.keeps c.args.g.now.blocks.now.first c.args.g.now.shapes.now
    c.requires.known.shapes c.args.p
    c.place_at.result c.place_at.ensures.come c.place_at.ensures.none
    c.args.flags.now c.mark.new.flags c.in-Some.place c.in-Some.is c.mark.ensures c.requires.flags

pub returns-in-None : goal.returns-in-None
returns-in-None c =
    not_flagged c.args.g.now.code.now c.requires.keeps c.args.g.now.blocks.now.first c.args.g.now.shapes.now
    c.requires.known.shapes c.args.p
    c.place_at.result c.place_at.ensures.come c.place_at.ensures.none
    c.args.flags.now c.in-None.is c.requires.flags
