use Rattle.std.proofs.Common.{sym}
use Rattle.sp_verify_effects.proofs.OneArea.{area_found, owner_there}
use Rattle.sp_verify_effects.proofs.areas.area_at.Goals as goal

pub returns-in-None : goal.returns-in-None
returns-in-None c = absurd (owner_there c.args.g.now.code.now c.args.g.now.owners.now c.args.p
    c.requires.known.owners c.requires.there
    (sym c.in-None.ensures))

pub returns-in-Some : goal.returns-in-Some
returns-in-Some c =
    area_found c.args.g.now.code.now c.args.p c.in-Some.owner.now c.entry_of.result c.requires.known.kept
    (c.requires.known.owners.1 c.args.p c.in-Some.owner.now (sym c.in-Some.ensures)) c.entry_of.ensures
