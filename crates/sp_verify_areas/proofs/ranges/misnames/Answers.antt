use Rattle.std.proofs.Common.{ap, sym, ◌∙◌, subst}
use Rattle.sp_verify_areas.specs.declared.owners.Owner.TheVariants as owner
use Rattle.sp_verify_areas.specs.WrongNames.{fits}
use Rattle.sp_verify_areas.specs.Owners.{Owns}
use Rattle.sp_verify_areas.proofs.WrongNames.{decides_nobody, decides_one, decides_several}
use Rattle.sp_verify_areas.proofs.ranges.misnames.Goals as goal

pub returns-in-Nobody : goal.returns-in-Nobody
returns-in-Nobody c = decides_nobody c.args.code.now c.args.p
    (subst (Owns c.args.code.now c.args.p) c.in-Nobody.is c.requires.owner)

pub returns-in-Block : goal.returns-in-Block
returns-in-Block c =
    let code = c.args.code.now in
    let o = owner.Block c.in-Block.field-0 in
    decides_one code c.args.p c.fits.result o (subst (Owns code c.args.p) c.in-Block.is c.requires.owner)
    (λ a l. c.fits.ensures a l ∙ ap (fits code a) (sym c.requires.instr))

pub returns-in-Child : goal.returns-in-Child
returns-in-Child c =
    let code = c.args.code.now in
    let o = owner.Child c.in-Child.at c.in-Child.child in
    decides_one code c.args.p c.fits-in-Child.result o (subst (Owns code c.args.p) c.in-Child.is c.requires.owner)
    (λ a l. c.fits-in-Child.ensures a l ∙ ap (fits code a) (sym c.requires.instr))

pub returns-in-Several : goal.returns-in-Several
returns-in-Several c = decides_several c.args.code.now c.args.p
    (subst (Owns c.args.code.now c.args.p) c.in-Several.is c.requires.owner)
