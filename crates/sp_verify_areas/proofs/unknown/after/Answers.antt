use Rattle.std.proofs.Common.{subst}
use Rattle.sp_verify_areas.specs.declared.owners.Owner.TheVariants as owner
use Rattle.sp_verify_areas.specs.Owners.{IsOnly, Owns}
use Rattle.sp_verify_areas.proofs.KnownVariables.{after_none, never_nobody, never_several}
use Rattle.sp_verify_areas.proofs.unknown.after.Goals as goal

pub returns-in-Nobody : goal.returns-in-Nobody
returns-in-Nobody c =
    let code = c.args.code.now in
    after_none code c.args.q c.args.before
    (λ p. never_nobody code c.args.q p
    (subst (Owns code c.args.q) c.in-Nobody.is c.requires.owner)) c.requires.before

pub returns-in-Several : goal.returns-in-Several
returns-in-Several c =
    let code = c.args.code.now in
    after_none code c.args.q c.args.before
    (λ p. never_several code c.args.q p
    (subst (Owns code c.args.q) c.in-Several.is c.requires.owner)) c.requires.before

pub after_one-requires-clause-one : goal.after_one-requires-clause-one
after_one-requires-clause-one c =
    let h : IsOnly c.args.code.now c.args.q (owner.Block c.in-Block.field-0) = subst
    (Owns c.args.code.now c.args.q) c.in-Block.is c.requires.owner in
    (h.area, (h.lies, h.only))

pub after_one-requires-in-Child-clause-one : goal.after_one-requires-in-Child-clause-one
after_one-requires-in-Child-clause-one c =
    let h : IsOnly c.args.code.now c.args.q (owner.Child c.in-Child.at c.in-Child.child) = subst
    (Owns c.args.code.now c.args.q) c.in-Child.is c.requires.owner in
    (h.area, (h.lies, h.only))
