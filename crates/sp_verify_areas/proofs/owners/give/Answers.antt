use Rattle.std.proofs.Common.{ap, sym, ◌∙◌, subst, List, true}
use Rattle.std.specs.Prelude.{slice_set}
use Rattle.std.proofs.lemmas.Option.{slice_get_within}
use Rattle.sp_verify_areas.specs.declared.owners.Owner.{Owner}
use Rattle.sp_verify_areas.specs.Owners.{HandsOwner, is_same}
use Rattle.sp_verify_areas.proofs.OwnerSteps.{gives_old, gives_new}
use Rattle.sp_verify_areas.proofs.owners.give.Goals as goal

pub returns-then-is_same : goal.returns-then-is_same
returns-then-is_same c =
    let w = c.in-Some.w.now in
    gives_old c.args.owners.now c.args.x c.args.o w (sym c.in-Some.ensures) (ap (is_same w) (sym c.join-both.ensures)
    ∙ sym c.is_same.ensures ∙ c.if-is_same.true)

pub replace-old-requires : goal.replace-old-requires
replace-old-requires c = slice_get_within c.args.owners.now c.args.x c.in-Some.w.now (sym c.in-Some.ensures)

pub returns : goal.returns
returns c =
    let w = c.in-Some.w.now in
    subst (λ (os : List Owner). HandsOwner c.args.owners.now os c.args.x c.args.o true) (sym (c.replace-old.ensures.list
    ∙ ap (slice_set c.args.owners.now c.args.x) c.join-both.ensures))
    (gives_new c.args.owners.now c.args.x c.args.o w (sym c.in-Some.ensures) (ap (is_same w) (sym c.join-both.ensures)
    ∙ sym c.is_same.ensures ∙ c.if-is_same.false))
