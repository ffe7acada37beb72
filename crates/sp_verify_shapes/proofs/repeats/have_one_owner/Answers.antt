use Rattle.std.proofs.Common.{◌∙◌, ap, sym}
use Rattle.std.specs.Prelude.{Some}
use Rattle.sp_verify_areas.proofs.OwnerLaws.{same_is}
use Rattle.sp_verify_shapes.proofs.repeats.have_one_owner.Goals as goal

pub returns-in-Some-get : goal.returns-in-Some-get
returns-in-Some-get c = λ e. sym c.in-Some.ensures
    ∙ ap Some (same_is c.in-Some.o.now c.in-Some-get.w.now (sym c.is_same.ensures ∙ e)) ∙ c.in-Some-get.ensures
