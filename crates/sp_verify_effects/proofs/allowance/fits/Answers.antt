use Rattle.std.proofs.Common.{[], ap, ◌∙◌}
use Rattle.sp_verify_effects.specs.Sets.{with_all}
use Rattle.sp_verify_effects.proofs.Allowing.{fits_handed}
use Rattle.sp_verify_effects.proofs.allowance.fits.Goals as goal

pub returns : goal.returns
returns c = λ t.
    let m = c.add_all.new.set in
    let b = c.add_all-2.new.set in
    fits_handed c.args.allowance.now c.args.child.now m b
    (c.in-Ok.ensures.keys ∙ ap (λ ks. with_all ks c.items.result.now) c.new-handed.ensures.empty
    ∙ ap (with_all []) c.items.ensures)
    (c.in-Ok-add_all.ensures.keys ∙ ap (with_all m.keys) c.items-2.ensures) c.if-allowance.false
    (c.is_subset.ensures.0 c.if-not-is_subset.false) (c.is_subset-2.ensures.0 t)
