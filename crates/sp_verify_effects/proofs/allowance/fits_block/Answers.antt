use Rattle.std.proofs.Common.{[], ap, sym, ◌∙◌}
use Rattle.sp_verify_effects.specs.Sets.{with_all}
use Rattle.sp_verify_effects.proofs.Allowing.{fits_variables}
use Rattle.sp_verify_effects.proofs.allowance.fits_block.Goals as goal

pub returns : goal.returns
returns c = λ t.
    let b = c.add_all.new.set in
    fits_variables c.args.allowance.now c.args.l.now b
    (c.in-Ok.ensures.keys ∙ ap (λ ks. with_all ks c.items.result.now) c.new-own.ensures.empty
    ∙ ap (with_all []) c.items.ensures)
    c.if-allowance.false
    (sym c.allows.ensures ∙ c.if-allows.false)
    (c.is_subset.ensures.0 c.if-not-is_subset.false) (c.is_subset-2.ensures.0 t)
