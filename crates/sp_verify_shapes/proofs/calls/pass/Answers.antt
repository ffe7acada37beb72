use Rattle.std.proofs.Common.{arith, get_or, ◌-◌, sym, ◌∙◌}
use Rattle.std.proofs.lemmas.Option.{slice_get-get_or}
use Rattle.sp_code.specs.declared.code.Formal.TheVariants as formal
use Rattle.sp_verify_shapes.specs.Stacks.{shape_of}
use Rattle.sp_verify_shapes.proofs.Formals.{passes_jump, passes_one, fits_not}
use Rattle.sp_verify_shapes.proofs.calls.pass.Goals as goal

pub returns-then-covers_all : goal.returns-then-covers_all
returns-then-covers_all c =
    passes_jump c.args.stacks.now c.args.formals.now c.args.count c.args.n c.jump_of-jump.result c.in-Some.fits
    c.requires.within c.jump_of-jump.ensures c.if-far-gt0.true c.if-far-count.true c.in-Some.is
    (c.covers_all.ensures c.if-covers_all.true)

pub returns-then-fits_formal : goal.returns-then-fits_formal
returns-then-fits_formal c =
    let fs = c.args.formals.now in
    let d = formal.Value 0 in
    let some = c.requires.some in
    let within = c.requires.within in
    passes_one c.args.stacks.now fs c.args.count c.args.n c.in-Some-top.below (get_or fs (c.args.count - 1) d)
    (shape_of c.in-Some-top.shape) some (slice_get-get_or fs (c.args.count - 1) d (omega (arith, some, within)))
    c.in-Some-top.ensures.0 c.in-Some-top.ensures.1 (sym c.fits_formal.ensures ∙ c.if-fits_formal.true)

pub returns-else-fits_formal : goal.returns-else-fits_formal
returns-else-fits_formal c =
    let fs = c.args.formals.now in
    let d = formal.Value 0 in
    let some = c.requires.some in
    let within = c.requires.within in
    fits_not c.args.stacks.now fs c.args.count c.args.n c.in-Some-top.below (get_or fs (c.args.count - 1) d)
    (shape_of c.in-Some-top.shape) some (slice_get-get_or fs (c.args.count - 1) d (omega (arith, some, within)))
    c.in-Some-top.ensures.0 (sym c.fits_formal.ensures ∙ c.if-fits_formal.false)
