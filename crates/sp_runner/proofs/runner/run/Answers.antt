use Rattle.std.proofs.Common.{◌≡◌, ◌∙◌, ap, sym, false}
use Rattle.sp_code.specs.declared.code.Parts.{Parts}
use Rattle.sp_machine.specs.FirstFrames.{first_fits}
use Rattle.sp_runner.proofs.TooLarge.{one_fault}
use Rattle.sp_runner.proofs.runner.run.Goals as goal

pub returns : goal.returns
returns g c =
    let large : first_fits c.args.code.value c.args.limits.now ≡ false =
    ap (λ (p : Parts). first_fits p c.args.limits.now) (sym c.deref.ensures) ∙ sym c.first_fits.ensures
    ∙ c.if-first_fits.false in
    one_fault c.args.code.value c.args.input.value c.args.limits.now c.args.workers c.too_large.result
    c.requires.workers.0 large c.too_large.ensures.end c.too_large.ensures.journal c.too_large.ensures.output
