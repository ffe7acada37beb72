use Rattle.std.proofs.Common.{◌∙◌, refl}
use Rattle.std.proofs.lemmas.Result.{err_from_is_err_and}
use Rattle.sp_words.specs.declared.command.Command.TheVariants.{Gen}
use Rattle.superpascal.specs.Steps.{AnswersCommand}
use Rattle.superpascal.specs.declared.ending.Ending.TheVariants.{OutOfMemory}
use Rattle.superpascal.proofs.Parts.{at_exit, generated_told, generated_unready, generated_wanting}
use Rattle.superpascal.proofs.runs.run_generated.Goals as goal

pub run_prepared-requires-clause-code : goal.run_prepared-requires-clause-code
run_prepared-requires-clause-code g c κs within =
    (c.as_slice.result.now, c.in_ok-code.ensures.0, c.in_ok-code.ensures.1)

pub returns-in-Err : goal.returns-in-Err
returns-in-Err g c = λ f s made u. generated_wanting f s made c.args.size c.args.workers u OutOfMemory refl

pub returns-in_err-code : goal.returns-in_err-code
returns-in_err-code g c = λ f s made u.
    at_exit (AnswersCommand f s made (Gen c.args.size c.args.workers)) c.from_residual.result _
    (err_from_is_err_and c.from_residual.result c.from_residual.ensures.1)
    (generated_unready f s made c.args.size c.args.workers u c.as_slice.result.now
    (c.as_slice.ensures.value ∙ c.in-Ok.ensures) _ c.in_err-code.ensures)

pub returns-in-Err-run_prepared : goal.returns-in-Err-run_prepared
returns-in-Err-run_prepared g c = λ f s made u.
    generated_wanting f s made c.args.size c.args.workers u OutOfMemory refl

pub returns : goal.returns
returns g c = λ f s made u.
    generated_told f s made c.args.size c.args.workers u c.as_slice.result.now c.of-input.result
    c.default_limits.result c.in-Ok-run_prepared.value (c.as_slice.ensures.value ∙ c.in-Ok.ensures)
    (c.of-input.ensures ∙ c.new.ensures.items) c.default_limits.ensures
    (c.in-Ok-run_prepared.ensures.run c.as_slice.result.now c.in_ok-code.ensures.0 c.in_ok-code.ensures.1)
    c.tell_generated.result c.tell_generated.ensures
