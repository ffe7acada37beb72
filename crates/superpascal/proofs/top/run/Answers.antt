use Rattle.std.proofs.Common.{refl}
use Rattle.std.proofs.lemmas.Result.{err_from_is_err_and}
use Rattle.sp_words.specs.declared.command.Command.TheVariants as command
use Rattle.superpascal.specs.Steps.{AnswersCommand}
use Rattle.superpascal.specs.declared.ending.Ending.TheVariants.{OutOfMemory}
use Rattle.superpascal.proofs.Parts.{at_exit, run_told, run_unread, run_unready, run_wanting}
use Rattle.superpascal.proofs.top.run.Goals as goal

pub run_prepared-requires-clause-code : goal.run_prepared-requires-clause-code
run_prepared-requires-clause-code g c κs within =
    let (text, _, tree, has_code) = c.in_ok-code.ensures.prepared in
    (text, tree, has_code)

pub returns-in_err-code : goal.returns-in_err-code
returns-in_err-code g c =
    at_exit (AnswersCommand _ _ _ (command.Run c.args.asked.now)) c.from_residual.result _
    (err_from_is_err_and c.from_residual.result c.from_residual.ensures.1)
    (run_unready _ _ _ c.args.asked.now (refl, refl) _ c.in_err-code.ensures.prepared)

pub returns-in_err-input : goal.returns-in_err-input
returns-in_err-input g c =
    let (text, known, tree, has_code) = c.in_ok-code.ensures.prepared in
    let r = c.from_residual-in_err-input.result in
    at_exit (AnswersCommand _ _ _ (command.Run c.args.asked.now)) r _
    (err_from_is_err_and r c.from_residual-in_err-input.ensures.1)
    (run_unread _ _ _ c.args.asked.now text known tree c.in_ok-code.code has_code _ c.in_err-input.ensures)

pub returns-in-Err : goal.returns-in-Err
returns-in-Err g c =
    let (text, known, tree, has_code) = c.in_ok-code.ensures.prepared in
    run_wanting _ _ _ c.args.asked.now text known tree c.in_ok-code.code has_code OutOfMemory refl

pub returns : goal.returns
returns g c =
    let (text, known, tree, has_code) = c.in_ok-code.ensures.prepared in
    run_told _ _ _ c.args.asked.now text known tree c.in_ok-code.code has_code c.in_ok-input.input
    c.in_ok-input.ensures c.in-Ok.value (c.in-Ok.ensures.run text tree has_code) c.tell_run.result
    c.tell_run.ensures
