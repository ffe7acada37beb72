use Rattle.std.proofs.Common.{refl}
use Rattle.std.proofs.lemmas.Result.{err_from_is_err_and}
use Rattle.sp_words.specs.declared.command.Command.TheVariants as command
use Rattle.superpascal.specs.Steps.{AnswersCommand}
use Rattle.superpascal.specs.declared.ending.Ending.TheVariants.{OutOfMemory}
use Rattle.superpascal.proofs.ExecCauses.{execution_told, execution_unread, execution_unready, execution_wanting}
use Rattle.superpascal.proofs.Parts.{at_exit}
use Rattle.superpascal.proofs.Tellable.{execution_ends}
use Rattle.superpascal.proofs.executions.exec_file.Goals as goal

pub run_file-requires-clause-file : goal.run_file-requires-clause-file
run_file-requires-clause-file g c κs within = (c.in_ok-code.ensures.0, c.in_ok-code.ensures.2)

pub tell_execution-requires : goal.tell_execution-requires
tell_execution-requires g c =
    let h = c.in_ok-code.ensures in execution_ends _ _ _ c.in-Ok.value (c.in-Ok.ensures h.0 h.2)

pub returns-in_err-code : goal.returns-in_err-code
returns-in_err-code g c = λ reports.
    at_exit (AnswersCommand _ _ reports (command.Exec c.args.asked.now)) c.from_residual.result _
    (err_from_is_err_and c.from_residual.result c.from_residual.ensures.1)
    (execution_unready _ _ reports c.args.asked.now (refl, refl) _ c.in_err-code.ensures)

pub returns-in_err-input : goal.returns-in_err-input
returns-in_err-input g c = λ reports.
    let h = c.in_ok-code.ensures in
    let r = c.from_residual-in_err-input.result in
    at_exit (AnswersCommand _ _ reports (command.Exec c.args.asked.now)) r _
    (err_from_is_err_and r c.from_residual-in_err-input.ensures.1)
    (execution_unread _ _ reports c.args.asked.now h.0 h.1 c.in_ok-code.code h.2 _ c.in_err-input.ensures)

pub returns-in-Err : goal.returns-in-Err
returns-in-Err g c = λ reports.
    let h = c.in_ok-code.ensures in
    execution_wanting _ _ reports c.args.asked.now h.0 h.1 c.in_ok-code.code h.2 OutOfMemory refl

pub returns : goal.returns
returns g c = λ reports.
    let h = c.in_ok-code.ensures in
    execution_told _ _ reports c.args.asked.now h.0 h.1 c.in_ok-code.code h.2 c.in_ok-input.input c.in_ok-input.ensures
    c.in-Ok.value (c.in-Ok.ensures h.0 h.2) c.tell_execution.result c.tell_execution.ensures
