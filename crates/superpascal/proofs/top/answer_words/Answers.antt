use Rattle.std.proofs.Common.{refl}
use Rattle.std.proofs.lemmas.Result.{err_from_is_err_and}
use Rattle.superpascal.specs.Steps.{AnswersWords}
use Rattle.superpascal.proofs.Parts.{at_exit, no_command_read, words_answered}
use Rattle.superpascal.proofs.top.answer_words.Goals as goal

pub returns-in_err-command : goal.returns-in_err-command
returns-in_err-command g c =
    at_exit (AnswersWords _ _ _ _) c.from_residual.result _
    (err_from_is_err_and c.from_residual.result c.from_residual.ensures.1)
    (no_command_read _ _ _ _ (refl, refl) _ c.in_err-command.ensures)

pub returns : goal.returns
returns g c = words_answered _ _ _ _ c.in_ok-command.command c.in_ok-command.ensures c.dispatch.result
    c.dispatch.ensures
