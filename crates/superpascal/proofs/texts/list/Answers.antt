use Rattle.std.proofs.Common.{refl}
use Rattle.std.proofs.lemmas.Result.{err_from_is_err_and}
use Rattle.sp_words.specs.declared.command.Command.TheVariants.{Code}
use Rattle.superpascal.specs.Steps.{AnswersText}
use Rattle.superpascal.proofs.Parts.{at_exit, text_made, text_unready}
use Rattle.superpascal.proofs.texts.list.Goals as goal

pub returns-in_err-code : goal.returns-in_err-code
returns-in_err-code g c =
    at_exit (AnswersText _ (Code c.args.file.now)) c.from_residual.result _
    (err_from_is_err_and c.from_residual.result c.from_residual.ensures.1)
    (text_unready _ (Code c.args.file.now) c.args.file.now (refl, λ k. k) (λ text r h. h) _
    c.in_err-code.ensures.prepared)

pub returns : goal.returns
returns g c =
    let (text, known, tree, has_code) = c.in_ok-code.ensures.prepared in
    text_made _ (Code c.args.file.now) c.args.file.now (refl, λ k. k) text known c.in-Ok.value.items
    c.new.result.items (
      (
        tree,
        has_code.has.accepted,
        has_code.has.short,
        c.in_ok-code.code,
        has_code.code,
        c.in-Ok.ensures,
      ),
      c.new.ensures.items,
    ) c.accepted.result c.accepted.ensures
