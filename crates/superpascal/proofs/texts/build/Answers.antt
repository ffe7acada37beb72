use Rattle.std.proofs.Common.{arith, refl}
use Rattle.std.proofs.lemmas.Result.{err_from_is_err_and}
use Rattle.sp_words.specs.declared.command.Command.TheVariants.{Build}
use Rattle.superpascal.specs.Steps.{AnswersText}
use Rattle.superpascal.proofs.Parts.{at_exit, code_long, has_code_text, text_made, text_unready}
use Rattle.superpascal.proofs.texts.build.Goals as goal

pub returns-in_err-code : goal.returns-in_err-code
returns-in_err-code g c =
    at_exit (AnswersText _ (Build c.args.file.now)) c.from_residual.result _
    (err_from_is_err_and c.from_residual.result c.from_residual.ensures.1)
    (text_unready _ (Build c.args.file.now) c.args.file.now (refl, λ k. k) (λ text r h. h) _
    c.in_err-code.ensures.prepared)

pub returns-then-len-gt-LONGEST_CODE : goal.returns-then-len-gt-LONGEST_CODE
returns-then-len-gt-LONGEST_CODE g c =
    let (text, known, tree, has_code) = c.in_ok-code.ensures.prepared in
    code_long _ c.args.file.now text known c.in-Ok.value.items
    (has_code_text text tree c.in_ok-code.code c.in-Ok.value.items has_code c.in-Ok.ensures)
    (omega (arith, c.if-len-gt-LONGEST_CODE.true, c.len.ensures))

pub returns : goal.returns
returns g c =
    let (text, known, tree, has_code) = c.in_ok-code.ensures.prepared in
    text_made _ (Build c.args.file.now) c.args.file.now (refl, λ k. k) text known c.in-Ok.value.items
    c.new.result.items (
      (
        has_code_text text tree c.in_ok-code.code c.in-Ok.value.items has_code c.in-Ok.ensures,
        omega (arith, c.if-len-gt-LONGEST_CODE.false, c.len.ensures),
      ),
      c.new.ensures.items,
    ) c.accepted.result c.accepted.ensures
