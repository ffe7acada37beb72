use Rattle.std.proofs.Common.{◌∙◌, ap}
use Rattle.std.proofs.lemmas.Result.{err_from_is_err_and}
use Rattle.sp_lines.specs.Constants.{by_kind}
use Rattle.sp_front.proofs.MarkAnswers.{all_marked, unnamed}
use Rattle.sp_front.proofs.marks.marked.Goals as goal

pub returns-in_err-names : goal.returns-in_err-names
returns-in_err-names c =
    unnamed c.args.text.now c.from_residual.result _
    (err_from_is_err_and c.from_residual.result c.from_residual.ensures.1) c.in_err-names.ensures

pub returns : goal.returns
returns c =
    all_marked c.args.text.now c.in_ok-compiled.field-0 c.in_ok-compiled.ensures
    c.into_parts-checked.result.0 c.into_parts-checked.result.1
    c.into_parts-checked.ensures.tree c.into_parts-checked.ensures.code
    c.in_ok-marks.marks c.in_ok-marks.ensures c.in_ok-names.names c.in_ok-names.ensures
    c.in_ok-constants.constants
    (c.in_ok-constants.ensures ∙ ap (λ kinds. by_kind kinds c.in_ok-names.names) c.items.ensures)
