use Rattle.std.proofs.lemmas.Result.{err_from_is_err_and}
use Rattle.sp_front.proofs.TypedAnswers.{by_types, keeps, no_names, no_tree, programs}
use Rattle.sp_front.proofs.phases.typed.Goals as goal

pub returns-in_err-syntax : goal.returns-in_err-syntax
returns-in_err-syntax c =
    let checks = no_tree c.args.text.now c.from_residual.result _
    (err_from_is_err_and c.from_residual.result c.from_residual.ensures.1) c.in_err-syntax.ensures in
    record { checks = checks; keeps = keeps c.one_answer.ensures.not_both _ _ checks; program = programs _ _ checks }

pub returns-in_err-named : goal.returns-in_err-named
returns-in_err-named c =
    let checks = no_names c.args.text.now _ c.in_ok-syntax.ensures c.from_residual-in_err-named.result _
    (err_from_is_err_and c.from_residual-in_err-named.result c.from_residual-in_err-named.ensures.1)
    c.in_err-named.ensures in
    record { checks = checks; keeps = keeps c.one_answer.ensures.not_both _ _ checks; program = programs _ _ checks }

pub returns : goal.returns
returns c =
    let checks = by_types c.args.text.now _ _ c.in_ok-syntax.ensures c.in_ok-named.ensures c.type_check.result
    c.type_check.ensures in
    record { checks = checks; keeps = keeps c.one_answer.ensures.not_both _ _ checks; program = programs _ _ checks }
