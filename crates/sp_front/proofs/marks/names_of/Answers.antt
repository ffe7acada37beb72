use Rattle.std.proofs.lemmas.Result.{err_from_is_err_and}
use Rattle.sp_tree.specs.SyntaxOf.{program_of}
use Rattle.sp_front.proofs.MarkAnswers.{unread}
use Rattle.sp_front.proofs.marks.names_of.Goals as goal

pub returns-in_err-tree : goal.returns-in_err-tree
returns-in_err-tree c =
    unread c.args.text.now c.from_residual.result _
    (err_from_is_err_and c.from_residual.result c.from_residual.ensures.1) c.in_err-tree.ensures

pub returns : goal.returns
returns c = (program_of c.in_ok-tree.tree, c.in_ok-tree.ensures, c.in_ok-constants.ensures)
