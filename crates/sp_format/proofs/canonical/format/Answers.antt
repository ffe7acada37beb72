use Rattle.std.proofs.lemmas.Result.{err_from_is_err_and}
use Rattle.sp_format.proofs.TextAnswers.{no_tokens, no_tree, tree_of, by_layout}
use Rattle.sp_format.proofs.canonical.format.Goals as goal

pub returns-in_err-tokens : goal.returns-in_err-tokens
returns-in_err-tokens c =
    no_tokens c.args.text.now c.from_residual.result _
    (err_from_is_err_and c.from_residual.result c.from_residual.ensures.1) c.in_err-tokens.ensures

pub returns-in_err-tree : goal.returns-in_err-tree
returns-in_err-tree c =
    no_tree c.args.text.now c.in_ok-tokens.tokens _ c.items.ensures c.in_ok-tokens.ensures
    c.from_residual-in_err-tree.result _
    (err_from_is_err_and c.from_residual-in_err-tree.result c.from_residual-in_err-tree.ensures.1)
    c.in_err-tree.ensures

pub returns : goal.returns
returns c =
    by_layout c.args.text.now (tree_of c.args.text.now c.in_ok-tokens.tokens _ c.items.ensures c.in_ok-tokens.ensures
    c.in_ok-tree.tree c.in_ok-tree.ensures) c.lay.result c.lay.ensures
