use Rattle.std.proofs.Common.{rules}
use Rattle.sp_tree.specs.declared.checked.Form.TheFolds as folds
use Rattle.sp_varsets.proofs.StatementLines.{no_sends, no_receives}
use Rattle.sp_varsets.proofs.line_walk.+lines.Goals as goal

pub form_lines-returns-in-SendEach : goal.form_lines-returns-in-SendEach
form_lines-returns-in-SendEach t c = search (rules, folds.the_lemmas, no_sends)

pub form_lines-returns-in-ReceiveEach : goal.form_lines-returns-in-ReceiveEach
form_lines-returns-in-ReceiveEach t c = search (rules, folds.the_lemmas, no_receives)
