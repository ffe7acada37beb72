use Rattle.std.proofs.Common.{rules, ◌≡◌, map}
use Rattle.sp_tree.specs.declared.checked.Form.TheFolds as folds
use Rattle.sp_tree.specs.Plain.{Sequence}
use Rattle.sp_tree.specs.PlainOf.{stmt_form_of}
use Rattle.sp_tree.specs.CheckedOf as placed
use Rattle.sp_tree.specs.Bare.{bare_statements}
use Rattle.sp_tree.proofs.SingleStatements.{sends_bare, receives_bare}
use Rattle.sp_generate.proofs.statement_lengths.+stmt.Goals as goal

pub stmt_form_length-returns-in-SendEach : goal.stmt_form_length-returns-in-SendEach
stmt_form_length-returns-in-SendEach t c =
    let i : stmt_form_of c.args.form.now ≡ Sequence
    (bare_statements (placed.sends c.in-SendEach.number c.in-SendEach.at
    (placed.expression_of c.in-SendEach.channel) (map placed.expression_of c.in-SendEach.values))) =
    search (rules, folds.the_lemmas) in
    let j = sends_bare c.in-SendEach.number c.in-SendEach.at c.in-SendEach.channel c.in-SendEach.values in
    rw (i, j) c.sends_length.ensures

pub stmt_form_length-returns-in-ReceiveEach : goal.stmt_form_length-returns-in-ReceiveEach
stmt_form_length-returns-in-ReceiveEach t c =
    let i : stmt_form_of c.args.form.now ≡ Sequence
    (bare_statements (placed.receives c.in-ReceiveEach.number c.in-ReceiveEach.at
    (placed.expression_of c.in-ReceiveEach.channel) (map placed.variable_of c.in-ReceiveEach.variables))) =
    search (rules, folds.the_lemmas) in
    let j = receives_bare c.in-ReceiveEach.number c.in-ReceiveEach.at c.in-ReceiveEach.channel
    c.in-ReceiveEach.variables in
    rw (i, j) c.receives_length.ensures
