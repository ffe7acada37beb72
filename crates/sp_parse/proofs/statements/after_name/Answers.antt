use Rattle.std.proofs.Common.{[], ◌∙◌, ap, refl}
use Rattle.sp_tree.specs.Words as w
use Rattle.sp_tree.specs.PlainSyntax as tree
use Rattle.sp_tree.specs.Table as row
use Rattle.sp_tree.specs.SyntaxOf.{expression_of, arguments_of}
use Rattle.sp_parse.specs.ExpressionProductions.{arguments}
use Rattle.sp_parse.specs.Trees.{selectors_of}
use Rattle.sp_parse.proofs.Pending.{begin, say, read, read_as, pass, leave, row_at}
use Rattle.sp_parse.proofs.Rows.{kind_at, other_at}
use Rattle.sp_parse.proofs.Turns.{target_turn, no_target}
use Rattle.sp_parse.proofs.statements.after_name.Goals as goal

pub returns-then-is : goal.returns-then-is
returns-then-is c = read_as (arguments c.args.depth).symbols [] _ (row_at [] row.call refl refl refl tt (kind_at
    c.look-first.result w.Open c.is.ensures c.if-is.true)
    (begin c.requires) c.look-first.ensures c.skip.ensures) c.arguments.ensures
    (λ us same _. c.call_statement.ensures ∙ ap (λ xs. tree.Does c.args.at (tree.Call c.args.name xs)) same)

pub returns-then-is-2 : goal.returns-then-is-2
returns-then-is-2 c = say (λ _. c.assign_statement.ensures ∙ ap (λ v. tree.Does c.args.at
    (tree.Assign v (expression_of c.expression-value.result)))
    (c.variable.ensures ∙ ap (λ l. tree.Entire c.args.name (selectors_of l)) c.new.ensures))
    (read (row_at [] row.becomes refl refl refl tt (kind_at c.look-first.result w.Becomes c.is-2.ensures
    c.if-is-2.true) (begin c.requires) c.look-first.ensures
    c.skip-then-is-2.ensures) c.expression-value.ensures)

pub returns-then-begins_selector : goal.returns-then-begins_selector
returns-then-begins_selector c = say (λ _. c.assign_statement-then-begins_selector.ensures ∙ ap (λ v. tree.Does
    c.args.at
    (tree.Assign v (expression_of c.expression-value-then-begins_selector.result)))
    c.variable-then-begins_selector.ensures)
    (read (pass (read (target_turn c.args.depth (begin c.requires) c.look-first.ensures
    (other_at c.look-first.result w.Open c.is.ensures c.if-is.false) (other_at c.look-first.result w.Becomes
    c.is-2.ensures c.if-is-2.false)
    (c.begins_selector.ensures c.args.depth ∙ c.if-begins_selector.true)) c.selectors-of.ensures) c.expect.ensures)
    c.expression-value-then-begins_selector.ensures)

pub returns : goal.returns
returns c = say (λ _. c.call_statement-2.ensures ∙ ap (λ xs. tree.Does c.args.at (tree.Call c.args.name (arguments_of
    xs)))
    c.new-2.ensures) (leave (begin c.requires) c.look-first.ensures (λ _. no_target c.args.source.now c.args.depth
    c.look-first.result (other_at c.look-first.result w.Open c.is.ensures c.if-is.false) (other_at c.look-first.result
    w.Becomes c.is-2.ensures c.if-is-2.false)
    (c.begins_selector.ensures c.args.depth ∙ c.if-begins_selector.false)) refl)
