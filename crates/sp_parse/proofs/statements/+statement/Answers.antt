use Rattle.std.proofs.Common.{[], ◌∷◌, ◌∙◌, ap, refl, arith, add-one, None, Some, rules, cond, sym as back_of}
use Rattle.sp_tree.specs.declared.token.Kind.TheVariants as kind
use Rattle.sp_tree.specs.Words as w
use Rattle.sp_tree.specs.PlainSyntax as tree
use Rattle.sp_tree.specs.Symbols as sym
use Rattle.sp_tree.specs.Table as row
use Rattle.sp_tree.specs.Table.{row_entry, kind_is}
use Rattle.sp_tree.specs.SyntaxOf.{expression_of, statement_of, statements_of, arm_of, branch_of}
use Rattle.sp_parse.specs.StatementProductions.{sequence, compound, arms, labels}
use Rattle.sp_parse.specs.Trees.{and_statements, and_arms, and_branches}
use Rattle.sp_parse.proofs.Lists.{lay_push, lay_statements, lay_arms, lay_branches}
use Rattle.sp_parse.proofs.Pending.{begin, say, read, read_as, go_on, keep, pass, leave, leave_at, close, pass_row}
use Rattle.sp_parse.proofs.Pending.{fail_at, passed, not_passed, went_on, closed}
use Rattle.sp_parse.proofs.Rows.{kind_at, other_at}
use Rattle.sp_parse.proofs.ReadNames.{is_made}
use Rattle.sp_parse.proofs.Turns.{arm_turn, none_if}
use Rattle.sp_parse.proofs.Forms.{form_on, no_form, deep_form, name_form, direct}
use Rattle.sp_parse.proofs.statements.+statement.Goals as goal

pub statement-returns-then-not-begins_form : goal.statement-returns-then-not-begins_form
statement-returns-then-not-begins_form t c = say (λ _. c.empty_statement.ensures) (leave (begin c.requires)
    c.look-first.ensures
    (λ _. no_form c.args.depth c.look-first.result c.begins_form.result c.begins_form.ensures (search rules)) refl)

pub statement-returns-then-depth-ge-MAX_NESTING : goal.statement-returns-then-depth-ge-MAX_NESTING
statement-returns-then-depth-ge-MAX_NESTING t c = fail_at _ (begin c.requires) c.look-first.ensures
    (λ u q. deep_form c.args.source.now c.args.depth c.look-first.result u c.begins_form.result c.begins_form.ensures
    (search rules) (omega arith) q) refl c.why.ensures c.fail.ensures

pub statement-returns-then-is : goal.statement-returns-then-is
statement-returns-then-is t c = read_as (compound _).symbols [] _ (form_on c.args.depth _ (λ n. sym.AStatement n ∷
    sym.MoreStatements n ∷ sym.AToken w.End ∷ []) (λ n. row.form_begin) refl refl
    (kind_at c.look-first.result w.Begin c.is.ensures c.if-is.true) (add-one c.args.depth) (omega arith)
    (begin c.requires) c.look-first.ensures c.skip.ensures) c.compound.ensures
    (λ us same _. c.sequence_statement.ensures
    ∙ ap (λ x. tree.Does c.look-first.result.at (tree.Sequence x)) same)

pub statement-returns-then-is-2 : goal.statement-returns-then-is-2
statement-returns-then-is-2 t c = go_on (form_on c.args.depth _ (λ n. sym.AnExpression n ∷ sym.AToken w.Then ∷
    sym.AStatement n ∷ sym.AnElse n ∷ []) (λ n. row.form_if) refl refl
    (kind_at c.look-first.result w.If c.is-2.ensures c.if-is-2.true) (add-one c.args.depth) (omega arith)
    (begin c.requires) c.look-first.ensures c.skip.ensures) c.choice.ensures (λ us. refl)

pub statement-returns-then-is-3 : goal.statement-returns-then-is-3
statement-returns-then-is-3 t c = go_on (form_on c.args.depth _ (λ n. sym.AnExpression n ∷ sym.AToken w.Do ∷
    sym.AStatement n ∷ []) (λ n. row.form_while) refl refl
    (kind_at c.look-first.result w.While c.is-3.ensures c.if-is-3.true) (add-one c.args.depth) (omega arith)
    (begin c.requires) c.look-first.ensures c.skip.ensures) c.while_loop.ensures (λ us. refl)

pub statement-returns-then-is-4 : goal.statement-returns-then-is-4
statement-returns-then-is-4 t c = go_on (form_on c.args.depth _ (λ n. sym.AStatement n ∷ sym.MoreStatements n ∷
    sym.AToken w.Until ∷ sym.AnExpression n ∷ []) (λ n. row.form_repeat) refl refl
    (kind_at c.look-first.result w.Repeat c.is-4.ensures c.if-is-4.true) (add-one c.args.depth) (omega arith)
    (begin c.requires) c.look-first.ensures c.skip.ensures) c.repeat_loop.ensures (λ us. refl)

pub statement-returns-then-is-5 : goal.statement-returns-then-is-5
statement-returns-then-is-5 t c = go_on (form_on c.args.depth _ (λ n. sym.AName ∷ sym.AToken w.Becomes ∷
    sym.AnExpression n ∷ sym.ADirection ∷ sym.AnExpression n
    ∷ sym.AToken w.Do ∷ sym.AStatement n ∷ []) (λ n. row.form_for) refl refl
    (kind_at c.look-first.result w.For c.is-5.ensures c.if-is-5.true) (add-one c.args.depth) (omega arith)
    (begin c.requires) c.look-first.ensures c.skip.ensures) c.for_loop.ensures (λ us. refl)

pub statement-returns-then-is-6 : goal.statement-returns-then-is-6
statement-returns-then-is-6 t c = go_on (form_on c.args.depth _ (λ n. sym.AnExpression n ∷ sym.AToken w.Of ∷
    sym.AConstant ∷ sym.MoreLabels ∷ sym.AStatement n
    ∷ sym.MoreArms n ∷ []) (λ n. row.form_case) refl refl
    (kind_at c.look-first.result w.Case c.is-6.ensures c.if-is-6.true) (add-one c.args.depth) (omega arith)
    (begin c.requires) c.look-first.ensures c.skip.ensures) c.case_choice.ensures (λ us. refl)

pub statement-returns-then-is-7 : goal.statement-returns-then-is-7
statement-returns-then-is-7 t c = go_on (form_on c.args.depth _ (λ n. sym.AStatement n ∷ sym.MoreStatements n ∷
    sym.MoreBranches n ∷ []) (λ n. row.form_parallel) refl refl
    (kind_at c.look-first.result w.Parallel c.is-7.ensures c.if-is-7.true) (add-one c.args.depth) (omega arith)
    (begin c.requires) c.look-first.ensures c.skip.ensures) c.parallel.ensures (λ us. refl)

pub statement-returns-then-is-8 : goal.statement-returns-then-is-8
statement-returns-then-is-8 t c = go_on (form_on c.args.depth _ (λ n. sym.AName ∷ sym.AToken w.Becomes ∷
    sym.AnExpression n ∷ sym.AToken w.To ∷ sym.AnExpression n
    ∷ sym.AToken w.Do ∷ sym.AStatement n ∷ []) (λ n. row.form_forall) refl refl
    (kind_at c.look-first.result w.Forall c.is-8.ensures c.if-is-8.true) (add-one c.args.depth) (omega arith)
    (begin c.requires) c.look-first.ensures c.skip.ensures) c.forall.ensures (λ us. refl)

pub statement-returns-then-is-9 : goal.statement-returns-then-is-9
statement-returns-then-is-9 t c = say (λ _. c.assume_statement.ensures) (read (form_on c.args.depth _ (λ n.
    sym.AnExpression n ∷ []) (λ n. row.form_assume) refl refl
    (kind_at c.look-first.result w.Assume c.is-9.ensures c.if-is-9.true) (add-one c.args.depth) (omega arith)
    (begin c.requires) c.look-first.ensures c.skip.ensures) c.expression.ensures)

pub statement-returns : goal.statement-returns
statement-returns t c = go_on (keep (λ vs. tree.Does c.look-first.result.at (vs.0 c.made-name.result))
    (form_on c.args.depth _ (λ n. sym.AfterName n ∷ []) (λ n. row.form_name) refl refl
    (name_form c.look-first.result c.begins_form.result c.begins_form.ensures (search rules) (
      other_at c.look-first.result w.Begin c.is.ensures c.if-is.false,
      (
        other_at c.look-first.result w.If c.is-2.ensures c.if-is-2.false,
        (
          other_at c.look-first.result w.While c.is-3.ensures c.if-is-3.false,
          (
            other_at c.look-first.result w.Repeat c.is-4.ensures c.if-is-4.false,
            (
              other_at c.look-first.result w.For c.is-5.ensures c.if-is-5.false,
              (
                other_at c.look-first.result w.Case c.is-6.ensures c.if-is-6.false,
                (
                  other_at c.look-first.result w.Parallel c.is-7.ensures c.if-is-7.false,
                  (
                    other_at c.look-first.result w.Forall c.is-8.ensures c.if-is-8.false,
                    (
                      other_at c.look-first.result w.Assume c.is-9.ensures c.if-is-9.false,
                      tt,
                    ),
                  ),
                ),
              ),
            ),
          ),
        ),
      ),
    ))
    (add-one c.args.depth) (omega arith) (begin c.requires) c.look-first.ensures c.skip.ensures) c.made-name.ensures
    (λ p vs. ap (λ n. tree.Does c.look-first.result.at (vs.0 n)) (is_made _ _ p c.name_at.ensures)))
    c.after_name.ensures
    (λ us. refl)

pub compound-returns : goal.compound-returns
compound-returns t c = pass (read_as (sequence c.args.depth).symbols (sym.AToken w.End ∷ []) (λ _. statements_of
    c.statements-all.result)
    (begin c.requires) c.statements-all.ensures (λ us same _. same)) c.expect.ensures

pub statements-more-init : goal.statements-more-init
statements-more-init t c = say (λ (first, (more, _)). ap (λ l. and_statements l (tree.AndThen first more))
    c.new-all.ensures)
    (begin c.requires)

pub statements-more-preserved : goal.statements-more-preserved
statements-more-preserved t c = pass_row [] row.next_statement refl refl (keep (λ vs. and_statements c.push.new.all
    vs.0)
    (read c.more.invariant c.statement-next.ensures) c.push.ensures
    (λ p vs. ap (λ l. and_statements l vs.0) p ∙ lay_push tree.AndThen statement_of c.more.all c.statement-next.result
    vs.0)) (passed c.pass.ensures (search rules))

pub statements-returns-then-not-pass : goal.statements-returns-then-not-pass
statements-returns-then-not-pass t c = say (λ _. back_of (lay_statements _)) (leave_at (keep (λ vs. and_statements
    c.push.new.all vs.0)
    (read c.more.invariant c.statement-next.ensures) c.push.ensures
    (λ p vs. ap (λ l. and_statements l vs.0) p ∙ lay_push tree.AndThen statement_of c.more.all c.statement-next.result
    vs.0)) (not_passed c.pass.ensures (search rules))
    (λ t n. none_if _ n refl) refl)

pub choice-returns : goal.choice-returns
choice-returns t c = keep (λ _. statement_of c.made.result) (read (read (pass (read (begin c.requires)
    c.expression-test.ensures)
    c.expect.ensures) c.statement-body.ensures) c.otherwise-other.ensures) c.made.ensures
    (λ p _. is_made _ _ p c.if_statement.ensures)

pub otherwise-returns-then-pass : goal.otherwise-returns-then-pass
otherwise-returns-then-pass t c = read (pass_row [] row.other refl refl (begin c.requires) (passed c.pass.ensures
    c.if-pass.true))
    c.statement.ensures

pub otherwise-returns : goal.otherwise-returns
otherwise-returns t c = leave_at (begin c.requires) (not_passed c.pass.ensures c.if-pass.false) (λ t n. none_if _ n
    refl) refl

pub while_loop-returns : goal.while_loop-returns
while_loop-returns t c = keep (λ _. statement_of c.made.result) (read (pass (read (begin c.requires)
    c.expression-test.ensures)
    c.expect.ensures) c.statement-body.ensures) c.made.ensures (λ p _. is_made _ _ p c.while_statement.ensures)

pub repeat_loop-returns : goal.repeat_loop-returns
repeat_loop-returns t c = say (λ _. c.repeat_statement.ensures) (read (pass (read_as (sequence c.args.depth).symbols
    (sym.AToken w.Until ∷ sym.AnExpression c.args.depth ∷ [])
    (λ vs. tree.Does c.args.at (tree.Repeat (statements_of c.statements-body.result) vs.1.0)) (begin c.requires)
    c.statements-body.ensures (λ us same vs. ap (λ x. tree.Does c.args.at (tree.Repeat x vs.1.0)) same))
    c.expect.ensures) c.expression-test.ensures)

pub for_loop-returns : goal.for_loop-returns
for_loop-returns t c = keep (λ _. statement_of c.made.result) (read (pass (read (direct c.goes_on-down.result
    (read (pass (read (begin c.requires) c.name-name.ensures) c.expect.ensures) c.expression-from.ensures)
    c.goes_on-down.ensures) c.expression-to.ensures) c.expect-2.ensures) c.statement-body.ensures) c.made.ensures
    (λ p _. is_made _ _ p c.for_statement.ensures)

pub forall-returns : goal.forall-returns
forall-returns t c = keep (λ _. statement_of c.made.result) (read (pass (read (pass (read (pass (read (begin c.requires)
    c.name-name.ensures) c.expect.ensures) c.expression-from.ensures) c.expect-2.ensures) c.expression-to.ensures)
    c.expect-3.ensures) c.statement-body.ensures) c.made.ensures (λ p _. is_made _ _ p c.forall_statement.ensures)

pub case_choice-returns : goal.case_choice-returns
case_choice-returns t c = read_as (arms c.args.depth).symbols [] _ (pass (read (begin c.requires)
    c.expression-test.ensures)
    c.expect.ensures) c.arms.ensures (λ us same _. c.case_statement.ensures
    ∙ ap (λ x. tree.Does c.args.at (tree.Case (expression_of c.expression-test.result) x)) same)

pub arms-more-init : goal.arms-more-init
arms-more-init t c = say (λ (label, (labels, (body, (more, _)))).
    ap (λ l. and_arms l (tree.Or (tree.On (label ∷ labels) body) more)) c.new-all.ensures) (begin c.requires)

pub arms-more-preserved : goal.arms-more-preserved
arms-more-preserved t c = arm_turn c.args.depth (pass_row [] row.arms_go_on refl refl (keep (λ vs. and_arms
    c.push.new.all vs.0) (read (read_as labels.symbols
    (sym.AStatement c.args.depth ∷ sym.MoreArms c.args.depth ∷ [])
    (λ vs. and_arms c.more.all (tree.Or (tree.On c.labels-constants.result vs.0) vs.1.0)) c.more.invariant
    c.labels-constants.ensures
    (λ us same vs. ap (λ ls. and_arms c.more.all (tree.Or (tree.On ls vs.0) vs.1.0)) same))
    c.statement-body.ensures) c.push.ensures
    (λ p vs. ap (λ l. and_arms l vs.0) p ∙ lay_push tree.Or arm_of c.more.all c.arm.result vs.0
    ∙ ap (λ x. and_arms c.more.all (tree.Or x vs.0)) c.arm.ensures))
    (went_on _ c.goes_on.ensures (search rules))) (not_passed c.pass.ensures c.if-pass.false)

pub arms-returns-then-not-goes_on : goal.arms-returns-then-not-goes_on
arms-returns-then-not-goes_on t c = say (λ _. back_of (lay_arms _)) (close [] row.arms_end refl refl
    (λ t n. ap (λ x. cond (kind_is w.End t.kind) (Some (row_entry _ _ row.arms_end))
    (cond x (Some (row_entry _ _ row.arms_go_on)) None)) n) (λ t. refl) (keep (λ vs. and_arms c.push.new.all vs.0)
    (read (read_as labels.symbols
    (sym.AStatement c.args.depth ∷ sym.MoreArms c.args.depth ∷ [])
    (λ vs. and_arms c.more.all (tree.Or (tree.On c.labels-constants.result vs.0) vs.1.0)) c.more.invariant
    c.labels-constants.ensures
    (λ us same vs. ap (λ ls. and_arms c.more.all (tree.Or (tree.On ls vs.0) vs.1.0)) same))
    c.statement-body.ensures) c.push.ensures
    (λ p vs. ap (λ l. and_arms l vs.0) p ∙ lay_push tree.Or arm_of c.more.all c.arm.result vs.0
    ∙ ap (λ x. and_arms c.more.all (tree.Or x vs.0)) c.arm.ensures))
    (closed c.goes_on.ensures (search rules)))

pub arms-returns-then-pass : goal.arms-returns-then-pass
arms-returns-then-pass t c = say (λ _. back_of (lay_arms _)) (pass_row [] row.no_arm refl refl (pass_row []
    row.arms_go_on refl refl
    (keep (λ vs. and_arms c.push.new.all vs.0) (read (read_as labels.symbols
    (sym.AStatement c.args.depth ∷ sym.MoreArms c.args.depth ∷ [])
    (λ vs. and_arms c.more.all (tree.Or (tree.On c.labels-constants.result vs.0) vs.1.0)) c.more.invariant
    c.labels-constants.ensures
    (λ us same vs. ap (λ ls. and_arms c.more.all (tree.Or (tree.On ls vs.0) vs.1.0)) same))
    c.statement-body.ensures) c.push.ensures
    (λ p vs. ap (λ l. and_arms l vs.0) p ∙ lay_push tree.Or arm_of c.more.all c.arm.result vs.0
    ∙ ap (λ x. and_arms c.more.all (tree.Or x vs.0)) c.arm.ensures)) (went_on _ c.goes_on.ensures (search rules)))
    (passed c.pass.ensures c.if-pass.true))

pub parallel-more-init : goal.parallel-more-init
parallel-more-init t c = say (λ (first, (statements, (more, _))). ap (λ l. tree.Does c.args.at
    (tree.Parallel (and_branches l (tree.Beside (tree.AndThen first statements) more)))) c.new-all.ensures)
    (begin c.requires)

pub parallel-more-preserved : goal.parallel-more-preserved
parallel-more-preserved t c = pass_row [] row.next_branch refl refl (keep (λ vs. tree.Does c.args.at
    (tree.Parallel (and_branches c.push.new.all vs.0))) (read_as (sequence c.args.depth).symbols
    (sym.MoreBranches c.args.depth ∷ [])
    (λ vs. tree.Does c.args.at (tree.Parallel (and_branches c.more.all
    (tree.Beside (statements_of c.statements-next.result) vs.0)))) c.more.invariant c.statements-next.ensures
    (λ us same vs. ap (λ x. tree.Does c.args.at (tree.Parallel (and_branches c.more.all (tree.Beside x vs.0)))) same))
    c.push.ensures (λ p vs. ap (λ x. tree.Does c.args.at (tree.Parallel x)) (ap (λ l. and_branches l vs.0) p
    ∙ lay_push tree.Beside branch_of c.more.all c.process.result vs.0
    ∙ ap (λ x. and_branches c.more.all (tree.Beside x vs.0)) c.process.ensures))) (went_on _ c.goes_on.ensures (search
    rules))

pub parallel-returns-then-not-goes_on : goal.parallel-returns-then-not-goes_on
parallel-returns-then-not-goes_on t c = say (λ _. c.parallel_statement.ensures ∙ ap (λ x. tree.Does c.args.at
    (tree.Parallel x))
    (back_of (lay_branches _))) (close [] row.branches_end refl refl
    (λ t n. ap (λ x. cond (kind_is w.End t.kind) (Some (row_entry _ _ row.branches_end))
    (cond x (Some (row_entry _ _ row.next_branch)) None)) n) (λ t. refl) (keep (λ vs. tree.Does c.args.at
    (tree.Parallel (and_branches c.push.new.all vs.0))) (read_as (sequence c.args.depth).symbols
    (sym.MoreBranches c.args.depth ∷ [])
    (λ vs. tree.Does c.args.at (tree.Parallel (and_branches c.more.all
    (tree.Beside (statements_of c.statements-next.result) vs.0)))) c.more.invariant c.statements-next.ensures
    (λ us same vs. ap (λ x. tree.Does c.args.at (tree.Parallel (and_branches c.more.all (tree.Beside x vs.0)))) same))
    c.push.ensures (λ p vs. ap (λ x. tree.Does c.args.at (tree.Parallel x)) (ap (λ l. and_branches l vs.0) p
    ∙ lay_push tree.Beside branch_of c.more.all c.process.result vs.0
    ∙ ap (λ x. and_branches c.more.all (tree.Beside x vs.0)) c.process.ensures)))
    (closed c.goes_on.ensures (search rules)))
