use Rattle.std.proofs.Common.{[], ◌∷◌, ◌∙◌, ap, refl, arith, add-one, None, Some, rules, subst, cond}
use Rattle.std.proofs.Common.{sym as back_of}
use Rattle.sp_tree.specs.declared.token.Kind.TheVariants as kind
use Rattle.sp_tree.specs.Words as w
use Rattle.sp_tree.specs.PlainSyntax as tree
use Rattle.sp_tree.specs.Symbols as sym
use Rattle.sp_tree.specs.Table as row
use Rattle.sp_tree.specs.Table.{row_entry, rows, kind_is}
use Rattle.sp_tree.specs.SyntaxOf.{expression_of, argument_of, selector_of}
use Rattle.sp_parse.specs.ExpressionProductions.{arguments}
use Rattle.sp_parse.specs.Trees.{and_selectors, and_arguments}
use Rattle.sp_parse.specs.Operators.{IsRelation, IsAddition, IsMultiplication, IsSign}
use Rattle.sp_parse.proofs.Lists.{lay_push, lay_selectors, lay_arguments}
use Rattle.sp_parse.proofs.Pending.{begin, say, read, read_as, go_on, keep, pass, leave, leave_at, look_at, close}
use Rattle.sp_parse.proofs.Pending.{pass_row, row_at, fail_at, passed, not_passed, went_on, closed}
use Rattle.sp_parse.proofs.Steps.{step_fails}
use Rattle.sp_parse.proofs.Rows.{kind_at, other_at, none_at}
use Rattle.sp_parse.proofs.ReadNames.{is_made}
use Rattle.sp_parse.proofs.Turns.{expression_turn, adds_less, multiplies_less, relation_on, term_on, factor_on}
use Rattle.sp_parse.proofs.Turns.{read_term, unsigned, signed, negated_turn, variable_turn, none_if, neither}
use Rattle.sp_parse.proofs.expressions.+expression.Goals as goal

pub expression-returns-in_default : goal.expression-returns-in_default
expression-returns-in_default t c = leave (read (expression_turn c.args.depth _ (add-one c.args.depth) (omega arith)
    (begin c.requires))
    c.simple-left.ensures) c.look.ensures
    (λ _. (subst (IsRelation c.look.result) c.in_default.is c.relational.ensures) _) refl

pub expression-returns : goal.expression-returns
expression-returns t c = keep (λ _. expression_of c.made.result) (read (relation_on _ (read (expression_turn
    c.args.depth _
    (add-one c.args.depth) (omega arith) (begin c.requires)) c.simple-left.ensures) c.look.ensures
    (subst (IsRelation c.look.result) c.in-Some.is c.relational.ensures) c.skip.ensures) c.simple-right.ensures)
    c.made.ensures (λ p _. is_made _ _ p c.binary.ensures)

pub simple-returns-in_default : goal.simple-returns-in_default
simple-returns-in_default t c = leave c.more.invariant c.look.ensures
    (λ _. (subst (IsAddition c.look.result) c.in_default.is c.adding.ensures) c.args.depth) refl

pub simple-more-preserved : goal.simple-more-preserved
simple-more-preserved t c = keep (λ vs. vs.0 (expression_of c.made-sum.result)) (read_term c.args.depth (term_on
    c.args.depth c.more.invariant
    c.look.ensures (subst (IsAddition c.look.result) c.in-Some.is c.adding.ensures) c.skip.ensures)
    c.term-next.ensures) c.made-sum.ensures (λ p vs. ap vs.0 (is_made _ _ p c.binary.ensures))

pub simple-more-smaller : goal.simple-more-smaller
simple-more-smaller t c = omega (
  arith,
  c.look.ensures.shorter,
  adds_less c.args.depth c.look.ensures
      (subst (IsAddition c.look.result) c.in-Some.is c.adding.ensures) c.skip.ensures,
  c.term-next.ensures.shorter,
  c.made-sum.ensures.shorter,
)

pub term-more-smaller : goal.term-more-smaller
term-more-smaller t c = omega (
  arith,
  c.look.ensures.shorter,
  multiplies_less c.args.depth c.look.ensures
      (subst (IsMultiplication c.look.result) c.in-Some.is c.multiplying.ensures) c.skip.ensures,
  c.factor-next.ensures.shorter,
  c.made-product.ensures.shorter,
)

pub first_term-returns-in_default : goal.first_term-returns-in_default
first_term-returns-in_default t c = read_as (sym.AFactor c.args.depth ∷ sym.MoreFactors c.args.depth ∷ [])
    (sym.MoreTerms c.args.depth ∷ [])
    (λ vs. vs.0 (expression_of c.term.result)) (unsigned c.args.depth (begin c.requires) c.look-first.ensures
    (subst (IsSign c.look-first.result) c.in_default.is c.sign_of.ensures)) c.term.ensures
    (λ us same vs. ap vs.0 same)

pub first_term-returns : goal.first_term-returns
first_term-returns t c = keep (λ vs. vs.0 (expression_of c.made.result)) (read_term c.args.depth (signed c.args.depth
    c.in-Some.op
    (begin c.requires) c.look-first.ensures (subst (IsSign c.look-first.result) c.in-Some.is c.sign_of.ensures)
    c.skip.ensures) c.term-of.ensures) c.made.ensures (λ p vs. ap vs.0 (is_made _ _ p c.unary.ensures))

pub term-more-init : goal.term-more-init
term-more-init t c = read (begin c.requires) c.factor-product.ensures

pub term-returns-in_default : goal.term-returns-in_default
term-returns-in_default t c = leave c.more.invariant c.look.ensures
    (λ _. (subst (IsMultiplication c.look.result) c.in_default.is c.multiplying.ensures) c.args.depth) refl

pub term-more-preserved : goal.term-more-preserved
term-more-preserved t c = keep (λ vs. vs.0 (expression_of c.made-product.result)) (read (factor_on c.args.depth
    c.more.invariant
    c.look.ensures (subst (IsMultiplication c.look.result) c.in-Some.is c.multiplying.ensures) c.skip.ensures)
    c.factor-next.ensures) c.made-product.ensures (λ p vs. ap vs.0 (is_made _ _ p c.binary.ensures))

pub factor-returns-then-is : goal.factor-returns-then-is
factor-returns-then-is t c = say (λ _. c.number_expression.ensures
    ∙ ap (λ n. tree.ExpressionAt c.look-first.result.at (tree.Number n)) c.number_at.ensures)
    (row_at [] (row.factor row.factor_number) refl refl refl tt
    (kind_at c.look-first.result kind.Number c.is.ensures c.if-is.true) (begin c.requires) c.look-first.ensures
    c.skip.ensures)

pub factor-returns-then-is-2 : goal.factor-returns-then-is-2
factor-returns-then-is-2 t c = say (λ _. c.quoted_expression.ensures)
    (keep (λ _. tree.ExpressionAt c.look-first.result.at (tree.Quoted c.made-text.result))
    (row_at [] (row.factor row.factor_text) refl refl refl tt
    (kind_at c.look-first.result kind.Text c.is-2.ensures c.if-is-2.true) (begin c.requires) c.look-first.ensures
    c.skip.ensures) c.made-text.ensures
    (λ p _. ap (λ q. tree.ExpressionAt c.look-first.result.at (tree.Quoted q)) (is_made _ _ p c.quoted_at.ensures)))

pub factor-returns-then-is-3 : goal.factor-returns-then-is-3
factor-returns-then-is-3 t c = go_on (keep (λ vs. tree.ExpressionAt c.look-first.result.at (vs.0 c.made-name.result))
    (row_at [] (row.factor row.factor_name) refl refl refl tt
    (kind_at c.look-first.result kind.Name c.is-3.ensures c.if-is-3.true) (begin c.requires) c.look-first.ensures
    c.skip.ensures) c.made-name.ensures
    (λ p vs. ap (λ n. tree.ExpressionAt c.look-first.result.at (vs.0 n)) (is_made _ _ p c.name_at.ensures)))
    c.reference.ensures (λ us. refl)

pub factor-returns-then-is-4 : goal.factor-returns-then-is-4
factor-returns-then-is-4 t c = say (λ _. c.moved.ensures) (pass (read
    (row_at [] (row.factor row.factor_open) refl refl refl tt
    (kind_at c.look-first.result w.Open c.is-4.ensures c.if-is-4.true) (begin c.requires) c.look-first.ensures
    c.skip.ensures) c.expression-inner.ensures) c.expect.ensures)

pub factor-returns-then-is-5 : goal.factor-returns-then-is-5
factor-returns-then-is-5 t c = go_on (row_at [] (row.factor row.factor_not) refl refl refl tt
    (kind_at c.look-first.result w.Not c.is-5.ensures c.if-is-5.true) (begin c.requires) c.look-first.ensures
    c.skip.ensures) c.negation.ensures (λ us. refl)

pub factor-returns : goal.factor-returns
factor-returns t c = fail_at _ (begin c.requires) c.look-first.ensures (λ u q. step_fails c.args.source.now
    (sym.AFactor c.args.depth) c.look-first.result u (none_at (rows (sym.AFactor c.args.depth))
    c.look-first.result.kind (
      other_at c.look-first.result kind.Number c.is.ensures c.if-is.false,
      (
        other_at c.look-first.result kind.Text c.is-2.ensures c.if-is-2.false,
        (
          other_at c.look-first.result kind.Name c.is-3.ensures c.if-is-3.false,
          (
            other_at c.look-first.result w.Open c.is-4.ensures c.if-is-4.false,
            (other_at c.look-first.result w.Not c.is-5.ensures c.if-is-5.false, tt),
          ),
        ),
      ),
    )) refl q) c.skip.ensures.failed c.misplaced.ensures
    c.fail.ensures

pub negation-returns : goal.negation-returns
negation-returns t c = keep (λ _. expression_of c.made.result) (read (negated_turn c.args.depth _ (add-one
    c.args.depth) (omega arith)
    (begin c.requires)) c.factor-of.ensures) c.made.ensures (λ p _. is_made _ _ p c.unary.ensures)

pub reference-returns-then-pass : goal.reference-returns-then-pass
reference-returns-then-pass t c = read_as (arguments c.args.depth).symbols [] _ (pass_row [] row.arguments refl refl
    (begin c.requires)
    (passed c.pass.ensures c.if-pass.true)) c.arguments.ensures (λ us same _. c.call_expression.ensures
    ∙ ap (λ xs. tree.ExpressionAt c.args.at (tree.Apply c.args.name xs)) same)

pub reference-returns : goal.reference-returns
reference-returns t c = say (λ _. c.read_expression.ensures ∙ ap (λ v. tree.ExpressionAt c.args.at (tree.Read v))
    c.variable.ensures)
    (read (variable_turn c.args.depth (begin c.requires) (not_passed c.pass.ensures c.if-pass.false))
    c.selectors.ensures)

pub selectors-more-init : goal.selectors-more-init
selectors-more-init t c = say (λ vs. ap (λ l. and_selectors l vs.0) c.new-all.ensures) (begin c.requires)

pub selectors-more-preserved-then-pass : goal.selectors-more-preserved-then-pass
selectors-more-preserved-then-pass t c = go_on (pass_row [] (row.selector row.selector_index) refl refl c.more.invariant
    (passed c.pass.ensures c.if-pass.true)) c.indices.ensures (λ us. refl)

pub selectors-more-preserved : goal.selectors-more-preserved
selectors-more-preserved t c = keep (λ vs. and_selectors c.push.new.all vs.0) (read (pass_row [] (row.selector
    row.selector_field) refl refl
    (look_at c.more.invariant (not_passed c.pass.ensures c.if-pass.false).looks)
    (passed c.pass-else-pass.ensures c.if-pass-2.true)) c.name-name.ensures) c.push.ensures
    (λ p vs. ap (λ l. and_selectors l vs.0) p ∙ lay_push tree.Select selector_of c.more.all c.field.result vs.0
    ∙ ap (λ x. and_selectors c.more.all (tree.Select x vs.0)) c.field.ensures)

pub selectors-returns-else-pass-2 : goal.selectors-returns-else-pass-2
selectors-returns-else-pass-2 t c = let a = not_passed c.pass.ensures c.if-pass.false in
    let b = not_passed c.pass-else-pass.ensures c.if-pass-2.false in
    say (λ _. back_of (lay_selectors _)) (leave (look_at c.more.invariant a.looks) b.looks
    (λ fine. none_if _ (neither a b fine) (none_if _ (b.differs fine) refl)) refl)

pub indices-more-preserved : goal.indices-more-preserved
indices-more-preserved t c = pass_row [] row.next_index refl refl (keep (λ vs. and_selectors c.push.new.all vs.0)
    (read c.more.invariant c.expression-next.ensures) c.push.ensures
    (λ p vs. ap (λ l. and_selectors l vs.0) p ∙ lay_push tree.Select selector_of c.more.all c.index.result vs.0
    ∙ ap (λ x. and_selectors c.more.all (tree.Select x vs.0)) c.index.ensures)) (went_on _ c.goes_on.ensures (search
    rules))

pub indices-returns-then-not-goes_on : goal.indices-returns-then-not-goes_on
indices-returns-then-not-goes_on t c = close [] row.indices_end refl refl
    (λ t n. ap (λ x. cond (kind_is w.CloseIndex t.kind) (Some (row_entry _ _ row.indices_end))
    (cond x (Some (row_entry _ _ row.next_index)) None)) n) (λ t. refl) (keep (λ vs. and_selectors c.push.new.all vs.0)
    (read c.more.invariant c.expression-next.ensures) c.push.ensures
    (λ p vs. ap (λ l. and_selectors l vs.0) p ∙ lay_push tree.Select selector_of c.more.all c.index.result vs.0
    ∙ ap (λ x. and_selectors c.more.all (tree.Select x vs.0)) c.index.ensures))
    (closed c.goes_on.ensures (search rules))

pub arguments-more-init : goal.arguments-more-init
arguments-more-init t c = say (λ (value, (width, (more, _))). ap (λ l. and_arguments l (tree.AndArgument (tree.Pass
    value width) more))
    c.new-all.ensures) (begin c.requires)

pub arguments-more-preserved : goal.arguments-more-preserved
arguments-more-preserved t c = pass_row [] row.next_argument refl refl (keep (λ vs. and_arguments c.push.new.all vs.0)
    (read (read c.more.invariant c.expression-value.ensures) c.width-width.ensures) c.push.ensures
    (λ p vs. ap (λ l. and_arguments l vs.0) p ∙ lay_push tree.AndArgument argument_of c.more.all c.argument.result vs.0
    ∙ ap (λ x. and_arguments c.more.all (tree.AndArgument x vs.0)) c.argument.ensures)) (went_on _ c.goes_on.ensures
    (search rules))

pub arguments-returns-then-not-goes_on : goal.arguments-returns-then-not-goes_on
arguments-returns-then-not-goes_on t c = say (λ _. back_of (lay_arguments _)) (close [] row.arguments_end refl refl
    (λ t n. ap (λ x. cond (kind_is w.Close t.kind) (Some (row_entry _ _ row.arguments_end))
    (cond x (Some (row_entry _ _ row.next_argument)) None)) n) (λ t. refl) (keep (λ vs. and_arguments c.push.new.all
    vs.0)
    (read (read c.more.invariant c.expression-value.ensures) c.width-width.ensures) c.push.ensures
    (λ p vs. ap (λ l. and_arguments l vs.0) p ∙ lay_push tree.AndArgument argument_of c.more.all c.argument.result vs.0
    ∙ ap (λ x. and_arguments c.more.all (tree.AndArgument x vs.0)) c.argument.ensures))
    (closed c.goes_on.ensures (search rules)))

pub width-returns-then-pass : goal.width-returns-then-pass
width-returns-then-pass t c = read (pass_row [] row.width refl refl (begin c.requires) (passed c.pass.ensures
    c.if-pass.true))
    c.expression.ensures

pub width-returns : goal.width-returns
width-returns t c = leave_at (begin c.requires) (not_passed c.pass.ensures c.if-pass.false) (λ t n. none_if _ n refl)
    refl
