use Rattle.std.proofs.Common.{rules, ◌≡◌, map, subst}
use Rattle.sp_tree.specs.declared.checked.Form.TheFolds as folds
use Rattle.sp_tree.specs.declared.checked.Stmt.{out-Stmt}
use Rattle.sp_tree.specs.PlainChecked.{Empty, Assign, Call, Sequence, If, NoElse, Else, While, Repeat, For, Case}
use Rattle.sp_tree.specs.PlainChecked.{Parallel, Forall, Assume, ReadValue, ReadLine, WriteValue, WriteText, WriteLine}
use Rattle.sp_tree.specs.PlainChecked.{Open, Send, Receive}
use Rattle.sp_tree.specs.Bare.{bare_statement, bare_statements}
use Rattle.sp_tree.specs.CheckedOf.{expression_of, variable_of, width_of, actual_of, actuals, statement_of}
use Rattle.sp_tree.specs.CheckedOf.{statement_form_of, statements, sends, receives, arm_of, arms}
use Rattle.sp_varsets.specs.Walks.{WalksStatement}
use Rattle.sp_varsets.proofs.AddedSets.{splits_add, spreads_add}
use Rattle.sp_varsets.proofs.StatementRecords.{statement_is, arms_on, arms_end, statement_walked, element_walked}
use Rattle.sp_varsets.proofs.StatementRecords.{walked_none}
use Rattle.sp_varsets.proofs.StatementRecords.{walked_first, walked_last, walked_both, walked_else_none}
use Rattle.sp_varsets.proofs.StatementRecords.{walked_no_statements}
use Rattle.sp_varsets.proofs.StatementRecords.{statements_on, statements_end}
use Rattle.sp_varsets.proofs.walk.Walk.+walk.Goals as goal

pub form-returns-in-Empty : goal.form-returns-in-Empty
form-returns-in-Empty t c =
    let i : statement_form_of c.args.form.now ≡ Empty = search (rules, folds.the_lemmas) in
    rw i (walked_no_statements c.args.self.now c.args.into.now)

pub form-returns-in-Assign : goal.form-returns-in-Assign
form-returns-in-Assign t c =
    let i : statement_form_of c.args.form.now ≡ Assign (variable_of c.in-Assign.v) (expression_of c.in-Assign.e) =
    search (rules, folds.the_lemmas) in
    rw i (walked_none c.assign.ensures)

pub form-returns-in-Call : goal.form-returns-in-Call
form-returns-in-Call t c =
    let i : statement_form_of c.args.form.now ≡ Call c.in-Call.f (actuals (map actual_of c.in-Call.args)) =
    search (rules, folds.the_lemmas) in
    rw i (walked_none (rw c.items.ensures at c.call.ensures))

pub form-returns-in-If-default-default-None : goal.form-returns-in-If-default-default-None
form-returns-in-If-default-default-None t c =
    let i : statement_form_of c.args.form.now
    ≡ If (expression_of c.in-If-default-default-None.e) (statement_of c.in-If-default-default-None.a) NoElse =
    search (rules, folds.the_lemmas) in
    rw i (walked_else_none (walked_first c.expression.ensures
    (rw c.get.ensures at c.statement.ensures)))

pub form-returns-in-If-default-default-Some : goal.form-returns-in-If-default-default-Some
form-returns-in-If-default-default-Some t c =
    let i : statement_form_of c.args.form.now
    ≡ If (expression_of c.in-If-default-default-Some.e) (statement_of c.in-If-default-default-Some.a)
    (Else (statement_of c.in-If-default-default-Some.b)) = search (rules, folds.the_lemmas) in
    let g1 : c.get-in-If-default-default-Some.result.now ≡ c.in-If-default-default-Some.a = search rules in
    let g2 : c.get-in-If-default-default-Some-2.result.now ≡ c.in-If-default-default-Some.b = search rules in
    let e1 = subst (λ z. WalksStatement c.args.self.now c.statement-in-If-default-default-Some.new.self
    c.expression-in-If-default-default-Some.new.self c.statement-in-If-default-default-Some.new.into
    (statement_of z)) g1 c.statement-in-If-default-default-Some.ensures in
    let e2 = subst (λ z. WalksStatement c.statement-in-If-default-default-Some.new.self
    c.statement-in-If-default-default-Some-2.new.self c.statement-in-If-default-default-Some.new.into
    c.statement-in-If-default-default-Some-2.new.into (statement_of z)) g2
    c.statement-in-If-default-default-Some-2.ensures in
    rw i (walked_first c.expression-in-If-default-default-Some.ensures (walked_both e1 e2))

pub form-returns-in-While : goal.form-returns-in-While
form-returns-in-While t c =
    let i : statement_form_of c.args.form.now ≡ While (expression_of c.in-While.e) (statement_of c.in-While.s) =
    search (rules, folds.the_lemmas) in
    rw i (walked_first c.expression-in-While.ensures (rw c.get-in-While.ensures at c.statement-in-While.ensures))

pub form-returns-in-Repeat : goal.form-returns-in-Repeat
form-returns-in-Repeat t c =
    let i : statement_form_of c.args.form.now ≡ Repeat (statement_of c.in-Repeat.s) (expression_of c.in-Repeat.e) =
    search (rules, folds.the_lemmas) in
    rw i (walked_first c.expression-in-Repeat.ensures (rw c.get-in-Repeat.ensures at c.statement-in-Repeat.ensures))

pub form-returns-in-For : goal.form-returns-in-For
form-returns-in-For t c =
    let i : statement_form_of c.args.form.now
    ≡ For c.in-For.variable c.in-For._at (expression_of c.in-For.from) c.in-For._down (expression_of c.in-For.to)
    (statement_of c.in-For.body) = search (rules, folds.the_lemmas) in
    rw i (walked_first c.add_target.ensures (walked_first c.expression-in-For.ensures
    (walked_first c.expression-in-For-2.ensures (rw c.get-in-For.ensures at c.statement-in-For.ensures))))

pub form-returns-in-Case : goal.form-returns-in-Case
form-returns-in-Case t c =
    let i : statement_form_of c.args.form.now ≡ Case (expression_of c.in-Case.e) (arms (map arm_of c.in-Case.choices)) =
    search (rules, folds.the_lemmas) in
    rw i (walked_first c.expression-in-Case.ensures (rw c.items-in-Case.ensures at c.choices.ensures))

pub form-returns-in-Parallel : goal.form-returns-in-Parallel
form-returns-in-Parallel t c =
    let i : statement_form_of c.args.form.now ≡ Parallel (statements (map statement_of c.in-Parallel.ss)) =
    search (rules, folds.the_lemmas) in
    let e1 = rw c.items-in-Parallel.ensures at c.statements-in-Parallel.ensures in
    rw i (walked_first (splits_add c.args.into.now
    (bare_statements (statements (map statement_of c.in-Parallel.ss)))) (walked_last e1 c.stop.ensures))

pub form-returns-in-Forall : goal.form-returns-in-Forall
form-returns-in-Forall t c =
    let i : statement_form_of c.args.form.now
    ≡ Forall c.in-Forall.index (expression_of c.in-Forall.from) (expression_of c.in-Forall.to)
    (statement_of c.in-Forall.body) = search (rules, folds.the_lemmas) in
    let e1 = rw c.get-in-Forall.ensures at c.element.ensures in
    rw i (walked_first (spreads_add c.args.into.now c.in-Forall.index
    (bare_statement (statement_of c.in-Forall.body)))
    (walked_first c.expression-in-Forall.ensures
    (walked_first c.expression-in-Forall-2.ensures (walked_last e1 c.stop-in-Forall.ensures))))

pub form-returns-in-Assume : goal.form-returns-in-Assume
form-returns-in-Assume t c =
    let i : statement_form_of c.args.form.now ≡ Assume (expression_of c.in-Assume.e) =
    search (rules, folds.the_lemmas) in
    rw i (walked_none c.expression-in-Assume.ensures)

pub form-returns-in-ReadValue : goal.form-returns-in-ReadValue
form-returns-in-ReadValue t c =
    let i : statement_form_of c.args.form.now ≡ ReadValue (variable_of c.in-ReadValue.v) =
    search (rules, folds.the_lemmas) in
    rw i (walked_none c.read_value.ensures)

pub form-returns-in-ReadLine : goal.form-returns-in-ReadLine
form-returns-in-ReadLine t c =
    let i : statement_form_of c.args.form.now ≡ ReadLine = search (rules, folds.the_lemmas) in
    rw i (walked_none c.read_line.ensures)

pub form-returns-in-WriteValue : goal.form-returns-in-WriteValue
form-returns-in-WriteValue t c =
    let i : statement_form_of c.args.form.now
    ≡ WriteValue (expression_of c.in-WriteValue.e) (width_of c.in-WriteValue.w) =
    search (rules, folds.the_lemmas) in
    rw i (walked_none c.write_value.ensures)

pub form-returns-in-WriteText : goal.form-returns-in-WriteText
form-returns-in-WriteText t c =
    let i : statement_form_of c.args.form.now ≡ WriteText c.in-WriteText._text (width_of c.in-WriteText.w) =
    search (rules, folds.the_lemmas) in
    rw i (walked_none (c.write_text.ensures c.in-WriteText._text))

pub form-returns-in-WriteLine : goal.form-returns-in-WriteLine
form-returns-in-WriteLine t c =
    let i : statement_form_of c.args.form.now ≡ WriteLine = search (rules, folds.the_lemmas) in
    rw i (walked_none c.write_line.ensures)

pub form-returns-in-Open : goal.form-returns-in-Open
form-returns-in-Open t c =
    let i : statement_form_of c.args.form.now ≡ Open (variable_of c.in-Open.v) = search (rules, folds.the_lemmas) in
    rw i (walked_none c.open.ensures)

pub form-returns-in-Send : goal.form-returns-in-Send
form-returns-in-Send t c =
    let i : statement_form_of c.args.form.now ≡ Send (expression_of c.in-Send.c) (expression_of c.in-Send.e) =
    search (rules, folds.the_lemmas) in
    rw i (walked_none c.send.ensures)

pub form-returns-in-Receive : goal.form-returns-in-Receive
form-returns-in-Receive t c =
    let i : statement_form_of c.args.form.now ≡ Receive (expression_of c.in-Receive.c) (variable_of c.in-Receive.v) =
    search (rules, folds.the_lemmas) in
    rw i (walked_none c.receive.ensures)

pub form-returns-in-Sequence : goal.form-returns-in-Sequence
form-returns-in-Sequence t c =
    let i : statement_form_of c.args.form.now ≡ Sequence (statements (map statement_of c.in-Sequence.ss)) =
    search (rules, folds.the_lemmas) in
    rw i (rw c.items-in-Sequence.ensures at c.statements.ensures)

pub form-returns-in-SendEach : goal.form-returns-in-SendEach
form-returns-in-SendEach t c =
    let i : statement_form_of c.args.form.now
    ≡ Sequence (sends c.in-SendEach.number c.in-SendEach._at (expression_of c.in-SendEach.channel)
    (map expression_of c.in-SendEach.values)) = search (rules, folds.the_lemmas) in
    rw i (rw c.items-in-SendEach.ensures at (c.sends.ensures c.in-SendEach._at))

pub form-returns-in-ReceiveEach : goal.form-returns-in-ReceiveEach
form-returns-in-ReceiveEach t c =
    let i : statement_form_of c.args.form.now
    ≡ Sequence (receives c.in-ReceiveEach.number c.in-ReceiveEach._at (expression_of c.in-ReceiveEach.channel)
    (map variable_of c.in-ReceiveEach.variables)) = search (rules, folds.the_lemmas) in
    rw i (rw c.items-in-ReceiveEach.ensures at (c.receives.ensures c.in-ReceiveEach._at))

pub statements-loop-s-preserved : goal.statements-loop-s-preserved
statements-loop-s-preserved t c v z f =
    let on = statements_on c.args.ss.now c.loop-s.s-index c.s-item.result c.loop-s-test.true c.s-item.is in
    c.loop-s.invariant v z (rw on (walked_both c.statement.ensures f))

pub statements-returns : goal.statements-returns
statements-returns t c = c.loop-s.invariant c.loop-s.self c.loop-s.into
    (rw (statements_end c.args.ss.now c.loop-s.s-index c.loop-s-test.false)
    (walked_no_statements c.loop-s.self c.loop-s.into))

pub choices-loop-arm-preserved : goal.choices-loop-arm-preserved
choices-loop-arm-preserved t c v z f =
    let on = arms_on c.args.choices.now c.loop-arm.arm-index c.arm-item.result c.loop-arm-test.true c.arm-item.is in
    c.loop-arm.invariant v z (rw on (walked_both c.statement.ensures f))

pub choices-returns : goal.choices-returns
choices-returns t c = c.loop-arm.invariant c.loop-arm.self c.loop-arm.into
    (rw (arms_end c.args.choices.now c.loop-arm.arm-index c.loop-arm-test.false)
    (walked_no_statements c.loop-arm.self c.loop-arm.into))

pub element-returns : goal.element-returns
element-returns t c = element_walked c.args.index (statement_of c.args.s.now) c.new-inner.ensures c.statement.ensures
    c.forget.ensures.targets c.forget.ensures.expressions c.forget.ensures.calls c.forget.ensures.stops
    c.forget.ensures.lost c.merge.ensures

pub statement-returns : goal.statement-returns
statement-returns t c =
    let i = statement_is c.args.s.now in
    rw i (statement_walked (out-Stmt c.args.s.now).number (out-Stmt c.args.s.now).at
    (statement_form_of (out-Stmt c.args.s.now).form) c.keep.new.self.is_lost c.new-mine.ensures c.form.ensures
    c.merge.ensures c.keep.ensures)
