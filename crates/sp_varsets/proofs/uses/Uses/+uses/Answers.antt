use Rattle.std.proofs.Common.{rules, ◌≡◌, ◌+◌, [], length, map, drop, arith}
use Rattle.std.proofs.lemmas.List.{nil_from_length}
use Rattle.sp_tree.specs.declared.checked.Expr.{out-Expr, fold_out-Expr}
use Rattle.sp_tree.specs.declared.checked.ExprForm as ast_f
use Rattle.sp_tree.specs.declared.checked.Var.{out-Var, fold_out-Var}
use Rattle.sp_tree.specs.PlainChecked.{ExpressionAt, Number, Read, Unary, Binary, Apply, Standard, Entire, Index, Field}
use Rattle.sp_tree.specs.PlainChecked.{ByValue}
use Rattle.sp_tree.specs.PlainChecked.{ByReference}
use Rattle.sp_tree.specs.Bare.{bare_actuals}
use Rattle.sp_tree.specs.CheckedOf.{expression_of, expression_form_of, variable_of, selector_of, selectors, actual_of}
use Rattle.sp_tree.specs.CheckedOf.{actuals, expressions}
use Rattle.sp_varsets.proofs.AddedSets.{adds_nothing, adds_then, selectors_on, selectors_end, actuals_on, actuals_end}
use Rattle.sp_varsets.proofs.AddedSets.{select_adds, pass_adds}
use Rattle.sp_varsets.proofs.uses.Uses.+uses.Goals as goal

pub form-returns-in-Binary : goal.form-returns-in-Binary
form-returns-in-Binary t c =
    let i : expression_form_of c.args.form.now
    ≡ Binary c.in-Binary._op (expression_of c.in-Binary.a) (expression_of c.in-Binary.b) =
    search (rules, ast_f.the_lemmas) in
    let e1 = rw c.get-in-Binary.ensures at c.expression-in-Binary.ensures in
    let e2 = rw c.get-in-Binary-2.ensures at c.expression-in-Binary-2.ensures in
    rw i (adds_then e1 e2)

pub form-returns-in-Call : goal.form-returns-in-Call
form-returns-in-Call t c =
    let i : expression_form_of c.args.form.now
    ≡ Apply c.in-Call.f c.in-Call._at (actuals (map actual_of c.in-Call.args)) = search (rules, ast_f.the_lemmas) in
    let e = rw c.items.ensures at c.actuals.ensures in
    rw i (adds_then (c.add_call.ensures (bare_actuals (actuals (map actual_of c.in-Call.args)))) e)

pub form-returns-in-None : goal.form-returns-in-None
form-returns-in-None t c =
    let i : expression_form_of c.args.form.now
    ≡ Standard c.in-Standard._f (expressions (map expression_of c.in-Standard.args)) =
    search (rules, ast_f.the_lemmas) in
    let l : length c.in-Standard.args ≡ 0 = first_of (search rules, grind (arith, rules)) in
    let xs : c.in-Standard.args ≡ [] = nil_from_length c.in-Standard.args l in
    rw (i, xs) c.add_seen.ensures

pub read-returns : goal.read-returns
read-returns t c =
    let v = out-Var c.args.v.now in
    let i : variable_of c.args.v.now ≡ Entire v.variable v.at (selectors (map selector_of v.selectors)) =
    search (rules, fold_out-Var) in
    let e = rw c.items.ensures at c.selectors.ensures in
    rw i (adds_then c.add_seen.ensures e)

pub target-returns : goal.target-returns
target-returns t c =
    let v = out-Var c.args.v.now in
    let i : variable_of c.args.v.now ≡ Entire v.variable v.at (selectors (map selector_of v.selectors)) =
    search (rules, fold_out-Var) in
    let e = rw c.items.ensures at c.selectors.ensures in
    rw i (adds_then c.add_target.ensures e)

pub actuals-loop-a-preserved : goal.actuals-loop-a-preserved
actuals-loop-a-preserved t c z f =
    let on = actuals_on c.args.args.now c.loop-a.a-index c.a-item.result c.loop-a-test.true c.a-item.is in
    c.loop-a.invariant z (rw on (pass_adds c.loop-a.self c.actual.new.self z (actual_of c.a-item.result)
    (actuals (map actual_of (drop (c.loop-a.a-index + 1) c.args.args.now))) c.actual.ensures f))

pub actuals-returns : goal.actuals-returns
actuals-returns t c = c.loop-a.invariant c.loop-a.self
    (rw (actuals_end c.args.args.now c.loop-a.a-index c.loop-a-test.false)
    (adds_nothing c.loop-a.self (λ u. ⊥) (λ u h. h)))

pub selectors-loop-s-preserved : goal.selectors-loop-s-preserved
selectors-loop-s-preserved t c z f =
    let on = selectors_on c.args.ss.now c.loop-s.s-index c.s-item.result c.loop-s-test.true c.s-item.is in
    c.loop-s.invariant z (rw on (select_adds c.loop-s.self c.selector.new.self z (selector_of c.s-item.result)
    (selectors (map selector_of (drop (c.loop-s.s-index + 1) c.args.ss.now))) c.selector.ensures f))

pub selectors-returns : goal.selectors-returns
selectors-returns t c = c.loop-s.invariant c.loop-s.self
    (rw (selectors_end c.args.ss.now c.loop-s.s-index c.loop-s-test.false)
    (adds_nothing c.loop-s.self (λ u. ⊥) (λ u h. h)))

pub expression-returns : goal.expression-returns
expression-returns t c =
    let e = out-Expr c.args.e.now in
    let i : expression_of c.args.e.now ≡ ExpressionAt e.at e.kind (expression_form_of e.form) =
    search (rules, fold_out-Expr) in
    rw i c.form.ensures

pub form-returns-in-Read : goal.form-returns-in-Read
form-returns-in-Read t c =
    let i : expression_form_of c.args.form.now ≡ Read (variable_of c.in-Read.v) = search (rules, ast_f.the_lemmas) in
    rw i c.read.ensures

pub form-returns-in-Unary : goal.form-returns-in-Unary
form-returns-in-Unary t c =
    let i : expression_form_of c.args.form.now ≡ Unary c.in-Unary._op (expression_of c.in-Unary.a) =
    search (rules, ast_f.the_lemmas) in
    rw i (rw c.get.ensures at c.expression.ensures)

pub form-returns-in-Number : goal.form-returns-in-Number
form-returns-in-Number t c =
    let i : expression_form_of c.args.form.now ≡ Number c.in-Number.field-0 = search (rules, ast_f.the_lemmas) in
    rw i (adds_nothing c.args.self.now (λ u. ⊥) (λ u h. h))

pub selector-returns-in-Index : goal.selector-returns-in-Index
selector-returns-in-Index t c =
    let i : selector_of c.args.s.now ≡ Index (expression_of c.in-Index.e) = search (rules, ast_f.the_lemmas) in
    rw i c.expression.ensures

pub selector-returns-in-Field : goal.selector-returns-in-Field
selector-returns-in-Field t c =
    let i : selector_of c.args.s.now ≡ Field c.in-Field.field-0 = search (rules, ast_f.the_lemmas) in
    rw i (adds_nothing c.args.self.now (λ u. ⊥) (λ u h. h))

pub actual-returns-in-Value : goal.actual-returns-in-Value
actual-returns-in-Value t c =
    let i : actual_of c.args.a.now ≡ ByValue (expression_of c.in-Value.e) = search (rules, ast_f.the_lemmas) in
    rw i c.expression.ensures

pub actual-returns-in-Reference : goal.actual-returns-in-Reference
actual-returns-in-Reference t c =
    let i : actual_of c.args.a.now ≡ ByReference (variable_of c.in-Reference.v) = search (rules, ast_f.the_lemmas) in
    rw i c.target.ensures
