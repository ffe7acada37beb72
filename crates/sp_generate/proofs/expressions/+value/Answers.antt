use Rattle.std.proofs.Common.{rules, ◌≡◌, ◌+◌, [], ◌∷◌, ◌++◌, ◌∙◌, ℕ, ap, map, drop, refl, sym}
use Rattle.sp_tree.specs.declared.checked.Expr.{out-Expr, fold_out-Expr}
use Rattle.sp_tree.specs.declared.checked.ExprForm as ast_f
use Rattle.sp_tree.specs.declared.checked.Var.{out-Var, fold_out-Var}
use Rattle.sp_tree.specs.PlainChecked.{ExpressionAt, Read, Unary, Binary, Standard, Entire, Select, Whole}
use Rattle.sp_tree.specs.PlainChecked.{Field}
use Rattle.sp_tree.specs.CheckedOf.{expression_of, expression_form_of, variable_of, selectors, selector_of, actuals}
use Rattle.sp_tree.specs.CheckedOf.{actual_of, expressions}
use Rattle.sp_tree.specs.Bare.{bare_expression, bare_variable, bare_selectors, bare_actuals}
use Rattle.sp_code.specs.declared.instr.Instr.{Instr}
use Rattle.sp_code.specs.Scopes.{selected_type}
use Rattle.sp_code.specs.TreeCode.{value_code, var_code, selectors_code, actuals_code, addr_code}
use Rattle.sp_generate.specs.Views.{plain_program, scopes}
use Rattle.sp_varsets.proofs.AddedSets.{selectors_on, selectors_end, actuals_on, actuals_end}
use Rattle.sp_generate.proofs.PartCode.{select_code, select_type, pass_code}
use Rattle.sp_base.proofs.Additions.{joined, goes_on, ends}
use Rattle.sp_generate.proofs.expressions.+value.Goals as goal

pub put_value-returns : goal.put_value-returns
put_value-returns t c =
    let e = out-Expr c.args.e.now in
    let i : expression_of c.args.e.now ≡ ExpressionAt e.at e.kind (expression_form_of e.form) =
    search (rules, fold_out-Expr) in
    rw i c.put_form.ensures

pub put_boxed-returns : goal.put_boxed-returns
put_boxed-returns t c = rw c.get.ensures at c.put_value.ensures

pub put_form-returns-in-Read : goal.put_form-returns-in-Read
put_form-returns-in-Read t c k =
    let p = plain_program c.args.g.now in
    let sc = scopes c.args.sc.now in
    let i : expression_form_of c.args.form.now ≡ Read (variable_of c.in-Read.v) = search (rules, ast_f.the_lemmas) in
    let b = c.put-in-Read.ensures k in
    let a = c.put_var.ensures.code b.0 in
    rw i (
      a.0,
      joined c.args.code.now.items.items (var_code p sc (bare_variable (variable_of c.in-Read.v))) _ a.1
          (b.1 ∙ ap (λ (x : Instr). c.put_var.new.code.items.items ++ x ∷ []) c.read_instr.ensures) refl,
    )

pub put_form-returns-in-Unary : goal.put_form-returns-in-Unary
put_form-returns-in-Unary t c k =
    let i : expression_form_of c.args.form.now ≡ Unary c.in-Unary.op (expression_of c.in-Unary.a) =
    search (rules, ast_f.the_lemmas) in
    let b = c.put_unary.ensures k in
    let a = c.put_boxed.ensures b.0 in
    rw i (a.0, joined c.args.code.now.items.items _ _ a.1 b.1 refl)

pub put_form-returns-in-Binary : goal.put_form-returns-in-Binary
put_form-returns-in-Binary t c k =
    let p = plain_program c.args.g.now in
    let sc = scopes c.args.sc.now in
    let i : expression_form_of c.args.form.now
    ≡ Binary c.in-Binary.op (expression_of c.in-Binary.a) (expression_of c.in-Binary.b) =
    search (rules, ast_f.the_lemmas) in
    let va = value_code p sc (bare_expression (expression_of c.in-Binary.a)) in
    let vb = value_code p sc (bare_expression (expression_of c.in-Binary.b)) in
    let x = c.put-in-Binary.ensures k in
    let b = c.put_boxed-in-Binary-2.ensures x.0 in
    let a = c.put_boxed-in-Binary.ensures b.0 in
    rw i (
      a.0,
      joined c.args.code.now.items.items va _ a.1 (joined c.put_boxed-in-Binary.new.code.items.items vb _ b.1
          (x.1 ∙ ap (λ (x : Instr). c.put_boxed-in-Binary-2.new.code.items.items ++ x
          ∷ []) c.binary_instr.ensures) refl) refl,
    )

pub put_form-returns-in-Standard : goal.put_form-returns-in-Standard
put_form-returns-in-Standard t c =
    let i : expression_form_of c.args.form.now
    ≡ Standard c.in-Standard.f (expressions (map expression_of c.in-Standard.args)) =
    search (rules, ast_f.the_lemmas) in
    rw i c.put_applied.ensures

pub put_call-returns : goal.put_call-returns
put_call-returns t c k =
    let b = c.put_found.ensures _ c.call_instr.ensures k in
    let a = c.put_actuals.ensures b.0 in
    (a.0, joined c.args.code.now.items.items _ _ a.1 b.1 refl)

pub put_actuals-loop-a-init : goal.put_actuals-loop-a-init
put_actuals-loop-a-init t c k = (k, refl)

pub put_actuals-loop-a-preserved : goal.put_actuals-loop-a-preserved
put_actuals-loop-a-preserved t c k =
    let p = plain_program c.args.g.now in
    let sc = scopes c.args.sc.now in
    let rest = actuals (map actual_of (drop (c.loop-a.a-index + 1) c.args.args.now)) in
    let on = rw c.items-a-items.ensures at (actuals_on c.items-a-items.result.now c.loop-a.a-index c.a-item.result
    c.loop-a-test.true c.a-item.is) in
    let b = c.put_actual.ensures k in
    let inv = c.loop-a.invariant b.0 in (
      inv.0,
      goes_on c.loop-a.code.items.items _ (actuals_code p sc (bare_actuals rest)) inv.1 b.1
          (pass_code p sc [] (actual_of c.a-item.result) rest ∙ (λ j. actuals_code p sc (bare_actuals (sym on j)))),
    )

pub put_actuals-returns : goal.put_actuals-returns
put_actuals-returns t c k =
    let p = plain_program c.args.g.now in
    let sc = scopes c.args.sc.now in
    let end = rw c.items-a-items.ensures at (actuals_end c.items-a-items.result.now c.loop-a.a-index
    c.loop-a-test.false) in
    let inv = c.loop-a.invariant k in
    (inv.0, ends c.loop-a.code.items.items inv.1 (λ j. actuals_code p sc (bare_actuals (end j))))

pub put_selectors-loop-s-preserved : goal.put_selectors-loop-s-preserved
put_selectors-loop-s-preserved t c =
    let p = plain_program c.args.g.now in
    let sc = scopes c.args.sc.now in
    let one = selector_of c.s-item.result in
    let rest = selectors (map selector_of (drop (c.loop-s.s-index + 1) c.args.ss.now)) in
    let on = rw c.items-s-items.ensures at (selectors_on c.items-s-items.result.now c.loop-s.s-index c.s-item.result
    c.loop-s-test.true c.s-item.is) in
    let step = (λ j. selectors_code p sc c.loop-s.k (bare_selectors (Select one Whole))
    ++ selectors_code p sc (c.put_selector-k.ensures.kind j) (bare_selectors rest))
    ∙ select_code p sc [] c.loop-s.k one rest
    ∙ (λ j. selectors_code p sc c.loop-s.k (bare_selectors (sym on j))) in (
      λ k. let b = c.put_selector-k.ensures.code k in
          let inv = c.loop-s.invariant.0 b.0 in (
            inv.0,
            goes_on c.loop-s.code.items.items _ (selectors_code p sc c.put_selector-k.result
                (bare_selectors rest)) inv.1 b.1 step,
          ),
      (λ j. selected_type p (c.put_selector-k.ensures.kind j) (bare_selectors rest))
          ∙ select_type p c.loop-s.k one rest
          ∙ (λ j. selected_type p c.loop-s.k (bare_selectors (sym on j)))
          ∙ c.loop-s.invariant.1,
    )

pub put_selectors-returns-clause-code : goal.put_selectors-returns-clause-code
put_selectors-returns-clause-code t c k =
    let p = plain_program c.args.g.now in
    let sc = scopes c.args.sc.now in
    let end = rw c.items-s-items.ensures at (selectors_end c.items-s-items.result.now c.loop-s.s-index
    c.loop-s-test.false) in
    let inv = c.loop-s.invariant.0 k in
    (inv.0, ends c.loop-s.code.items.items inv.1 (λ j. selectors_code p sc c.loop-s.k (bare_selectors (end j))))

pub put_selectors-returns-clause-kind : goal.put_selectors-returns-clause-kind
put_selectors-returns-clause-kind t c =
    let p = plain_program c.args.g.now in
    let sc = scopes c.args.sc.now in
    let end = rw c.items-s-items.ensures at (selectors_end c.items-s-items.result.now c.loop-s.s-index
    c.loop-s-test.false) in
    (λ j. selected_type p c.loop-s.k (bare_selectors (sym end j))) ∙ c.loop-s.invariant.1

pub put_var-returns-clause-code : goal.put_var-returns-clause-code
put_var-returns-clause-code t c k =
    let v = out-Var c.args.v.now in
    let p = plain_program c.args.g.now in
    let sc = scopes c.args.sc.now in
    let i : variable_of c.args.v.now ≡ Entire v.variable v.at (selectors (map selector_of v.selectors)) =
    search (rules, fold_out-Var) in
    let b = c.put_selectors.ensures.code k in
    let a = c.put_found.ensures _ c.address.ensures b.0 in
    rw i (
      a.0,
      joined c.args.code.now.items.items (addr_code p sc v.variable ∷ []) _ a.1 b.1
          (ap (λ (k : ℕ). addr_code p sc v.variable ∷ selectors_code p sc k
          (bare_selectors (selectors (map selector_of v.selectors)))) c.variable_kind.ensures),
    )

pub put_var-returns-clause-kind : goal.put_var-returns-clause-kind
put_var-returns-clause-kind t c =
    let v = out-Var c.args.v.now in
    let i : variable_of c.args.v.now ≡ Entire v.variable v.at (selectors (map selector_of v.selectors)) =
    search (rules, fold_out-Var) in
    rw i (rw c.variable_kind.ensures at c.put_selectors.ensures.kind)

pub put_selector-returns-in-Field-clause-code : goal.put_selector-returns-in-Field-clause-code
put_selector-returns-in-Field-clause-code t c =
    let i : selector_of c.args.s.now ≡ Field c.in-Field.f = search (rules, ast_f.the_lemmas) in
    rw i (c.put_found.ensures _ c.field_instr.ensures)
