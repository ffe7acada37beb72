use Rattle.std.proofs.Common.{rules, ◌≡◌, [], ◌∷◌, ◌++◌, ◌∙◌, ap, refl}
use Rattle.sp_tree.specs.declared.checked.Expr.{out-Expr, fold_out-Expr}
use Rattle.sp_tree.specs.PlainChecked.{ExpressionAt}
use Rattle.sp_tree.specs.Bare.{bare_form, bare_variable}
use Rattle.sp_tree.specs.CheckedOf.{expression_of, expression_form_of, variable_of}
use Rattle.sp_code.specs.declared.instr.Instr.{Instr}
use Rattle.sp_code.specs.Scopes.{sort}
use Rattle.sp_code.specs.TreeCode.{var_code, right_code}
use Rattle.sp_base.proofs.Additions.{joined}
use Rattle.sp_generate.specs.Views.{plain_program, scopes}
use Rattle.sp_generate.proofs.simple.put_assign.Goals as goal

pub returns : goal.returns
returns c k =
    let p = plain_program c.args.g.now in
    let sc = scopes c.args.sc.now in
    let e = out-Expr c.args.e.now in
    let i : expression_of c.args.e.now ≡ ExpressionAt e.at e.kind (expression_form_of e.form) =
    search (rules, fold_out-Expr) in
    let va = var_code p sc (bare_variable (variable_of c.args.v.now)) in
    let ra = right_code p sc e.kind (sort p e.kind) (bare_form (expression_form_of e.form)) in
    let x = c.put.ensures k in
    let b = c.put_right.ensures x.0 in
    let a = c.put_var.ensures.code b.0 in
    rw i (
      a.0,
      joined c.args.code.now.items.items va _ a.1 (joined c.put_var.new.code.items.items ra _ (rw i at b.1)
          (x.1 ∙ ap (λ (x : Instr). c.put_right.new.code.items.items ++ x ∷ []) c.assign_instr.ensures) refl) refl,
    )
