use Rattle.std.proofs.Common.{rules, ◌≡◌, [], ◌∷◌, ◌++◌, ◌∙◌, refl, arith}
use Rattle.std.proofs.lemmas.Grind.{common_steps}
use Rattle.sp_tree.specs.declared.checked.Expr.{out-Expr, fold_out-Expr}
use Rattle.sp_tree.specs.Bare.{bare_expression, bare_width}
use Rattle.sp_tree.specs.CheckedOf.{expression_of, width_of}
use Rattle.sp_code.specs.Scopes.{kind_at, kind_of, is_given}
use Rattle.sp_code.specs.TreeCode.{value_code, width_code, write_instr}
use Rattle.sp_base.proofs.Additions.{joined}
use Rattle.sp_generate.specs.Views.{plain_program, scopes}
use Rattle.sp_generate.proofs.simple.put_write.Goals as goal

pub returns : goal.returns
returns c k =
    let p = plain_program c.args.g.now in
    let sc = scopes c.args.sc.now in
    let va = value_code p sc (bare_expression (expression_of c.args.e.now)) in
    let wa = width_code p sc (bare_width (width_of c.args.w.now)) in
    let kind : (out-Expr c.args.e.now).kind ≡ kind_of (bare_expression (expression_of c.args.e.now)) =
    search (rules, fold_out-Expr) in
    let given : c.is_some.result ≡ is_given (bare_width (width_of c.args.w.now)) =
    first_of (search rules, grind (arith, common_steps)) in
    let is : c.write_instr.result ≡ write_instr (kind_at p (kind_of (bare_expression (expression_of c.args.e.now))))
    (is_given (bare_width (width_of c.args.w.now))) = c.write_instr.ensures
    ∙ (λ j. write_instr (kind_at p (kind j)) (given j)) in
    let x = c.put.ensures k in
    let b = c.put_width.ensures x.0 in
    let a = c.put_value.ensures b.0 in (
      a.0,
      joined c.args.code.now.items.items va _ a.1 (joined c.put_value.new.code.items.items wa _ b.1
          (x.1 ∙ (λ j. c.put_width.new.code.items.items ++ is j ∷ [])) refl) refl,
    )
