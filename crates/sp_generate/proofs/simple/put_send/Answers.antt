use Rattle.std.proofs.Common.{rules, ◌≡◌, ℕ, [], ◌∷◌, ◌++◌, ◌∙◌, ap, refl}
use Rattle.sp_tree.specs.declared.checked.Expr.{out-Expr, fold_out-Expr}
use Rattle.sp_tree.specs.Bare.{bare_expression}
use Rattle.sp_tree.specs.CheckedOf.{expression_of}
use Rattle.sp_code.specs.declared.instr.Instr.TheVariants as i
use Rattle.sp_code.specs.Scopes.{kind_of}
use Rattle.sp_code.specs.TreeCode.{value_code}
use Rattle.sp_base.proofs.Additions.{joined}
use Rattle.sp_generate.specs.Views.{plain_program, scopes}
use Rattle.sp_generate.proofs.simple.put_send.Goals as goal

pub returns : goal.returns
returns c k =
    let p = plain_program c.args.g.now in
    let sc = scopes c.args.sc.now in
    let ch = value_code p sc (bare_expression (expression_of c.args.channel.now)) in
    let va = value_code p sc (bare_expression (expression_of c.args.e.now)) in
    let kind : (out-Expr c.args.e.now).kind ≡ kind_of (bare_expression (expression_of c.args.e.now)) =
    search (rules, fold_out-Expr) in
    let x = c.put.ensures k in
    let b = c.put_value-2.ensures x.0 in
    let a = c.put_value.ensures b.0 in (
      a.0,
      joined c.args.code.now.items.items ch _ a.1 (joined c.put_value.new.code.items.items va _ b.1
          (x.1 ∙ ap (λ (m : ℕ). c.put_value-2.new.code.items.items ++ i.Send m ∷ []) kind) refl) refl,
    )
