use Rattle.std.proofs.Common.{◌≡◌, List, arith, rules, sym, ◌∙◌}
use Rattle.std.proofs.lemmas.Grind.{common_steps}
use Rattle.sp_tree.specs.PhaseResults.{earlier_refusal}
use Rattle.sp_tree.specs.SyntaxOf.{expression_of, statement_of, arm_of}
use Rattle.sp_tree.specs.PlainSyntax.{On}
use Rattle.sp_tree.specs.declared.syntax.SynArm as SynArm
use Rattle.sp_tree.specs.NameWalk.{statement_local, index_local, local_of_index, blocks_around}
use Rattle.sp_tree.specs.NameRules.{Declares}
use Rattle.sp_tree.specs.NameFirst.{at_site}
use Rattle.sp_tree.specs.declared.meaning.Sort.TheVariants as sort
use Rattle.sp_tree.specs.NamedTree.{named_expression, named_statement, named_constants, named_arm}
use Rattle.sp_tree.specs.NamedOf as named
use Rattle.sp_tree.specs.declared.named.NamedArm as NamedArm
use Rattle.sp_tree.specs.declared.named.NamedConst.{NamedConst}
use Rattle.sp_tree.specs.declared.named.NamedStmt.{NamedStmt}
use Rattle.sp_tree.specs.PlainNamed as n
use Rattle.sp_tree.specs.Scopes.{inner_env, local_of_inner}
use Rattle.sp_scope.specs.Firsts.{expression_first, constants_first, statement_first, arm_first}
use Rattle.sp_scope.proofs.statements.+statement.Goals as goal

-- an arm, from its parts
arm_is : (a : SynArm.SynArm) → arm_of a ≡ On a.constants (statement_of a.body)
arm_is a = search (rules, SynArm.the_lemmas)

named_arm_is : (cs : List NamedConst) (body : NamedStmt)
    → named.arm_of (NamedArm.roll-NamedArm (record { constants = cs; body = body })) ≡ n.On cs (named.statement_of body)
named_arm_is cs body = search (rules, NamedArm.the_lemmas)

pub name_statements-loop-s-preserved : goal.name_statements-loop-s-preserved
name_statements-loop-s-preserved t c = grind (arith, common_steps)

pub name_arms-loop-a-preserved : goal.name_arms-loop-a-preserved
name_arms-loop-a-preserved t c = grind (arith, common_steps)

pub name_branches-loop-b-preserved : goal.name_branches-loop-b-preserved
name_branches-loop-b-preserved t c = grind (arith, common_steps)

pub name_statements-returns-clause-found : goal.name_statements-returns-clause-found
name_statements-returns-clause-found t c = grind (arith, common_steps)

pub name_statements-returns-clause-after : goal.name_statements-returns-clause-after
name_statements-returns-clause-after t c = grind (arith, common_steps)

pub name_arms-returns-clause-found : goal.name_arms-returns-clause-found
name_arms-returns-clause-found t c = grind (arith, common_steps)

pub name_arms-returns-clause-after : goal.name_arms-returns-clause-after
name_arms-returns-clause-after t c = grind (arith, common_steps)

pub name_arm-returns-clause-found : goal.name_arm-returns-clause-found
name_arm-returns-clause-found t c k =
    let around = c.args.scopes.now.around in
    let local = c.args.scopes.now.local in
    let env = inner_env around local in
    let body = statement_of c.args.a.body in
    let s = c.name_statement-body.ensures.found k in
    let cs = c.name_constants-constants.ensures s.0 in
    let arm = sym (arm_is c.args.a) in (
      cs.0,
      s.1 ∙ (λ j. statement_first around local body (cs.1 j))
          ∙ (λ j. statement_first around local body
          (constants_first env (c.items.ensures j) c.args.walk.now.first))
          ∙ (λ j. arm_first around local (arm j) c.args.walk.now.first),
      named_arm_is c.name_constants-constants.result c.name_statement-body.result
          ∙ (λ j. n.On (cs.2 j) (s.2 j))
          ∙ (λ j. n.On (named_constants env (c.items.ensures j)) (named_statement around local body))
          ∙ (λ j. named_arm around local (arm j)),
    )

pub name_branches-returns-clause-found : goal.name_branches-returns-clause-found
name_branches-returns-clause-found t c = grind (arith, common_steps)

pub name_branches-returns-clause-after : goal.name_branches-returns-clause-after
name_branches-returns-clause-after t c = grind (arith, common_steps)

pub name_repeat-returns-clause-found : goal.name_repeat-returns-clause-found
name_repeat-returns-clause-found t c k =
    let e = c.name_expression-e.ensures k in
    let s = c.name_statements-ss.ensures.found e.0 in
    let a = c.name_statements-ss.ensures.after e.0 in
    let condition = e.2 ∙ (λ j. named_expression (a j) (expression_of c.args.e)) in (
      s.0,
      e.1 ∙ (λ j. expression_first (a j) (expression_of c.args.e) (s.1 j)),
      c.repeat_form.ensures ∙ (λ j. n.Repeat (named.statements (s.2 j)) (condition j)),
    )

pub name_element-returns-clause-found : goal.name_element-returns-clause-found
name_element-returns-clause-found t c k =
    let body = statement_of c.args.body in
    let x = c.args.x.now in
    let around = c.args.scopes.now.around in
    let local = c.args.scopes.now.local in
    let b = c.name_statement-body.ensures.found k in
    let d = c.declare_variable.ensures b.0 in
    let o = c.open.ensures (sym (λ j. (c.note.ensures j).is_lost) ∙ d.0) in
    let e = o.2 ∙ (λ j. inner_env (blocks_around around local)
    (local_of_inner (c.block-block.ensures j) (c.answer-answer.ensures j) local)) in
    let s = d.2 ∙ (λ j. inner_env (e j).around (index_local (e j).local x)) in
    let inside = blocks_around around local in
    let index = local_of_index local x in (
      o.0,
      b.1 ∙ (λ j. statement_first (s j).around (s j).local body (d.1 j))
          ∙ (λ j. statement_first inside index body (c.note.ensures j).first)
          ∙ (λ j. statement_first inside index body (earlier_refusal (o.1 j) (c.check_declares.ensures j)))
          ∙ (λ j. statement_first inside index body (at_site (e j) (Declares x sort.Variable) c.args.walk.now.first)),
      b.2 ∙ (λ j. named_statement (s j).around (s j).local body),
    )

pub name_element-returns-clause-after : goal.name_element-returns-clause-after
name_element-returns-clause-after t c k =
    let body = statement_of c.args.body in
    let x = c.args.x.now in
    let around = c.args.scopes.now.around in
    let local = c.args.scopes.now.local in
    let b = c.name_statement-body.ensures.found k in
    let d = c.declare_variable.ensures b.0 in
    let o = c.open.ensures (sym (λ j. (c.note.ensures j).is_lost) ∙ d.0) in
    let e = o.2 ∙ (λ j. inner_env (blocks_around around local)
    (local_of_inner (c.block-block.ensures j) (c.answer-answer.ensures j) local)) in
    let s = c.name_statement-body.ensures.after k
    ∙ (λ j. inner_env (d.2 j).around (statement_local (d.2 j).local body))
    ∙ (λ j. inner_env (e j).around (statement_local (index_local (e j).local x) body)) in
    c.leave.ensures around local.here (λ j. (s j).around)
    ∙ (λ j. inner_env around (record {
      here = local.here;
      block = c.block-block.ensures j;
      answer = c.answer-answer.ensures j;
      counts = (s j).local.counts;
    }))
