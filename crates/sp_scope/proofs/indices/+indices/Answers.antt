use Rattle.std.proofs.Common.{◌∙◌, map, arith, rules}
use Rattle.sp_tree.specs.NamedTree.{arms_indices, branches_indices}
use Rattle.sp_tree.specs.SyntaxOf.{arms, arm_of, branches, branch_of}
use Rattle.sp_tree.specs.declared.syntax.SynArm as SynArm
use Rattle.sp_tree.specs.declared.syntax.SynBranch as SynBranch
use Rattle.sp_scope.proofs.ListSteps.{item_put}
use Rattle.std.proofs.lemmas.Grind.{common_steps}
use Rattle.sp_scope.proofs.indices.+indices.Goals as goal

pub push_statements-loop-s-preserved : goal.push_statements-loop-s-preserved
push_statements-loop-s-preserved t c = grind (arith, common_steps)

pub push_arms-loop-a-preserved : goal.push_arms-loop-a-preserved
push_arms-loop-a-preserved t c h =
    let put = c.push_indices.ensures h in
    let before = c.loop-a.invariant put.0 in
    let old = c.loop-a.out.items in (
      before.0,
      put.1 ∙ before.1,
      item_put (λ xs. arms_indices c.args.block (arms (map arm_of xs))) c.args.choices.now
          c.loop-a.a-index c.a-item.result _ old c.push_indices.new.out.items _ c.loop-a-test.true c.a-item.is
          (search (rules, SynArm.the_lemmas)) put.2 before.2,
    )

pub push_branches-loop-b-preserved : goal.push_branches-loop-b-preserved
push_branches-loop-b-preserved t c h =
    let put = c.push_statements.ensures h in
    let before = c.loop-b.invariant put.0 in
    let old = c.loop-b.out.items in (
      before.0,
      put.1 ∙ before.1,
      item_put (λ xs. branches_indices c.args.block (branches (map branch_of xs))) c.args.bs.now
          c.loop-b.b-index c.b-item.result _ old c.push_statements.new.out.items _ c.loop-b-test.true c.b-item.is
          (search (rules, SynBranch.the_lemmas)) put.2 before.2,
    )

pub push_statements-returns : goal.push_statements-returns
push_statements-returns t c = grind (arith, common_steps)

pub push_arms-returns : goal.push_arms-returns
push_arms-returns t c = grind (arith, common_steps)

pub push_branches-returns : goal.push_branches-returns
push_branches-returns t c = grind (arith, common_steps)
