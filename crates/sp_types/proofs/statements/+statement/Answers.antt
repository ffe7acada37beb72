use Rattle.std.proofs.Common.{arith, ◌∙◌}
use Rattle.std.proofs.lemmas.Grind.{common_steps}
use Rattle.sp_tree.specs.NamedOf.{expression_of}
use Rattle.sp_tree.specs.PlainChecked as plain
use Rattle.sp_types.specs.declared.rules.Wanted.TheVariants as wanted
use Rattle.sp_types.specs.CheckedTree.{checked_expression}
use Rattle.sp_types.specs.Expectations.{wanted_rule}
use Rattle.sp_types.specs.Firsts.{expression_first}
use Rattle.sp_types.specs.Kinds.{expression_kind}
use Rattle.sp_types.specs.TypeFirst.{at_node}
use Rattle.sp_types.specs.TypeWalk.{place}
use Rattle.sp_types.proofs.statements.+statement.Goals as goal

pub type_statements-loop-s-preserved : goal.type_statements-loop-s-preserved
type_statements-loop-s-preserved t c = grind (arith, common_steps)

pub type_statements-returns-clause-tree : goal.type_statements-returns-clause-tree
type_statements-returns-clause-tree t c = grind (arith, common_steps)

pub type_statements-returns-clause-after : goal.type_statements-returns-clause-after
type_statements-returns-clause-after t c = grind (arith, common_steps)

pub type_arms-loop-x-preserved : goal.type_arms-loop-x-preserved
type_arms-loop-x-preserved t c = grind (arith, common_steps)

pub type_arms-returns-clause-tree : goal.type_arms-returns-clause-tree
type_arms-returns-clause-tree t c = grind (arith, common_steps)

pub type_arms-returns-clause-after : goal.type_arms-returns-clause-after
type_arms-returns-clause-after t c = grind (arith, common_steps)

pub type_branches-returns-clause-tree : goal.type_branches-returns-clause-tree
type_branches-returns-clause-tree t c = grind (arith, common_steps)

pub type_branches-returns-clause-after : goal.type_branches-returns-clause-after
type_branches-returns-clause-after t c = grind (arith, common_steps)

pub type_repeat-returns-clause-tree : goal.type_repeat-returns-clause-tree
type_repeat-returns-clause-tree t c k =
    let e = expression_of c.args.e in
    let (before, same_first, form) = c.repeat_form.ensures k in
    let (kept, condition_first, (condition, kind)) = c.type_wanted-e.ensures before in
    let (from, body_first, body) = c.type_sequence-s.ensures.tree kept in
    let after = c.type_sequence-s.ensures.after kept in (
      from,
      same_first ∙ condition_first
          ∙ (λ j. at_node (wanted_rule (after j) wanted.Condition (place e) (expression_kind (after j) e))
          (expression_first (after j) e (body_first j))),
      form ∙ (λ j. plain.Repeat (body j) ((condition ∙ (λ i. checked_expression (after i) e)) j)),
    )
