use Rattle.std.proofs.Common.{arith, rules, ap, sym, Some, ◌≡◌, ◌∙◌}
use Rattle.std.proofs.lemmas.Grind.{common_steps}
use Rattle.sp_tree.specs.declared.checked.Selector as checked_selector
use Rattle.sp_tree.specs.declared.named.NamedExprForm.TheFolds.{the_lemmas}
use Rattle.sp_tree.specs.declared.checked.Selector.TheVariants.{Index}
use Rattle.sp_tree.specs.NamedOf.{expression_of, expression_form_of, selector_of}
use Rattle.sp_tree.specs.CheckedOf as checked
use Rattle.sp_tree.specs.PlainChecked as plain
use Rattle.sp_tree.specs.PlainNamed as n
use Rattle.sp_tree.specs.PhaseResults.{earlier_refusal}
use Rattle.sp_types.specs.TypeRules.{index_rule, left_rule, right_rule}
use Rattle.sp_types.specs.CheckedTree.{checked_expression}
use Rattle.sp_types.specs.Expectations.{wanted_rule}
use Rattle.sp_types.specs.Kinds.{element, expression_kind}
use Rattle.sp_types.specs.TypeFirst.{at_node}
use Rattle.sp_types.specs.Firsts.{expression_first}
use Rattle.sp_types.specs.TypeWalk.{place}
use Rattle.sp_types.proofs.expressions.+expression.Goals as goal

pub type_form-returns-in-Quoted : goal.type_form-returns-in-Quoted
type_form-returns-in-Quoted t c k =
    let i : expression_form_of c.args.form ≡ n.Quoted c.in-Quoted.text = search (rules, the_lemmas) in
    rw i (c.type_text.ensures c.args.t.now k)

pub type_form-returns-in-Binary : goal.type_form-returns-in-Binary
type_form-returns-in-Binary t c k =
    let env = c.args.t.now in
    let op = c.in-Binary.op in
    let b = expression_of c.into_inner-b.result in
    let i : expression_form_of c.args.form
    ≡ n.Binary op (expression_of c.in-Binary.a) (expression_of c.in-Binary.b) = search (rules, the_lemmas) in
    let (kept, same_first, tree) = c.binary.ensures k in
    let (before, right_first, right) = c.type_wanted-right.ensures kept in
    let (from, left_first, left) = c.type_wanted-left.ensures before in
    rw i (
      from,
      same_first ∙ right_first
          ∙ (λ j. at_node (right_rule env op (place b) (left.1 j) (expression_kind env b))
          (expression_first env b (left_first j)))
          ∙ (λ j. let x = expression_of (c.into_inner-a.ensures j) in
          let y = expression_of (c.into_inner-b.ensures j) in
          at_node (right_rule env op (place y) (expression_kind env x) (expression_kind env y))
          (expression_first env y (at_node (left_rule env op (place x) (expression_kind env x))
          (expression_first env x c.args.walk.now.first)))),
      (
        tree ∙ (λ j. plain.Binary op (left.0 j) (right.0 j))
            ∙ (λ j. plain.Binary op (checked_expression env (expression_of (c.into_inner-a.ensures j)))
            (checked_expression env (expression_of (c.into_inner-b.ensures j)))),
        ap Some c.binary_gives.ensures,
      ),
    )

pub type_selector-returns-in-Index : goal.type_selector-returns-in-Index
type_selector-returns-in-Index t c k =
    let e = expression_of c.in-Index.e in
    let is : selector_of c.args.s ≡ n.Index e = search (rules, the_lemmas) in
    let at : c.in-Index.e.at ≡ place e = search (rules, the_lemmas) in
    let (kept, first, typed) = c.type_expression-e.ensures (sym (λ j. (c.note.ensures j).is_lost) ∙ k) in
    let broken = c.index_rule.ensures ∙ (λ j. index_rule c.args.t.now c.args.at c.args.kind (at j) (typed.1 j)) in
    let tree : checked.selector_of (Index c.type_expression-e.result.tree)
    ≡ plain.Index (checked.expression_of c.type_expression-e.result.tree) =
    search (rules, checked_selector.the_lemmas) in
    rw is (
      kept,
      (λ j. (c.note.ensures j).first) ∙ (λ j. earlier_refusal (first j) (broken j)),
      (tree ∙ ap plain.Index typed.0, c.element.ensures ∙ (λ j. element c.args.t.now c.args.kind (typed.1 j))),
    )

pub type_wanted-returns : goal.type_wanted-returns
type_wanted-returns t c k =
    let (kept, first, typed) = c.type_expression-e.ensures (sym (λ j. (c.note.ensures j).is_lost) ∙ k) in
    let at : c.args.e.at ≡ place (expression_of c.args.e) = search (rules, the_lemmas) in
    let broken = c.wanted_rule.ensures ∙ (λ j. wanted_rule c.args.t.now c.args.wanted (at j) (typed.1 j)) in
    (kept, (λ j. (c.note.ensures j).first) ∙ (λ j. earlier_refusal (first j) (broken j)), typed)

pub type_selectors-loop-x-preserved : goal.type_selectors-loop-x-preserved
type_selectors-loop-x-preserved t c = grind (arith, common_steps)

pub type_actuals-loop-x-preserved : goal.type_actuals-loop-x-preserved
type_actuals-loop-x-preserved t c = grind (arith, common_steps)

pub type_standard-loop-x-preserved : goal.type_standard-loop-x-preserved
type_standard-loop-x-preserved t c = grind (arith, common_steps)

pub type_selectors-returns : goal.type_selectors-returns
type_selectors-returns t c = grind (arith, common_steps)

pub type_actuals-returns : goal.type_actuals-returns
type_actuals-returns t c = grind (arith, common_steps)

pub type_standard-returns : goal.type_standard-returns
type_standard-returns t c = grind (arith, common_steps)
