-- That the indices of the foralls in a statement have one number after the other, where no rule of names is broken.
use Rattle.std.proofs.Common.{◌≡◌, refl, ap, sym, ◌∙◌, subst, ℕ, suc, List, [], Option, Some, None, arith}
use Rattle.sp_tree.specs.declared.checked.Role.TheVariants as role
use Rattle.sp_tree.specs.declared.meaning.Meaning.{Meaning}
use Rattle.sp_tree.specs.declared.meaning.Meaning.TheVariants as meaning
use Rattle.sp_tree.specs.NameFirst.{both_lists, all_at}
use Rattle.sp_tree.specs.Scopes as names
use Rattle.sp_tree.specs.Scopes.{find}
use Rattle.sp_tree.specs.NameWalk as w
use Rattle.sp_tree.specs.NamedOf as of_
use Rattle.sp_tree.specs.PlainNamed as n
use Rattle.sp_tree.specs.NamedTree.{named_arguments}
use Rattle.sp_front.proofs.NoBreachInParts.{none_in_parts}
use Rattle.sp_tree.specs.declared.meaning.Sort.TheVariants as sort
use Rattle.sp_tree.specs.NameRules.{Declares, Loops}
use Rattle.sp_tree.specs.Scopes.{Local, inner_env, local_of_inner, variable, next_variable}
use Rattle.sp_tree.specs.NameWalk.{statement_local, statements_local, arms_local}
use Rattle.sp_tree.specs.NameWalk.{branches_local, form_local, local_of_index, blocks_around}
use Rattle.sp_tree.specs.NamedTree.{procedure_named, named_statement, named_statement_form, named_statements}
use Rattle.sp_tree.specs.NamedTree.{named_arms, named_branches}
use Rattle.sp_tree.specs.PlainSyntax.{Statement, Does, Form, Empty, Assign, Call, Sequence, If, While, Repeat, Case}
use Rattle.sp_tree.specs.PlainSyntax.{For, Parallel, Forall, Assume, NoElse, Else, Statements, NoStatement, AndThen, On}
use Rattle.sp_tree.specs.PlainSyntax.{Arms, NoArm, Or, Branches, NoBranch, Beside}
use Rattle.sp_front.proofs.DeclarationNumbers.{room_at}
use Rattle.sp_front.specs.IndexNumbers.{index_after, index_after_form, index_after_all, index_after_arms}
use Rattle.sp_front.specs.IndexNumbers.{index_after_branches, IsNumbered, IsNumberedForm}
use Rattle.sp_front.specs.IndexNumbers.{AreNumbered, AreNumberedArms, AreNumberedBranches}
use Rattle.sp_front.proofs.DeclarationNumbers.{one_variable}

call_numbered : (k : ℕ) (o : Option Meaning) (args : n.Arguments) → IsNumberedForm k (procedure_named o args)
    × (index_after_form k (procedure_named o args) ≡ k)
call_numbered k None args = (tt, refl)
call_numbered k (Some (meaning.Constant j)) args = (tt, refl)
call_numbered k (Some (meaning.Kind j)) args = (tt, refl)
call_numbered k (Some (meaning.Variable y b r)) args = (tt, refl)
call_numbered k (Some (meaning.Procedure b fs)) args = (tt, refl)
call_numbered k (Some (meaning.Function b fs)) args = (tt, refl)
call_numbered k (Some (meaning.StandardFunction g)) args = (tt, refl)
call_numbered k (Some (meaning.StandardProcedure g)) args = (tt, refl)

mutual
  pub statement_numbered : (around : List names.Scope) (l : Local) (s : Statement)
      → w.statement_sites [] both_lists all_at around l s ≡ []
      → IsNumbered (next_variable l.counts) (named_statement around l s)
      × (index_after (next_variable l.counts) (named_statement around l s) ≡ next_variable (statement_local l s).counts)
  statement_numbered around l (Does at form) calm = form_numbered around l form calm

  form_numbered : (around : List names.Scope) (l : Local) (form : Form)
      → w.form_sites [] both_lists all_at around l form ≡ []
      → IsNumberedForm (next_variable l.counts) (named_statement_form around l form)
      × (index_after_form (next_variable l.counts) (named_statement_form around l form)
      ≡ next_variable (form_local l form).counts)
  form_numbered around l Empty calm = (tt, refl)
  form_numbered around l (Assign v e) calm = (tt, refl)
  form_numbered around l (Call f args) calm =
      call_numbered (next_variable l.counts) (find (inner_env around l) f.text)
      (of_.arguments (named_arguments (inner_env around l) args))
  form_numbered around l (Sequence ss) calm = all_numbered around l ss calm
  form_numbered around l (If e a NoElse) calm =
      let one = none_in_parts (w.expression_sites [] both_lists all_at (inner_env around l) e)
      (both_lists (w.statement_sites [] both_lists all_at around l a) []) calm in
      let r = statement_numbered around l a (none_in_parts (w.statement_sites [] both_lists all_at around l a) []
      one.1).0 in
      ((r.0, tt), r.1)
  form_numbered around l (If e a (Else b)) calm =
      let one = none_in_parts (w.expression_sites [] both_lists all_at (inner_env around l) e)
      (both_lists (w.statement_sites [] both_lists all_at around l a)
      (w.statement_sites [] both_lists all_at around (statement_local l a) b)) calm in
      let two = none_in_parts (w.statement_sites [] both_lists all_at around l a)
      (w.statement_sites [] both_lists all_at around (statement_local l a) b) one.1 in
      let r = statement_numbered around l a two.0 in
      let t = statement_numbered around (statement_local l a) b two.1 in (
        (r.0, subst (λ z. IsNumbered z (named_statement around (statement_local l a) b)) (sym r.1) t.0),
        ap (λ z. index_after z (named_statement around (statement_local l a) b)) r.1 ∙ t.1,
      )
  form_numbered around l (While e a) calm = statement_numbered around l a
      (none_in_parts (w.expression_sites [] both_lists all_at (inner_env around l) e)
      (w.statement_sites [] both_lists all_at around l a) calm).1
  form_numbered around l (Repeat ss e) calm =
      all_numbered around l ss (none_in_parts (w.statements_sites [] both_lists all_at around l ss)
      (w.expression_sites [] both_lists all_at (inner_env around (statements_local l ss)) e) calm).0
  form_numbered around l (Case e choices) calm =
      arms_numbered around l choices (none_in_parts (w.expression_sites [] both_lists all_at (inner_env around l) e)
      (w.arms_sites [] both_lists all_at around l choices) calm).1
  form_numbered around l (For x from down to a) calm =
      let one = none_in_parts (all_at (inner_env around l) (Loops x))
      (both_lists (w.expression_sites [] both_lists all_at (inner_env around l) from)
      (both_lists (w.expression_sites [] both_lists all_at (inner_env around l) to)
      (w.statement_sites [] both_lists all_at around l a))) calm in
      let two = none_in_parts (w.expression_sites [] both_lists all_at (inner_env around l) from)
      (both_lists (w.expression_sites [] both_lists all_at (inner_env around l) to)
      (w.statement_sites [] both_lists all_at around l a)) one.1 in
      statement_numbered around l a (none_in_parts (w.expression_sites [] both_lists all_at (inner_env around l) to)
      (w.statement_sites [] both_lists all_at around l a) two.1).1
  form_numbered around l (Parallel bs) calm = branches_numbered around l bs calm
  form_numbered around l (Forall x from to a) calm =
      let next = local_of_inner l.block l.answer l in
      let index = all_at (inner_env (blocks_around around l) next) (Declares x sort.Variable) in
      let one = none_in_parts (w.expression_sites [] both_lists all_at (inner_env around l) from)
      (both_lists (w.expression_sites [] both_lists all_at (inner_env around l) to)
      (both_lists index (w.statement_sites [] both_lists all_at (blocks_around around l) (local_of_index l x) a)))
      calm in
      let two = none_in_parts (w.expression_sites [] both_lists all_at (inner_env around l) to)
      (both_lists index (w.statement_sites [] both_lists all_at (blocks_around around l) (local_of_index l x) a))
      one.1 in
      let three = none_in_parts index (w.statement_sites [] both_lists all_at (blocks_around around l)
      (local_of_index l x) a) two.1 in
      let e = (one_variable next x.text (variable next role.Index)
      (room_at (inner_env (blocks_around around l) next) x sort.Variable three.0)).variables_are in
      let up : next_variable (local_of_index l x).counts ≡ suc (next_variable l.counts) = omega (arith, e) in
      let r = statement_numbered (blocks_around around l) (local_of_index l x) a three.1 in (
        (refl, subst (λ z. IsNumbered z (named_statement (blocks_around around l) (local_of_index l x) a)) up r.0),
        ap (λ z. index_after z (named_statement (blocks_around around l) (local_of_index l x) a)) (sym up) ∙ r.1,
      )
  form_numbered around l (Assume e) calm = (tt, refl)

  all_numbered : (around : List names.Scope) (l : Local) (ss : Statements)
      → w.statements_sites [] both_lists all_at around l ss ≡ []
      → AreNumbered (next_variable l.counts) (of_.statements (named_statements around l ss))
      × (index_after_all (next_variable l.counts) (of_.statements (named_statements around l ss))
      ≡ next_variable (statements_local l ss).counts)
  all_numbered around l NoStatement calm = (tt, refl)
  all_numbered around l (AndThen a rest) calm =
      let two = none_in_parts (w.statement_sites [] both_lists all_at around l a)
      (w.statements_sites [] both_lists all_at around (statement_local l a) rest) calm in
      let r = statement_numbered around l a two.0 in
      let t = all_numbered around (statement_local l a) rest two.1 in (
        (
          r.0,
          subst (λ z. AreNumbered z (of_.statements (named_statements around (statement_local l a) rest))) (sym r.1)
              t.0,
        ),
        ap (λ z. index_after_all z (of_.statements (named_statements around (statement_local l a) rest))) r.1 ∙ t.1,
      )

  arms_numbered : (around : List names.Scope) (l : Local) (arms : Arms)
      → w.arms_sites [] both_lists all_at around l arms ≡ []
      → AreNumberedArms (next_variable l.counts) (of_.arms (named_arms around l arms))
      × (index_after_arms (next_variable l.counts) (of_.arms (named_arms around l arms))
      ≡ next_variable (arms_local l arms).counts)
  arms_numbered around l NoArm calm = (tt, refl)
  arms_numbered around l (Or (On cs a) rest) calm =
      let two = none_in_parts (both_lists (w.constants_sites [] both_lists all_at (inner_env around l) cs)
      (w.statement_sites [] both_lists all_at around l a))
      (w.arms_sites [] both_lists all_at around (statement_local l a) rest) calm in
      let r = statement_numbered around l a
      (none_in_parts (w.constants_sites [] both_lists all_at (inner_env around l) cs)
      (w.statement_sites [] both_lists all_at around l a) two.0).1 in
      let t = arms_numbered around (statement_local l a) rest two.1 in (
        (r.0, subst (λ z. AreNumberedArms z (of_.arms (named_arms around (statement_local l a) rest))) (sym r.1) t.0),
        ap (λ z. index_after_arms z (of_.arms (named_arms around (statement_local l a) rest))) r.1 ∙ t.1,
      )

  branches_numbered : (around : List names.Scope) (l : Local) (bs : Branches)
      → w.branches_sites [] both_lists all_at around l bs ≡ []
      → AreNumberedBranches (next_variable l.counts) (of_.branches (named_branches around l bs))
      × (index_after_branches (next_variable l.counts) (of_.branches (named_branches around l bs))
      ≡ next_variable (branches_local l bs).counts)
  branches_numbered around l NoBranch calm = (tt, refl)
  branches_numbered around l (Beside ss rest) calm =
      let two = none_in_parts (w.statements_sites [] both_lists all_at around l ss)
      (w.branches_sites [] both_lists all_at around (statements_local l ss) rest) calm in
      let r = all_numbered around l ss two.0 in
      let t = branches_numbered around (statements_local l ss) rest two.1 in (
        (
          r.0,
          subst (λ z. AreNumberedBranches z (of_.branches (named_branches around (statements_local l ss) rest)))
              (sym r.1) t.0,
        ),
        ap (λ z. index_after_branches z (of_.branches (named_branches around (statements_local l ss) rest)))
            r.1 ∙ t.1,
      )
