-- The first broken rule of types is the first of all that are broken.
use Rattle.std.proofs.Common.{◌≡◌, ◌+◌, refl, sym, ℕ, List, [], ◌∷◌, Option, Some, None}
use Rattle.sp_base.specs.declared.place.Place.{Place}
use Rattle.sp_tree.specs.declared.checked.Variable as checked
use Rattle.sp_tree.specs.declared.operators.StandardFn.{StandardFn}
use Rattle.sp_tree.specs.declared.meaning.StandardProcedure.{StandardProcedure}
use Rattle.sp_tree.specs.declared.meaning.StandardProcedure.TheVariants as procedure
use Rattle.sp_tree.specs.declared.named.NamedConstant.{NamedConstant}
use Rattle.sp_tree.specs.declared.named.NamedConstant.TheVariants as constant
use Rattle.sp_tree.specs.declared.named.NamedConst.{NamedConst}
use Rattle.sp_tree.specs.declared.named.NamedKind.{NamedKind}
use Rattle.sp_tree.specs.declared.named.NamedKindForm.{NamedKindForm}
use Rattle.sp_tree.specs.declared.named.NamedKindForm.TheVariants as form
use Rattle.sp_tree.specs.declared.named.NamedAnswer.{NamedAnswer}
use Rattle.sp_tree.specs.PhaseResults.{FirstRefusal, first_of_refusals, refusal_list}
use Rattle.sp_tree.specs.NameFirst.{none_more, then_rest, both_lists}
use Rattle.sp_tree.specs.PlainNamed.{Expression, ExpressionAt, ExpressionForm, Number, Quoted, Constant, Read, Apply}
use Rattle.sp_tree.specs.PlainNamed.{Standard}
use Rattle.sp_tree.specs.PlainNamed.{Unary, Binary, Variable, Entire, Selector, Index, Field, Selectors, Whole, Select}
use Rattle.sp_tree.specs.PlainNamed.{Argument, Pass, Width, NoWidth, WithWidth, Arguments, NoArgument, AndArgument}
use Rattle.sp_tree.specs.PlainNamed.{Statement, Does, Form, Empty, Assign, Call, Perform, Sequence, If, While, Repeat}
use Rattle.sp_tree.specs.PlainNamed.{Case, For, Parallel, Forall, Assume, ElsePart, NoElse, Else, Statements}
use Rattle.sp_tree.specs.PlainNamed.{NoStatement}
use Rattle.sp_tree.specs.PlainNamed.{AndThen, Arm, On, Arms, NoArm, Or, Branches, NoBranch, Beside, Block, Program}
use Rattle.sp_types.specs.declared.tables.Ordinal.{Ordinal}
use Rattle.sp_types.specs.Tables.{Env, const_value, with_next_number, with_index_type, numbers_of, constants_of, env_of}
use Rattle.sp_types.specs.Kinds.{expression_kind}
use Rattle.sp_tree.specs.Cells.{sizes}
use Rattle.sp_tree.proofs.BreachLists.{lesser_none, Leads, no_more, follows}
use Rattle.sp_types.specs.TypeWalk as w
use Rattle.sp_types.specs.TypeFirst.{at_node, types_broken, types_first}

at_one : (r : FirstRefusal) → Leads (refusal_list r) (at_node r)
at_one None given = lesser_none given
at_one (Some r) given = refl

-- what holds of two ways to gather, at nothing, at a node and of two parts, holds of them at each tree
module _ {M N : Type 0} (none : M) (join : M → M → M) (site : FirstRefusal → M) (none2 : N) (join2 : N → N → N)
    (site2 : FirstRefusal → N) (R : M → N → Type 0) (nothing : R none none2)
    (and : (a c : M) (b d : N) → R a b → R c d → R (join a c) (join2 b d))
    (at : (r : FirstRefusal) → R (site r) (site2 r)) where
  module _ (env : Env) where
    mutual
      expression_leads : (e : Expression) → R (w.expression_sites none join site env e)
          (w.expression_sites none2 join2 site2 env e)
      expression_leads (ExpressionAt p form) = form_leads p form

      form_leads : (p : Place) (e : ExpressionForm)
          → R (w.form_sites none join site env p e) (w.form_sites none2 join2 site2 env p e)
      form_leads p (Number n) = nothing
      form_leads p (Quoted t) = at _
      form_leads p (Constant k) = nothing
      form_leads p (Read v) = variable_leads v
      form_leads p (Apply f name args) = actuals_leads _ args
      form_leads p (Standard f args) = standard_leads f args
      form_leads p (Unary op a) = and _ _ _ _ (expression_leads a) (at _)
      form_leads p (Binary op a b) = and _ _ _ _ (and _ _ _ _ (expression_leads a) (at _))
          (and _ _ _ _ (expression_leads b) (at _))

      variable_leads : (v : Variable) → R (w.variable_sites none join site env v)
          (w.variable_sites none2 join2 site2 env v)
      variable_leads (Entire x p ss) = selectors_leads p _ ss

      selectors_leads : (p : Place) (k : Option ℕ) (ss : Selectors)
          → R (w.selectors_sites none join site env p k ss) (w.selectors_sites none2 join2 site2 env p k ss)
      selectors_leads p k Whole = nothing
      selectors_leads p k (Select s rest) = and _ _ _ _ (selector_leads p k s) (selectors_leads p _ rest)

      selector_leads : (p : Place) (k : Option ℕ) (s : Selector)
          → R (w.selector_sites none join site env p k s) (w.selector_sites none2 join2 site2 env p k s)
      selector_leads p k (Index e) = and _ _ _ _ (expression_leads e) (at _)
      selector_leads p k (Field name) = at _

      actuals_leads : (xs : List ℕ) (args : Arguments)
          → R (w.actuals_sites none join site env xs args) (w.actuals_sites none2 join2 site2 env xs args)
      actuals_leads xs NoArgument = nothing
      actuals_leads xs (AndArgument a rest) = and _ _ _ _ (actual_leads _ a) (actuals_leads _ rest)

      actual_leads : (x : Option ℕ) (a : Argument)
          → R (w.actual_sites none join site env x a) (w.actual_sites none2 join2 site2 env x a)
      actual_leads x (Pass e width) = and _ _ _ _ (expression_leads e) (at _)

      standard_leads : (f : StandardFn) (args : Arguments)
          → R (w.standard_sites none join site env f args) (w.standard_sites none2 join2 site2 env f args)
      standard_leads f NoArgument = nothing
      standard_leads f (AndArgument a rest) = and _ _ _ _ (parameter_leads f a) (standard_leads f rest)

      parameter_leads : (f : StandardFn) (a : Argument)
          → R (w.parameter_sites none join site env f a) (w.parameter_sites none2 join2 site2 env f a)
      parameter_leads f (Pass e width) = and _ _ _ _ (expression_leads e) (at _)

    read_leads : (a : Argument) → R (w.read_sites none join site env a) (w.read_sites none2 join2 site2 env a)
    read_leads (Pass e width) = and _ _ _ _ (expression_leads e) (at _)

    written_leads : (e : Expression) → R (w.written_sites none join site env e)
        (w.written_sites none2 join2 site2 env e)
    written_leads (ExpressionAt p (Quoted t)) = nothing
    written_leads (ExpressionAt p (Number n)) = and _ _ _ _ (expression_leads (ExpressionAt p (Number n))) (at _)
    written_leads (ExpressionAt p (Constant k)) = and _ _ _ _ (expression_leads (ExpressionAt p (Constant k))) (at _)
    written_leads (ExpressionAt p (Read v)) = and _ _ _ _ (expression_leads (ExpressionAt p (Read v))) (at _)
    written_leads (ExpressionAt p (Apply f name args)) =
        and _ _ _ _ (expression_leads (ExpressionAt p (Apply f name args))) (at _)
    written_leads (ExpressionAt p (Standard f args)) =
        and _ _ _ _ (expression_leads (ExpressionAt p (Standard f args))) (at _)
    written_leads (ExpressionAt p (Unary op a)) = and _ _ _ _ (expression_leads (ExpressionAt p (Unary op a))) (at _)
    written_leads (ExpressionAt p (Binary op a b)) =
        and _ _ _ _ (expression_leads (ExpressionAt p (Binary op a b))) (at _)

    width_leads : (p : Place) (width : Width)
        → R (w.width_sites none join site env p width) (w.width_sites none2 join2 site2 env p width)
    width_leads p NoWidth = nothing
    width_leads p (WithWidth e) = and _ _ _ _ (expression_leads e) (at _)

    write_leads : (a : Argument) → R (w.write_sites none join site env a) (w.write_sites none2 join2 site2 env a)
    write_leads (Pass e width) = and _ _ _ _ (width_leads _ width) (written_leads e)

    channel_leads : (a : Argument) → R (w.channel_sites none join site env a) (w.channel_sites none2 join2 site2 env a)
    channel_leads (Pass e width) = and _ _ _ _ (expression_leads e) (at _)

    message_leads : (k : Option ℕ) (a : Argument)
        → R (w.message_sites none join site env k a) (w.message_sites none2 join2 site2 env k a)
    message_leads k (Pass e width) = and _ _ _ _ (expression_leads e) (at _)

    each_leads : (f : Argument → M) (g : Argument → N) → ((a : Argument) → R (f a) (g a)) → (args : Arguments)
        → R (w.each_sites none join site env f args) (w.each_sites none2 join2 site2 env g args)
    each_leads f g h NoArgument = nothing
    each_leads f g h (AndArgument a rest) = and _ _ _ _ (h a) (each_leads f g h rest)

    messages_leads : (args : Arguments) → R (w.messages_sites none join site env args)
        (w.messages_sites none2 join2 site2 env args)
    messages_leads NoArgument = nothing
    messages_leads (AndArgument a rest) = and _ _ _ _ (channel_leads a) (each_leads _ _ (message_leads _) rest)

    perform_leads : (p : StandardProcedure) (args : Arguments)
        → R (w.perform_sites none join site env p args) (w.perform_sites none2 join2 site2 env p args)
    perform_leads procedure.Read args = each_leads _ _ read_leads args
    perform_leads procedure.Readln args = each_leads _ _ read_leads args
    perform_leads procedure.Write args = each_leads _ _ write_leads args
    perform_leads procedure.Writeln args = each_leads _ _ write_leads args
    perform_leads procedure.Open args = each_leads _ _ channel_leads args
    perform_leads procedure.Send args = messages_leads args
    perform_leads procedure.Receive args = messages_leads args

    condition_leads : (e : Expression) → R (w.condition_sites none join site env e)
        (w.condition_sites none2 join2 site2 env e)
    condition_leads e = and _ _ _ _ (expression_leads e) (at _)

    limit_leads : (k : Option ℕ) (e : Expression)
        → R (w.limit_sites none join site env k e) (w.limit_sites none2 join2 site2 env k e)
    limit_leads k e = and _ _ _ _ (expression_leads e) (at _)

    choice_leads : (k : Option ℕ) (before : List Ordinal) (c : NamedConst)
        → R (w.choice_sites none join site env k before c) (w.choice_sites none2 join2 site2 env k before c)
    choice_leads k before c = and _ _ _ _ (at _) (and _ _ _ _ (at _) (at _))

    choices_leads : (k : Option ℕ) (before : List Ordinal) (cs : List NamedConst)
        → R (w.choices_sites none join site env k before cs) (w.choices_sites none2 join2 site2 env k before cs)
    choices_leads k before [] = nothing
    choices_leads k before (c ∷ cs) = and _ _ _ _ (choice_leads k before c)
        (choices_leads k (w.with_constant (const_value env.constants c) before) cs)

    lists_leads : (k : Option ℕ) (before : List Ordinal) (xs : List (List NamedConst))
        → R (w.lists_sites none join site env k before xs) (w.lists_sites none2 join2 site2 env k before xs)
    lists_leads k before [] = nothing
    lists_leads k before (cs ∷ rest) = and _ _ _ _ (choices_leads k before cs)
        (lists_leads k (w.with_constants env cs before) rest)

  mutual
    statement_leads : (env : Env) (s : Statement)
        → R (w.statement_sites none join site env s) (w.statement_sites none2 join2 site2 env s)
    statement_leads env (Does p form) = statement_form_leads (with_next_number env) form

    statement_form_leads : (env : Env) (s : Form)
        → R (w.statement_form_sites none join site env s) (w.statement_form_sites none2 join2 site2 env s)
    statement_form_leads env Empty = nothing
    statement_form_leads env (Assign v e) = and _ _ _ _ (variable_leads env v)
        (and _ _ _ _ (expression_leads env e) (at _))
    statement_form_leads env (Call f args) = actuals_leads env _ args
    statement_form_leads env (Perform p args) = perform_leads env p args
    statement_form_leads env (Sequence ss) = statements_leads env ss
    statement_form_leads env (If e s o) = and _ _ _ _ (condition_leads env e)
        (and _ _ _ _ (statement_leads env s) (other_leads (w.statement_after env s) o))
    statement_form_leads env (While e s) = and _ _ _ _ (condition_leads env e) (statement_leads env s)
    statement_form_leads env (Repeat ss e) =
        and _ _ _ _ (statements_leads (with_next_number env) ss)
        (condition_leads (w.statements_after (with_next_number env) ss) e)
    statement_form_leads env (Case e choices) =
        and _ _ _ _ (and _ _ _ _ (expression_leads env e) (at _))
        (and _ _ _ _ (lists_leads env (expression_kind env e) [] (w.constant_lists choices)) (arms_leads env choices))
    statement_form_leads env (For x p from down to s) =
        and _ _ _ _ (at _) (and _ _ _ _ (limit_leads env _ from)
        (and _ _ _ _ (limit_leads env _ to) (statement_leads env s)))
    statement_form_leads env (Parallel bs) = branches_leads env bs
    statement_form_leads env (Forall x from to s) =
        and _ _ _ _ (and _ _ _ _ (expression_leads env from) (at _))
        (and _ _ _ _ (limit_leads env _ to) (statement_leads (with_index_type env x (expression_kind env from)) s))
    statement_form_leads env (Assume e) = condition_leads env e

    other_leads : (env : Env) (o : ElsePart) → R (w.other_sites none join site env o)
        (w.other_sites none2 join2 site2 env o)
    other_leads env NoElse = nothing
    other_leads env (Else s) = statement_leads env s

    statements_leads : (env : Env) (ss : Statements)
        → R (w.statements_sites none join site env ss) (w.statements_sites none2 join2 site2 env ss)
    statements_leads env NoStatement = nothing
    statements_leads env (AndThen s rest) = and _ _ _ _ (statement_leads env s)
        (statements_leads (w.statement_after env s) rest)

    arms_leads : (env : Env) (xs : Arms) → R (w.arms_sites none join site env xs)
        (w.arms_sites none2 join2 site2 env xs)
    arms_leads env NoArm = nothing
    arms_leads env (Or a rest) = and _ _ _ _ (arm_leads env a) (arms_leads (w.arm_after env a) rest)

    arm_leads : (env : Env) (a : Arm) → R (w.arm_sites none join site env a) (w.arm_sites none2 join2 site2 env a)
    arm_leads env (On cs s) = statement_leads env s

    branches_leads : (env : Env) (bs : Branches)
        → R (w.branches_sites none join site env bs) (w.branches_sites none2 join2 site2 env bs)
    branches_leads env NoBranch = nothing
    branches_leads env (Beside ss rest) = and _ _ _ _ (statements_leads (with_next_number env) ss)
        (branches_leads (w.statements_after (with_next_number env) ss) rest)

  constants_leads : (known : List (Option Ordinal)) (cs : List NamedConstant)
      → R (w.constants_sites none join site known cs) (w.constants_sites none2 join2 site2 known cs)
  constants_leads known [] = nothing
  constants_leads known (constant.Value c ∷ cs) = and _ _ _ _ (at _) (constants_leads known cs)
  constants_leads known (constant.Enumerated k i ∷ cs) = constants_leads known cs

  bounds_leads : (known : List (Option Ordinal)) (f : NamedKindForm)
      → R (w.bounds_sites none join site known f) (w.bounds_sites none2 join2 site2 known f)
  bounds_leads known (form.Array a b e) = and _ _ _ _ (at _) (and _ _ _ _ (at _) (at _))
  bounds_leads _ _ = nothing

  kinds_leads : (known : List (Option Ordinal)) (ks : List NamedKind)
      → R (w.kinds_sites none join site known ks) (w.kinds_sites none2 join2 site2 known ks)
  kinds_leads known [] = nothing
  kinds_leads known (k ∷ ks) = and _ _ _ _ (bounds_leads known k.form) (kinds_leads known ks)

  cells_leads : (places : List Place) (cells : List ℕ)
      → R (w.cells_sites none join site places cells) (w.cells_sites none2 join2 site2 places cells)
  cells_leads [] cells = nothing
  cells_leads (p ∷ places) [] = nothing
  cells_leads (p ∷ places) (n ∷ cells) = and _ _ _ _ (at _) (cells_leads places cells)

  answer_leads : (env : Env) (a : Option NamedAnswer)
      → R (w.answer_sites none join site env a) (w.answer_sites none2 join2 site2 env a)
  answer_leads env None = nothing
  answer_leads env (Some a) = at _

  block_leads : (numbers cells : List ℕ) (variables : List checked.Variable) (b : ℕ) (env : Env) (x : Block)
      → R (w.block_sites none join site numbers cells variables b env x)
      (w.block_sites none2 join2 site2 numbers cells variables b env x)
  block_leads numbers cells variables b env x =
      and _ _ _ _ (at _) (and _ _ _ _ (answer_leads env x.answer) (statement_leads env x.body))

  blocks_leads : (numbers cells : List ℕ) (variables : List checked.Variable) (b : ℕ) (env : Env) (starts : List ℕ)
      (xs : List Block) → R (w.blocks_sites none join site numbers cells variables b env starts xs)
      (w.blocks_sites none2 join2 site2 numbers cells variables b env starts xs)
  blocks_leads numbers cells variables b env starts [] = nothing
  blocks_leads numbers cells variables b env [] (x ∷ xs) = nothing
  blocks_leads numbers cells variables b env (n ∷ starts) (x ∷ xs) =
      and _ _ _ _ (block_leads numbers cells variables b (w.with_first_number env n) x)
      (blocks_leads numbers cells variables (b + 1) (w.statement_after (w.with_first_number env n) x.body) starts xs)

  program_leads : (p : Program) → R (w.program_sites none join site p) (w.program_sites none2 join2 site2 p)
  program_leads p = and _ _ _ _ (constants_leads (constants_of p) p.constants)
      (and _ _ _ _ (kinds_leads (constants_of p) p.kinds)
      (and _ _ _ _ (cells_leads (w.places_of p.kinds) (sizes (env_of p).kinds))
      (blocks_leads (numbers_of p) (sizes (env_of p).kinds) p.variables 0 (env_of p) (w.starts_of p.blocks) p.blocks)))

pub first_of_all : (p : Program) → types_first p ≡ first_of_refusals (types_broken p) None
first_of_all p = sym (program_leads [] both_lists refusal_list none_more then_rest at_node Leads no_more follows at_one
    p None)
