-- Behind a statement the next number is the one that counting its statements gives: numbers have no gap and none comes
-- twice.
use Rattle.std.proofs.Common.{◌≡◌, refl, ap, ◌∙◌, ℕ}
use Rattle.sp_tree.specs.PlainNamed.{Statement, Does, Form, Sequence, If, While, Repeat}
use Rattle.sp_tree.specs.PlainNamed.{Case, For, Parallel, Forall, ElsePart, NoElse, Else, Statements}
use Rattle.sp_tree.specs.PlainNamed.{NoStatement}
use Rattle.sp_tree.specs.PlainNamed.{AndThen, Arm, On, Arms, NoArm, Or, Branches, NoBranch, Beside}
use Rattle.sp_types.specs.Tables.{Env, with_next_number, with_index_type}
use Rattle.sp_types.specs.Kinds.{expression_kind}
use Rattle.sp_types.specs.TypeWalk.{statement_after, form_after, other_after, statements_after, arms_after, arm_after}
use Rattle.sp_types.specs.TypeWalk.{branches_after, statement_counted, form_counted, other_counted, statements_counted}
use Rattle.sp_types.specs.TypeWalk.{arms_counted, arm_counted, branches_counted}

mutual
  pub statement_next : (env : Env) (s : Statement) → (statement_after env s).next ≡ statement_counted env.next s
  statement_next env (Does at form) = form_next (with_next_number env) form

  form_next : (env : Env) (s : Form) → (form_after env s).next ≡ form_counted env.next s
  form_next env (Sequence ss) = statements_next env ss
  form_next env (If e s o) = other_next (statement_after env s) o
      ∙ ap (λ (k : ℕ). other_counted k o) (statement_next env s)
  form_next env (While e s) = statement_next env s
  form_next env (Repeat ss e) = statements_next (with_next_number env) ss
  form_next env (Case e choices) = arms_next env choices
  form_next env (For x at from down to s) = statement_next env s
  form_next env (Parallel bs) = branches_next env bs
  form_next env (Forall x from to s) = statement_next (with_index_type env x (expression_kind env from)) s
  form_next _ _ = refl

  other_next : (env : Env) (o : ElsePart) → (other_after env o).next ≡ other_counted env.next o
  other_next env NoElse = refl
  other_next env (Else s) = statement_next env s

  statements_next : (env : Env) (ss : Statements) → (statements_after env ss).next ≡ statements_counted env.next ss
  statements_next env NoStatement = refl
  statements_next env (AndThen s rest) = statements_next (statement_after env s) rest
      ∙ ap (λ (k : ℕ). statements_counted k rest) (statement_next env s)

  arms_next : (env : Env) (xs : Arms) → (arms_after env xs).next ≡ arms_counted env.next xs
  arms_next env NoArm = refl
  arms_next env (Or a rest) = arms_next (arm_after env a) rest ∙ ap (λ (k : ℕ). arms_counted k rest) (arm_next env a)

  arm_next : (env : Env) (a : Arm) → (arm_after env a).next ≡ arm_counted env.next a
  arm_next env (On cs s) = statement_next env s

  branches_next : (env : Env) (bs : Branches) → (branches_after env bs).next ≡ branches_counted env.next bs
  branches_next env NoBranch = refl
  branches_next env (Beside ss rest) = branches_next (statements_after (with_next_number env) ss) rest
      ∙ ap (λ (k : ℕ). branches_counted k rest) (statements_next (with_next_number env) ss)
