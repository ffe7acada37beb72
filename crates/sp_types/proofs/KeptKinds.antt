-- Statements and blocks change no type.
use Rattle.std.proofs.Common.{◌≡◌, refl, ◌∙◌, ℕ, List, [], ◌∷◌}
use Rattle.sp_tree.specs.PlainNamed.{Statement, Does, Form, Sequence, If, While, Repeat}
use Rattle.sp_tree.specs.PlainNamed.{Case, For, Parallel, Forall, ElsePart, NoElse, Else, Statements}
use Rattle.sp_tree.specs.PlainNamed.{NoStatement}
use Rattle.sp_tree.specs.PlainNamed.{AndThen, Arm, On, Arms, NoArm, Or, Branches, NoBranch, Beside, Block}
use Rattle.sp_types.specs.Tables.{Env, with_next_number, with_index_type}
use Rattle.sp_types.specs.Kinds.{expression_kind}
use Rattle.sp_types.specs.TypeWalk.{statement_after, form_after, other_after, statements_after, arms_after, arm_after}
use Rattle.sp_types.specs.TypeWalk.{branches_after, with_first_number, blocks_after}

mutual
  pub statement_kinds : (env : Env) (s : Statement) → (statement_after env s).kinds ≡ env.kinds
  statement_kinds env (Does at form) = form_kinds (with_next_number env) form

  form_kinds : (env : Env) (s : Form) → (form_after env s).kinds ≡ env.kinds
  form_kinds env (Sequence ss) = statements_kinds env ss
  form_kinds env (If e s o) = other_kinds (statement_after env s) o ∙ statement_kinds env s
  form_kinds env (While e s) = statement_kinds env s
  form_kinds env (Repeat ss e) = statements_kinds (with_next_number env) ss
  form_kinds env (Case e choices) = arms_kinds env choices
  form_kinds env (For x at from down to s) = statement_kinds env s
  form_kinds env (Parallel bs) = branches_kinds env bs
  form_kinds env (Forall x from to s) = statement_kinds (with_index_type env x (expression_kind env from)) s
  form_kinds _ _ = refl

  other_kinds : (env : Env) (o : ElsePart) → (other_after env o).kinds ≡ env.kinds
  other_kinds env NoElse = refl
  other_kinds env (Else s) = statement_kinds env s

  statements_kinds : (env : Env) (ss : Statements) → (statements_after env ss).kinds ≡ env.kinds
  statements_kinds env NoStatement = refl
  statements_kinds env (AndThen s rest) = statements_kinds (statement_after env s) rest ∙ statement_kinds env s

  arms_kinds : (env : Env) (xs : Arms) → (arms_after env xs).kinds ≡ env.kinds
  arms_kinds env NoArm = refl
  arms_kinds env (Or a rest) = arms_kinds (arm_after env a) rest ∙ arm_kinds env a

  arm_kinds : (env : Env) (a : Arm) → (arm_after env a).kinds ≡ env.kinds
  arm_kinds env (On cs s) = statement_kinds env s

  branches_kinds : (env : Env) (bs : Branches) → (branches_after env bs).kinds ≡ env.kinds
  branches_kinds env NoBranch = refl
  branches_kinds env (Beside ss rest) = branches_kinds (statements_after (with_next_number env) ss) rest
      ∙ statements_kinds (with_next_number env) ss

pub blocks_kinds : (env : Env) (starts : List ℕ) (bs : List Block) → (blocks_after env starts bs).kinds ≡ env.kinds
blocks_kinds env starts [] = refl
blocks_kinds env [] (b ∷ bs) = refl
blocks_kinds env (n ∷ starts) (b ∷ bs) = blocks_kinds (statement_after (with_first_number env n) b.body) starts bs
    ∙ statement_kinds (with_first_number env n) b.body
