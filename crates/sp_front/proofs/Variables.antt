-- What is said of each variable that a declaration or a statement makes.
use Rattle.std.proofs.Common.{ℕ, List, [], ◌∷◌, ◌++◌, Option, Some, None, Bool}
use Rattle.sp_tree.specs.declared.checked.Role.{Role}
use Rattle.sp_tree.specs.declared.checked.Role.TheVariants as role
use Rattle.sp_tree.specs.declared.checked.Variable as checked
use Rattle.sp_tree.specs.declared.syntax.Name.{Name}
use Rattle.sp_tree.specs.declared.syntax.SynFormal.{SynFormal}
use Rattle.sp_tree.specs.Scopes.{Env, find}
use Rattle.sp_tree.specs.NameWalk.{role_of}
use Rattle.sp_tree.specs.NamedTree.{kind_number, variables_named, formals_named, answer_named, indices, form_indices}
use Rattle.sp_tree.specs.NamedTree.{other_indices, statements_indices, arms_indices, branches_indices}
use Rattle.sp_tree.specs.PlainSyntax.{Statement, Does, Form, Sequence, If, While, Repeat, For}
use Rattle.sp_tree.specs.PlainSyntax.{Case, Parallel, Forall, ElsePart, NoElse, Else, Statements, NoStatement}
use Rattle.sp_tree.specs.PlainSyntax.{AndThen, On, Arms, NoArm, Or, Branches, NoBranch, Beside}
use Rattle.sp_front.specs.ForEach.{HoldsOfEach}

pub each_join : {A : Type 0} (P : A → Type 0) (xs ys : List A) → HoldsOfEach P xs → HoldsOfEach P ys
    → HoldsOfEach P (xs ++ ys)
each_join P [] ys h k = k
each_join P (x ∷ xs) ys h k = (h.0, each_join P xs ys h.1 k)

module _ (P : checked.Variable → Type 0) (block : ℕ) where
  pub names_each : (r : Role) (k : ℕ) (xs : List Name)
      → ((x : Name) → P (record { name = x.text; kind = k; block = block; role = r; at = x.at }))
      → HoldsOfEach P (variables_named block r k xs)
  names_each r k [] h = tt
  names_each r k (x ∷ xs) h = (h x, names_each r k xs h)

  pub formals_each : (env : Env) (fs : List SynFormal)
      → ((x : Name) (k : ℕ) (b : Bool) → P (record
      { name = x.text; kind = k; block = block; role = role_of b; at = x.at }))
      → HoldsOfEach P (formals_named env block fs)
  formals_each env [] h = tt
  formals_each env (f ∷ fs) h =
      let k = kind_number (find env f.kind.text) in
      each_join P (variables_named block (role_of f.by_reference) k f.names) (formals_named env block fs)
      (names_each (role_of f.by_reference) k f.names (λ x. h x k f.by_reference)) (formals_each env fs h)

  pub answer_each : (env : Env) (x : Name) (answer : Option Name)
      → ((k : ℕ) → P (record { name = x.text; kind = k; block = block; role = role.Answer; at = x.at }))
      → HoldsOfEach P (answer_named env block x answer)
  answer_each env x None h = tt
  answer_each env x (Some t) h = (h (kind_number (find env t.text)), tt)

  -- the indices of the foralls in a statement
  module _ (one : (x : Name) → P (record {
    name = x.text;
    kind = 0;
    block = block;
    role = role.Index;
    at = x.at;
  })) where
    mutual
      pub indices_each : (s : Statement) → HoldsOfEach P (indices block s)
      indices_each (Does at form) = form_each form

      form_each : (form : Form) → HoldsOfEach P (form_indices block form)
      form_each (Sequence ss) = statements_each ss
      form_each (If e a o) = each_join P (indices block a) (other_indices block o) (indices_each a) (other_each o)
      form_each (While e a) = indices_each a
      form_each (Repeat ss e) = statements_each ss
      form_each (Case e arms) = arms_each arms
      form_each (For x from down to a) = indices_each a
      form_each (Parallel bs) = branches_each bs
      form_each (Forall x from to a) = (one x, indices_each a)
      form_each _ = tt

      other_each : (o : ElsePart) → HoldsOfEach P (other_indices block o)
      other_each NoElse = tt
      other_each (Else a) = indices_each a

      statements_each : (ss : Statements) → HoldsOfEach P (statements_indices block ss)
      statements_each NoStatement = tt
      statements_each (AndThen a rest) = each_join P (indices block a) (statements_indices block rest) (indices_each a)
          (statements_each rest)

      arms_each : (arms : Arms) → HoldsOfEach P (arms_indices block arms)
      arms_each NoArm = tt
      arms_each (Or (On cs a) rest) = each_join P (indices block a) (arms_indices block rest) (indices_each a)
          (arms_each rest)

      branches_each : (bs : Branches) → HoldsOfEach P (branches_indices block bs)
      branches_each NoBranch = tt
      branches_each (Beside ss rest) = each_join P (statements_indices block ss) (branches_indices block rest)
          (statements_each ss) (branches_each rest)
