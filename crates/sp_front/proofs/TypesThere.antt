-- Each variable of the tree, an index too, has a type that there is.
use Rattle.std.proofs.Common.{◌≡◌, refl, subst, ℕ, zero, suc, ◌+◌, ◌≤◌, List, [], ◌∷◌, Option, Some, None, Bool, true}
use Rattle.std.proofs.Common.{false, if◌then◌else◌, slice_get, slice_set, arith}
use Rattle.std.specs.Prelude.{map}
use Rattle.std.specs.Str.{bytes_eq}
use Rattle.std.proofs.lemmas.Option.{same_Some}
use Rattle.sp_tree.specs.declared.checked.KindOf.{KindOf}
use Rattle.sp_tree.specs.declared.checked.KindOf.TheVariants as kind
use Rattle.sp_tree.specs.declared.checked.Variable as checked
use Rattle.sp_tree.specs.declared.operators.UnaryOp.{UnaryOp}
use Rattle.sp_tree.specs.declared.operators.UnaryOp.TheVariants as unary
use Rattle.sp_tree.specs.declared.operators.BinaryOp.{BinaryOp}
use Rattle.sp_tree.specs.declared.operators.BinaryOp.TheVariants as binary
use Rattle.sp_tree.specs.declared.operators.StandardFn.{StandardFn}
use Rattle.sp_tree.specs.declared.operators.StandardFn.TheVariants as fn
use Rattle.sp_tree.specs.Bare.{variable_of}
use Rattle.sp_tree.specs.Plain as plain
use Rattle.sp_tree.specs.PlainNamed as n
use Rattle.sp_tree.specs.PlainNamed.{Expression, ExpressionAt, ExpressionForm, Number, Quoted, Constant, Read, Apply}
use Rattle.sp_tree.specs.PlainNamed.{Standard}
use Rattle.sp_tree.specs.PlainNamed.{Unary, Binary, Variable, Entire, Index, Field, Selector, Selectors, Whole, Select}
use Rattle.sp_tree.specs.PlainNamed.{Pass, Arguments, NoArgument, AndArgument, Statement, Does, Form, Empty, Assign}
use Rattle.sp_tree.specs.PlainNamed.{Call, Perform, Sequence, If, While, Repeat, Case, For, Parallel, Forall, Assume}
use Rattle.sp_tree.specs.PlainNamed.{NoElse, Else, Statements, NoStatement, AndThen, On, Arms, NoArm, Or, Branches}
use Rattle.sp_tree.specs.PlainNamed.{NoBranch, Beside}
use Rattle.sp_tree.specs.TreeShape.{AreBefore}
use Rattle.sp_types.specs.declared.tables.Signature.{Signature}
use Rattle.sp_types.specs.Tables.{Env, table_entry, kind_at, variable_kind, kind_of_variable, answer_in}
use Rattle.sp_types.specs.Tables.{with_next_number, with_index_type}
use Rattle.sp_types.specs.FieldTable.{field_from}
use Rattle.sp_types.specs.TypeRules.{differ, ordinal, unary_takes, binary_gives, field_in}
use Rattle.sp_types.specs.Kinds.{element_in, field_kind, if_ordinal, standard_gives, expression_kind, form_kind}
use Rattle.sp_types.specs.Kinds.{selected_kind, selection, parameter_kind}
use Rattle.sp_types.specs.TypeWalk.{single_count, parts_count, statement_after, statements_after, arms_after}
use Rattle.sp_types.specs.TypeWalk.{branches_after, form_after, with_first_number, blocks_after}
use Rattle.sp_types.specs.CheckedTree.{checked_variables, or_zero}
use Rattle.sp_front.specs.TableTypes.{IsThere, AreThere, Tabled}

there_at : (k : ℕ) (vs : List (Option ℕ)) (x : ℕ) → AreThere k vs → IsThere k (table_entry (slice_get vs x))
there_at k [] x h = tt
there_at k (v ∷ vs) zero h = h.0
there_at k (v ∷ vs) (suc x) h = there_at k vs x h.1

there_set : (k : ℕ) (vs : List (Option ℕ)) (x : ℕ) (v : Option ℕ) → AreThere k vs → IsThere k v
    → AreThere k (slice_set vs x v)
there_set k [] x v h t = tt
there_set k (u ∷ vs) zero v h t = (t, h.1)
there_set k (u ∷ vs) (suc x) v h t = (h.0, there_set k vs x v h.1 t)

module _ (k : ℕ) where
  unary_there : (op : UnaryOp) → 3 ≤ k → suc (unary_takes op) ≤ k
  unary_there unary.Plus l = omega (arith, l)
  unary_there unary.Minus l = omega (arith, l)
  unary_there unary.Not l = omega (arith, l)

  binary_there : (op : BinaryOp) → 3 ≤ k → suc (binary_gives op) ≤ k
  binary_there binary.Eq l = omega (arith, l)
  binary_there _ l = omega (arith, l)

  field_there : (i : ℕ) (name : List ℕ) (fs : List (List ℕ × ℕ)) → AreBefore k fs
      → IsThere k (field_kind (field_from i name fs))
  field_there i name [] h = tt
  field_there i name (f ∷ fs) h = go (bytes_eq name f.0) (field_there (i + 1) name fs h.1)
    where
      go : (b : Bool) → IsThere k (field_kind (field_from (i + 1) name fs))
          → IsThere k (field_kind (if b then Some (i, f.1) else field_from (i + 1) name fs))
      go true r = h.0
      go false r = r

  module _ (env : Env) (known : Tabled k env) where
    element_there : (t : Option KindOf) (j : ℕ) (i : Option ℕ) → slice_get env.kinds j ≡ t → IsThere k (element_in i t)
    element_there None j i e = tt
    element_there (Some kind.Integer) j i e = tt
    element_there (Some kind.Boolean) j i e = tt
    element_there (Some kind.Char) j i e = tt
    element_there (Some (kind.Enumeration m)) j i e = tt
    element_there (Some (kind.Array low high index el)) j i e =
        go (differ (Some index) i) (known.elements j low high index el e)
      where
        go : (b : Bool) → suc el ≤ k → IsThere k (if b then None else Some el)
        go true l = tt
        go false l = l
    element_there (Some (kind.Fields fs)) j i e = tt
    element_there (Some (kind.Channel ks)) j i e = tt

    field_in_there : (t : Option KindOf) (j : ℕ) (name : List ℕ) → slice_get env.kinds j ≡ t
        → IsThere k (field_kind (field_in name t))
    field_in_there None j name e = tt
    field_in_there (Some kind.Integer) j name e = tt
    field_in_there (Some kind.Boolean) j name e = tt
    field_in_there (Some kind.Char) j name e = tt
    field_in_there (Some (kind.Enumeration m)) j name e = tt
    field_in_there (Some (kind.Array low high index el)) j name e = tt
    field_in_there (Some (kind.Fields fs)) j name e = field_there 0 name fs (known.fields j fs e)
    field_in_there (Some (kind.Channel ks)) j name e = tt

    selection_there : (j : Option ℕ) (s : Selector) → IsThere k (selection env j s)
    selection_there None (Index e) = tt
    selection_there None (Field name) = tt
    selection_there (Some j) (Index e) = element_there (kind_at env j) j (expression_kind env e) refl
    selection_there (Some j) (Field name) = field_in_there (kind_at env j) j name refl

    selected_there : (j : Option ℕ) (ss : Selectors) → IsThere k j → IsThere k (selected_kind env j ss)
    selected_there j Whole h = h
    selected_there j (Select s rest) h = selected_there (selection env j s) rest (selection_there j s)

    answer_there : (s : Option Signature) → IsThere k (answer_in env s)
    answer_there None = tt
    answer_there (Some s) = go s.answer
      where
        go : (x : Option ℕ) → IsThere k (kind_of_variable env x)
        go None = tt
        go (Some x) = there_at k env.variables x known.variables

    ordinal_there : (j : Option ℕ) → IsThere k j → IsThere k (if_ordinal env j)
    ordinal_there None h = tt
    ordinal_there (Some j) h = go (ordinal env j)
      where
        go : (b : Bool) → IsThere k (if b then Some j else None)
        go true = h
        go false = tt

    standard_there : (f : StandardFn) (j : Option ℕ) → IsThere k j → IsThere k (standard_gives env f j)
    standard_there fn.Succ j h = ordinal_there j h
    standard_there fn.Pred j h = ordinal_there j h
    standard_there _ _ _ = let l = known.standard in omega (arith, l)

    mutual
      pub expression_there : (e : Expression) → IsThere k (expression_kind env e)
      expression_there (ExpressionAt at form) = form_there form

      form_there : (form : ExpressionForm) → IsThere k (form_kind env form)
      form_there (Number i) = let l = known.standard in omega (arith, l)
      form_there (Quoted []) = tt
      form_there (Quoted (c ∷ [])) = known.standard
      form_there (Quoted (c ∷ d ∷ t)) = tt
      form_there (Constant i) = known.constants i
      form_there (Read (Entire x at ss)) = selected_there (variable_kind env x) ss
          (there_at k env.variables x known.variables)
      form_there (Apply f at args) = answer_there (slice_get env.blocks f)
      form_there (Standard f args) = standard_there f (parameter_kind env None args) (parameter_there None args tt)
      form_there (Unary op a) = unary_there op known.standard
      form_there (Binary op a b) = binary_there op known.standard

      parameter_there : (j : Option ℕ) (args : Arguments) → IsThere k j → IsThere k (parameter_kind env j args)
      parameter_there j NoArgument h = h
      parameter_there j (AndArgument (Pass e w) rest) h =
          parameter_there (expression_kind env e) rest (expression_there e)

  -- other numbers of statements
  recounted : (env : Env) (i : ℕ) → Tabled k env → Tabled k (record env { next = i })
  recounted env i h = record {
    standard = h.standard;
    constants = h.constants;
    variables = h.variables;
    elements = h.elements;
    fields = h.fields;
  }

  known_index : (env : Env) (x : ℕ) (e : Expression) → Tabled k env
      → Tabled k (with_index_type env x (expression_kind env e))
  known_index env x e h = record {
    standard = h.standard;
    constants = h.constants;
    variables = there_set k env.variables x (expression_kind env e) h.variables (expression_there env h e);
    elements = h.elements;
    fields = h.fields;
  }

  mutual
    statement_tabled : (env : Env) (s : Statement) → Tabled k env → Tabled k (statement_after env s)
    statement_tabled env (Does at form) h = form_tabled (with_next_number env) form (recounted env (env.next + 1) h)

    form_tabled : (env : Env) (form : Form) → Tabled k env → Tabled k (form_after env form)
    form_tabled env Empty h = h
    form_tabled env (Assign v e) h = h
    form_tabled env (Call f args) h = h
    form_tabled env (Perform f args) h = recounted env (env.next + parts_count (single_count f args)) h
    form_tabled env (Sequence ss) h = all_tabled env ss h
    form_tabled env (If e a NoElse) h = statement_tabled env a h
    form_tabled env (If e a (Else b)) h = statement_tabled (statement_after env a) b (statement_tabled env a h)
    form_tabled env (While e a) h = statement_tabled env a h
    form_tabled env (Repeat ss e) h = all_tabled (with_next_number env) ss (recounted env (env.next + 1) h)
    form_tabled env (Case e arms) h = arms_tabled env arms h
    form_tabled env (For x at from down to a) h = statement_tabled env a h
    form_tabled env (Parallel bs) h = branches_tabled env bs h
    form_tabled env (Forall x from to a) h =
        statement_tabled (with_index_type env x (expression_kind env from)) a (known_index env x from h)
    form_tabled env (Assume e) h = h

    all_tabled : (env : Env) (ss : Statements) → Tabled k env → Tabled k (statements_after env ss)
    all_tabled env NoStatement h = h
    all_tabled env (AndThen a rest) h = all_tabled (statement_after env a) rest (statement_tabled env a h)

    arms_tabled : (env : Env) (arms : Arms) → Tabled k env → Tabled k (arms_after env arms)
    arms_tabled env NoArm h = h
    arms_tabled env (Or (On cs a) rest) h = arms_tabled (statement_after env a) rest (statement_tabled env a h)

    branches_tabled : (env : Env) (bs : Branches) → Tabled k env → Tabled k (branches_after env bs)
    branches_tabled env NoBranch h = h
    branches_tabled env (Beside ss rest) h =
        branches_tabled (statements_after (with_next_number env) ss) rest
        (all_tabled (with_next_number env) ss (recounted env (env.next + 1) h))

  pub blocks_tabled : (env : Env) (starts : List ℕ) (bs : List n.Block) → Tabled k env
      → Tabled k (blocks_after env starts bs)
  blocks_tabled env starts [] h = h
  blocks_tabled env [] (b ∷ bs) h = h
  blocks_tabled env (i ∷ starts) (b ∷ bs) h =
      blocks_tabled (statement_after (with_first_number env i) b.body) starts bs
      (statement_tabled (with_first_number env i) b.body (recounted env i h))

  -- the variables of a tree with these types
  pub variable_there : (ks : List (Option ℕ)) (us : List checked.Variable) (x : ℕ) (v : plain.Variable) → 3 ≤ k
      → AreThere k ks → slice_get (map variable_of (checked_variables ks us)) x ≡ Some v → suc v.kind ≤ k
  variable_there ks [] x v l h e = absurd (cc e)
  variable_there [] (u ∷ us) x v l h e = absurd (cc e)
  variable_there (t ∷ ks) (u ∷ us) zero v l h e =
      subst (λ (z : plain.Variable). suc z.kind ≤ k) (same_Some (variable_of (record u { kind = or_zero t })) v e)
      (or_there t h.0)
    where
      or_there : (t : Option ℕ) → IsThere k t → suc (or_zero t) ≤ k
      or_there None h = omega (arith, l)
      or_there (Some t) h = h
  variable_there (t ∷ ks) (u ∷ us) (suc x) v l h e = variable_there ks us x v l h.1 e
