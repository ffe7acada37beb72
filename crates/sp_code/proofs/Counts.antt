-- The places of a tree's code agree with its lengths, and its code has exactly its length.
use Rattle.std.proofs.Common.{◌≡◌, ℕ, suc, ◌+◌, ℤ, List, [], ◌∷◌, ◌++◌, length, Option, Some, None, if◌then◌else◌, refl}
use Rattle.std.proofs.Common.{ap, ◌∙◌, arith, length-append}
use Rattle.std.specs.Prelude.{slice_get}
use Rattle.sp_tree.specs.declared.checked.KindOf.{KindOf}
use Rattle.sp_tree.specs.declared.operators.UnaryOp.{UnaryOp}
use Rattle.sp_tree.specs.declared.operators.UnaryOp.TheVariants as unary
use Rattle.sp_tree.specs.declared.operators.StandardFn.{StandardFn}
use Rattle.sp_tree.specs.declared.operators.StandardFn.TheVariants as standard
use Rattle.sp_tree.specs.Plain.{Expr, Typed, ExprForm, Number, Read, Unary, Binary, Apply, Standard, AtInput, Var}
use Rattle.sp_tree.specs.Plain.{Entire, Index, Field, Selectors, Whole, Select, ByValue, ByReference, Actuals, Nothing}
use Rattle.sp_tree.specs.Plain.{Pass, Program, Block, Stmt, Empty, Assign, Call, Sequence, If, IfElse, While, Repeat}
use Rattle.sp_tree.specs.Plain.{For, Case, Parallel, Forall, Assume, ReadValue, ReadLine, WriteValue, WriteText}
use Rattle.sp_tree.specs.Plain.{WriteLine, Open, Send, Receive, Stmts, No, And, On, Arms, NoArm, Or}
use Rattle.sp_code.specs.declared.instr.Instr.{Instr}
use Rattle.sp_code.specs.declared.instr.Instr.TheVariants as i
use Rattle.sp_code.specs.declared.code.ForkTable.{ForkTable}
use Rattle.sp_code.specs.Scopes.{Sort, Ordinals, Channels, Many, NoSort, kind_of, Scope, OfIndex, is_given, kind_at}
use Rattle.sp_code.specs.Scopes.{sort, size, slot, element_type, field_type, type_by, type_of, scopes_of}
use Rattle.sp_code.specs.Places.{after_unary, after_standard, after_value, after_form, after_var, after_selectors}
use Rattle.sp_code.specs.Places.{after_actuals, after_width, after_right, after_test, after_tests, after_statement}
use Rattle.sp_code.specs.Places.{after_all, after_children, after_arms, after_block, after_blocks, tree_length}
use Rattle.sp_code.specs.Lengths.{unary_length, standard_length, value_length, form_length, var_length}
use Rattle.sp_code.specs.Lengths.{selectors_length, actuals_length, width_length, right_length, tests_length}
use Rattle.sp_code.specs.Lengths.{stmt_length, all_length, children_length, arms_length, blocks_length}
use Rattle.sp_code.specs.TreeCode.{unary_code, binary_instr, standard_code, write_instr, assign_instr, test_code}
use Rattle.sp_code.specs.TreeCode.{tables_in, tables_in_all, tables_in_arms}
use Rattle.sp_code.specs.TreeCode.{texts_in, end_instr, value_code, form_code, var_code}
use Rattle.sp_code.specs.TreeCode.{selectors_code, actuals_code, width_code, right_code, tests_code, code, code_all}
use Rattle.sp_code.specs.TreeCode.{code_children, code_arms, block_code, blocks_code, tables, tables_all}
use Rattle.sp_code.specs.TreeCode.{tables_children, tables_arms}

-- ---- places

unary_after : (op : UnaryOp) (q : ℕ) → after_unary op q ≡ q + unary_length op
unary_after unary.Plus q = omega arith
unary_after unary.Minus q = refl
unary_after unary.Not q = refl

standard_after : (f : StandardFn) (q : ℕ) → after_standard f q ≡ q + standard_length f
standard_after standard.Ord q = omega arith
standard_after standard.Eof q = omega arith
standard_after standard.Eoln q = omega arith
standard_after _ _ = refl

mutual
  pub value_after : (q : ℕ) (e : Expr) → after_value q e ≡ q + value_length e
  value_after q (Typed k form) = form_after q form

  pub form_after : (q : ℕ) (form : ExprForm) → after_form q form ≡ q + form_length form
  form_after q (Number n) = refl
  form_after q (Read v) = omega (arith, var_after q v)
  form_after q (Unary op a) = omega (arith, unary_after op (after_value q a), value_after q a)
  form_after q (Binary op a b) = omega (arith, value_after q a, value_after (after_value q a) b)
  form_after q (Apply f args) = omega (arith, actuals_after q args)
  form_after q (Standard f a) = omega (arith, standard_after f (after_value q a), value_after q a)
  form_after q (AtInput f) = refl

  pub var_after : (q : ℕ) (v : Var) → after_var q v ≡ q + var_length v
  var_after q (Entire x ss) = omega (arith, selectors_after (q + 1) ss)

  pub selectors_after : (q : ℕ) (ss : Selectors) → after_selectors q ss ≡ q + selectors_length ss
  selectors_after q Whole = omega arith
  selectors_after q (Select (Index e) rest) = omega (arith, value_after q e, selectors_after (after_value q e + 1) rest)
  selectors_after q (Select (Field f) rest) = omega (arith, selectors_after (q + 1) rest)

  pub actuals_after : (q : ℕ) (args : Actuals) → after_actuals q args ≡ q + actuals_length args
  actuals_after q Nothing = omega arith
  actuals_after q (Pass (ByValue e) rest) = omega (arith, value_after q e, actuals_after (after_value q e) rest)
  actuals_after q (Pass (ByReference v) rest) = omega (arith, var_after q v, actuals_after (after_var q v) rest)

pub width_after : (q : ℕ) (w : Option Expr) → after_width q w ≡ q + width_length w
width_after q None = omega arith
width_after q (Some e) = value_after q e

pub right_after : (q : ℕ) (z : Sort) (form : ExprForm) → after_right q z form ≡ q + right_length z form
right_after q Ordinals form = form_after q form
right_after q Channels form = form_after q form
right_after q Many (Number n) = form_after q (Number n)
right_after q Many (Read v) = var_after q v
right_after q Many (Unary op a) = form_after q (Unary op a)
right_after q Many (Binary op a b) = form_after q (Binary op a b)
right_after q Many (Apply f args) = form_after q (Apply f args)
right_after q Many (Standard f a) = form_after q (Standard f a)
right_after q Many (AtInput f) = form_after q (AtInput f)
right_after q NoSort form = form_after q form

pub test_after : (q : ℕ) (ms : List ℤ) → after_test q ms ≡ q + length ms
test_after q [] = omega arith
test_after q (m ∷ ms) = omega (arith, test_after (q + 1) ms)

pub tests_after : (q : ℕ) (arms : Arms) → after_tests q arms ≡ q + tests_length arms
tests_after q NoArm = omega arith
tests_after q (Or (On ms s) rest) = omega (arith, test_after q ms, tests_after (after_test q ms) rest)

module _ (p : Program) where
  mutual
    pub stmt_after : (q : ℕ) (s : Stmt) → after_statement p q s ≡ q + stmt_length p s
    stmt_after q Empty = omega arith
    stmt_after q (Assign v (Typed k form)) = omega (arith, var_after q v, right_after (after_var q v) (sort p k) form)
    stmt_after q (Call f args) = omega (arith, actuals_after q args)
    stmt_after q (Sequence ss) = all_after q ss
    stmt_after q (If e a) = omega (arith, value_after q e, stmt_after (after_value q e + 1) a)
    stmt_after q (IfElse e a b) = omega (
      arith,
      value_after q e,
      stmt_after (after_value q e + 1) a,
      stmt_after (after_statement p (after_value q e + 1) a + 1) b,
    )
    stmt_after q (While e s) = omega (arith, value_after q e, stmt_after (after_value q e + 1 + 1) s)
    stmt_after q (Repeat s e) = omega (arith, stmt_after (q + 1) s, value_after (after_statement p (q + 1) s) e)
    stmt_after q (For x from down to s) = omega (
      arith,
      value_after q from,
      value_after (after_value q from) to,
      stmt_after (after_value (after_value q from) to + 1 + 1) s,
    )
    stmt_after q (Case e arms) = omega (
      arith,
      value_after q e,
      tests_after (after_value q e) arms,
      arms_after (after_tests (after_value q e) arms + 1) arms,
    )
    stmt_after q (Parallel ss) = omega (arith, children_after (q + 1 + 1) ss)
    stmt_after q (Forall x from to s) = omega (
      arith,
      value_after q from,
      value_after (after_value q from) to,
      stmt_after (after_value (after_value q from) to + 1 + 1) s,
    )
    stmt_after q (Assume e) = omega (arith, value_after q e)
    stmt_after q (ReadValue v) = omega (arith, var_after q v)
    stmt_after q ReadLine = refl
    stmt_after q (WriteValue e w) = omega (arith, value_after q e, width_after (after_value q e) w)
    stmt_after q (WriteText t w) = omega (arith, width_after q w)
    stmt_after q WriteLine = refl
    stmt_after q (Open v) = omega (arith, var_after q v)
    stmt_after q (Send c e) = omega (arith, value_after q c, value_after (after_value q c) e)
    stmt_after q (Receive c v) = omega (arith, value_after q c, var_after (after_value q c) v)

    pub all_after : (q : ℕ) (ss : Stmts) → after_all p q ss ≡ q + all_length p ss
    all_after q No = omega arith
    all_after q (And s rest) = omega (arith, stmt_after q s, all_after (after_statement p q s) rest)

    pub children_after : (q : ℕ) (ss : Stmts) → after_children p q ss ≡ q + children_length p ss
    children_after q No = omega arith
    children_after q (And s rest) = omega (arith, stmt_after q s, children_after (after_statement p q s + 1) rest)

    pub arms_after : (q : ℕ) (arms : Arms) → after_arms p q arms ≡ q + arms_length p arms
    arms_after q NoArm = omega arith
    arms_after q (Or (On ms s) rest) = omega (arith, stmt_after q s, arms_after (after_statement p q s + 1) rest)

  blocks_after : (q : ℕ) (ks : List Block) → after_blocks p q ks ≡ q + blocks_length p ks
  blocks_after q [] = omega arith
  blocks_after q (k ∷ ks) = omega (arith, stmt_after q k.body, blocks_after (after_block p q k) ks)

  pub tree_after : tree_length p ≡ blocks_length p p.blocks
  tree_after = omega (arith, blocks_after 0 p.blocks)

-- ---- lengths of code

unary_count : (op : UnaryOp) → length (unary_code op) ≡ unary_length op
unary_count unary.Plus = refl
unary_count unary.Minus = refl
unary_count unary.Not = refl

standard_count : (f : StandardFn) (t : Option KindOf) → length (standard_code f t) ≡ standard_length f
standard_count standard.Abs t = refl
standard_count _ _ = refl

-- one more instruction behind, and in between
pub last_count : (xs : List Instr) (x : Instr) (n : ℕ) → length xs ≡ n → length (xs ++ x ∷ []) ≡ n + 1
last_count xs x n e = omega (arith, length-append xs (x ∷ []), e)

both_count : (xs ys : List Instr) (m n : ℕ) → length xs ≡ m → length ys ≡ n → length (xs ++ ys) ≡ m + n
both_count xs ys m n e f = omega (arith, length-append xs ys, e, f)

module _ (p : Program) where
  mutual
    pub value_count : (sc : List Scope) (e : Expr) → length (value_code p sc e) ≡ value_length e
    value_count sc (Typed k form) = form_count sc k form

    pub form_count : (sc : List Scope) (k : ℕ) (form : ExprForm) → length (form_code p sc k form) ≡ form_length form
    form_count sc k (Number n) = refl
    form_count sc k (Read v) = last_count (var_code p sc v) _ (var_length v) (var_count sc v)
    form_count sc k (Unary op a) = both_count (value_code p sc a) (unary_code op) _ _ (value_count sc a)
        (unary_count op)
    form_count sc k (Binary op a b) =
        both_count (value_code p sc a) (value_code p sc b ++ binary_instr op ∷ []) _ (value_length b + 1)
        (value_count sc a) (last_count (value_code p sc b) _ _ (value_count sc b))
        ∙ omega arith
    form_count sc k (Apply f args) = last_count (actuals_code p sc args) _ (actuals_length args) (actuals_count sc args)
    form_count sc k (Standard f a) = both_count (value_code p sc a) (standard_code f (kind_at p k)) _ _
        (value_count sc a) (standard_count f (kind_at p k))
    form_count sc k (AtInput f) = refl

    pub var_count : (sc : List Scope) (v : Var) → length (var_code p sc v) ≡ var_length v
    var_count sc (Entire x ss) = omega (arith, selectors_count sc (type_by (slice_get p.variables x)) ss)

    pub selectors_count : (sc : List Scope) (k : ℕ) (ss : Selectors)
        → length (selectors_code p sc k ss) ≡ selectors_length ss
    selectors_count sc k Whole = refl
    selectors_count sc k (Select (Index e) rest) =
        both_count (value_code p sc e) _ _ (suc (selectors_length rest)) (value_count sc e)
        (ap suc (selectors_count sc (element_type k (kind_at p k)) rest)) ∙ omega arith
    selectors_count sc k (Select (Field f) rest) = omega (arith, selectors_count sc (field_type k (kind_at p k) f) rest)

    pub actuals_count : (sc : List Scope) (args : Actuals) → length (actuals_code p sc args) ≡ actuals_length args
    actuals_count sc Nothing = refl
    actuals_count sc (Pass (ByValue e) rest) =
        both_count (value_code p sc e) (actuals_code p sc rest) _ _ (value_count sc e) (actuals_count sc rest)
    actuals_count sc (Pass (ByReference v) rest) =
        both_count (var_code p sc v) (actuals_code p sc rest) _ _ (var_count sc v) (actuals_count sc rest)

  pub width_count : (sc : List Scope) (w : Option Expr) → length (width_code p sc w) ≡ width_length w
  width_count sc None = refl
  width_count sc (Some e) = value_count sc e

  pub right_count : (sc : List Scope) (k : ℕ) (z : Sort) (form : ExprForm)
      → length (right_code p sc k z form) ≡ right_length z form
  right_count sc k Ordinals form = form_count sc k form
  right_count sc k Channels form = form_count sc k form
  right_count sc k Many (Number n) = form_count sc k (Number n)
  right_count sc k Many (Read v) = var_count sc v
  right_count sc k Many (Unary op a) = form_count sc k (Unary op a)
  right_count sc k Many (Binary op a b) = form_count sc k (Binary op a b)
  right_count sc k Many (Apply f args) = form_count sc k (Apply f args)
  right_count sc k Many (Standard f a) = form_count sc k (Standard f a)
  right_count sc k Many (AtInput f) = form_count sc k (AtInput f)
  right_count sc k NoSort form = form_count sc k form

  test_count : (ms : List ℤ) (b : ℕ) → length (test_code ms b) ≡ length ms
  test_count [] b = refl
  test_count (m ∷ ms) b = ap suc (test_count ms b)

  pub tests_count : (arms : Arms) (b : ℕ) → length (tests_code p arms b) ≡ tests_length arms
  tests_count NoArm b = refl
  tests_count (Or (On ms s) rest) b = both_count (test_code ms b) (tests_code p rest (after_statement p b s + 1)) _ _
      (test_count ms b) (tests_count rest (after_statement p b s + 1))

  mutual
    pub code_count : (sc : List Scope) (t n q : ℕ) (s : Stmt) → length (code p sc t n q s) ≡ stmt_length p s
    code_count sc t n q Empty = refl
    code_count sc t n q (Assign v (Typed k form)) =
        both_count (var_code p sc v) (right_code p sc k (sort p k) form ++ assign_instr (sort p k) (size p k) ∷ []) _
        (right_length (sort p k) form + 1) (var_count sc v)
        (last_count (right_code p sc k (sort p k) form) _ _ (right_count sc k (sort p k) form))
        ∙ omega arith
    code_count sc t n q (Call f args) = last_count (actuals_code p sc args) _ _ (actuals_count sc args)
    code_count sc t n q (Sequence ss) = all_count sc t n q ss
    code_count sc t n q (If e a) =
        let u = after_value q e in
        both_count (value_code p sc e) (i.Jumpf (after_statement p (u + 1) a) ∷ code p sc t n (u + 1) a) _
        (suc (stmt_length p a))
        (value_count sc e) (ap suc (code_count sc t n (u + 1) a)) ∙ omega arith
    code_count sc t n q (IfElse e a b) =
        let u = after_value q e in
        let j = after_statement p (u + 1) a in
        both_count (value_code p sc e) (i.Jumpf (j + 1)
        ∷ (code p sc t n (u + 1) a ++ (i.Jump (after_statement p (j + 1) b)
        ∷ code p sc (t + tables_in a) (n + texts_in a) (j + 1) b))) _
        (suc (stmt_length p a + suc (stmt_length p b))) (value_count sc e)
        (ap suc (both_count (code p sc t n (u + 1) a) _ _ (suc (stmt_length p b)) (code_count sc t n (u + 1) a)
        (ap suc (code_count sc (t + tables_in a) (n + texts_in a) (j + 1) b)))) ∙ omega arith
    code_count sc t n q (While e s) =
        let u = after_value q e in
        let j = after_statement p (u + 1 + 1) s in
        both_count (value_code p sc e) (i.Jumpf (j + 1) ∷ i.Tick ∷ (code p sc t n (u + 1 + 1) s ++ i.Jump q ∷ [])) _
        (suc (suc (stmt_length p s + 1))) (value_count sc e)
        (ap (λ (m : ℕ). suc (suc m)) (last_count (code p sc t n (u + 1 + 1) s) _ _ (code_count sc t n (u + 1 + 1) s)))
        ∙ omega arith
    code_count sc t n q (Repeat s e) =
        let w = both_count (code p sc t n (q + 1) s) (value_code p sc e ++ i.Jumpf q ∷ []) _ (value_length e + 1)
        (code_count sc t n (q + 1) s) (last_count (value_code p sc e) _ _ (value_count sc e)) in
        ap suc w ∙ omega arith
    code_count sc t n q (For x from down to s) =
        let u = after_value (after_value q from) to in
        let j = after_statement p (u + 1 + 1) s in
        both_count (value_code p sc from) _ _ (value_length to + suc (suc (stmt_length p s + 1))) (value_count sc from)
        (both_count (value_code p sc to) _ _ (suc (suc (stmt_length p s + 1))) (value_count sc to)
        (ap (λ (m : ℕ). suc (suc m)) (last_count (code p sc t n (u + 1 + 1) s)
        (if down then i.Nextdown (slot p x) (u + 1) else i.Nextup (slot p x) (u + 1)) _
        (code_count sc t n (u + 1 + 1) s)))) ∙ omega arith
    code_count sc t n q (Case e arms) =
        let b = after_tests (after_value q e) arms in
        both_count (value_code p sc e) _ _ (tests_length arms + suc (arms_length p arms)) (value_count sc e)
        (both_count (tests_code p arms (b + 1)) _ _ (suc (arms_length p arms)) (tests_count arms (b + 1))
        (ap suc (arms_count sc t n (b + 1) arms (after_arms p (b + 1) arms)))) ∙ omega arith
    code_count sc t n q (Parallel ss) = omega (arith, children_count sc (t + 1) n (q + 1 + 1) ss)
    code_count sc t n q (Forall x from to s) =
        let b = after_value (after_value q from) to in
        both_count (value_code p sc from) _ _ (value_length to + suc (suc (stmt_length p s + 1))) (value_count sc from)
        (both_count (value_code p sc to) _ _ (suc (suc (stmt_length p s + 1))) (value_count sc to)
        (ap (λ (m : ℕ). suc (suc m)) (last_count (code p (OfIndex x ∷ sc) (t + 1) n (b + 1 + 1) s) i.End _
        (code_count (OfIndex x ∷ sc) (t + 1) n (b + 1 + 1) s)))) ∙ omega arith
    code_count sc t n q (Assume e) = last_count (value_code p sc e) _ _ (value_count sc e)
    code_count sc t n q (ReadValue v) = last_count (var_code p sc v) _ _ (var_count sc v)
    code_count sc t n q ReadLine = refl
    code_count sc t n q (WriteValue e w) =
        both_count (value_code p sc e) (width_code p sc w ++ write_instr (kind_at p (kind_of e)) (is_given w) ∷ []) _
        (width_length w + 1) (value_count sc e) (last_count (width_code p sc w) _ _ (width_count sc w))
        ∙ omega arith
    code_count sc t n q (WriteText s w) = last_count (width_code p sc w) _ _ (width_count sc w)
    code_count sc t n q WriteLine = refl
    code_count sc t n q (Open v) = last_count (var_code p sc v) _ _ (var_count sc v)
    code_count sc t n q (Send c e) =
        both_count (value_code p sc c) (value_code p sc e ++ i.Send (kind_of e) ∷ []) _ (value_length e + 1)
        (value_count sc c) (last_count (value_code p sc e) _ _ (value_count sc e)) ∙ omega arith
    code_count sc t n q (Receive c v) =
        both_count (value_code p sc c) (var_code p sc v ++ i.Receive (type_of p v) ∷ []) _ (var_length v + 1)
        (value_count sc c) (last_count (var_code p sc v) _ _ (var_count sc v)) ∙ omega arith

    pub all_count : (sc : List Scope) (t n q : ℕ) (ss : Stmts) → length (code_all p sc t n q ss) ≡ all_length p ss
    all_count sc t n q No = refl
    all_count sc t n q (And s rest) = both_count (code p sc t n q s) _ _ _ (code_count sc t n q s)
        (all_count sc (t + tables_in s) (n + texts_in s) (after_statement p q s) rest)

    pub children_count : (sc : List Scope) (t n q : ℕ) (ss : Stmts)
        → length (code_children p sc t n q ss) ≡ children_length p ss
    children_count sc t n q No = refl
    children_count sc t n q (And s rest) =
        both_count (code p sc t n q s) _ _ (suc (children_length p rest)) (code_count sc t n q s)
        (ap suc (children_count sc (t + tables_in s) (n + texts_in s) (after_statement p q s + 1) rest)) ∙ omega arith

    pub arms_count : (sc : List Scope) (t n q : ℕ) (arms : Arms) (end : ℕ)
        → length (code_arms p sc t n q arms end) ≡ arms_length p arms
    arms_count sc t n q NoArm end = refl
    arms_count sc t n q (Or (On ms s) rest) end =
        both_count (code p sc t n q s) _ _ (suc (arms_length p rest)) (code_count sc t n q s)
        (ap suc (arms_count sc (t + tables_in s) (n + texts_in s) (after_statement p q s + 1) rest end)) ∙ omega arith

  pub blocks_count : (b t n q : ℕ) (ks : List Block) → length (blocks_code p b t n q ks) ≡ blocks_length p ks
  blocks_count b t n q [] = refl
  blocks_count b t n q (k ∷ ks) =
      both_count (block_code p b t n q k) _ _ _
      (last_count (code p (scopes_of p b) t n q k.body) (end_instr b) _ (code_count (scopes_of p b) t n q k.body))
      (blocks_count (suc b) (t + tables_in k.body) (n + texts_in k.body) (after_block p q k) ks)

-- ---- how many fork tables

-- of two lists
parts_count : {X : Type 0} (xs ys : List X) (m n : ℕ) → length xs ≡ m → length ys ≡ n → length (xs ++ ys) ≡ m + n
parts_count xs ys m n e f = omega (arith, length-append xs ys, e, f)

module _ (p : Program) (moves shares : Stmt → List ℕ) where
  abbrev T : ℕ → Stmt → List ForkTable
  T q s = tables p moves shares q s

  mutual
    pub tables_count : (q : ℕ) (s : Stmt) → length (tables p moves shares q s) ≡ tables_in s
    tables_count q (Sequence ss) = tables_all_count q ss
    tables_count q (If e a) = tables_count (after_value q e + 1) a
    tables_count q (IfElse e a b) =
        parts_count (T (after_value q e + 1) a) (T (after_statement p (after_value q e + 1) a + 1) b)
        _ _ (tables_count (after_value q e + 1) a) (tables_count (after_statement p (after_value q e + 1) a + 1) b)
    tables_count q (While e s) = tables_count (after_value q e + 1 + 1) s
    tables_count q (Repeat s e) = tables_count (q + 1) s
    tables_count q (For x from down to s) = tables_count (after_value (after_value q from) to + 1 + 1) s
    tables_count q (Case e arms) = tables_arms_count (after_tests (after_value q e) arms + 1) arms
    tables_count q (Parallel ss) = ap suc (tables_children_count (q + 1 + 1) ss) ∙ omega arith
    tables_count q (Forall x from to s) = ap suc (tables_count (after_value (after_value q from) to + 1 + 1) s)
        ∙ omega arith
    tables_count _ _ = refl

    pub tables_all_count : (q : ℕ) (ss : Stmts) → length (tables_all p moves shares q ss) ≡ tables_in_all ss
    tables_all_count q No = refl
    tables_all_count q (And s rest) = parts_count (T q s) (tables_all p moves shares (after_statement p q s) rest) _ _
        (tables_count q s) (tables_all_count (after_statement p q s) rest)

    pub tables_children_count : (q : ℕ) (ss : Stmts) → length (tables_children p moves shares q ss) ≡ tables_in_all ss
    tables_children_count q No = refl
    tables_children_count q (And s rest) =
        parts_count (T q s) (tables_children p moves shares (after_statement p q s + 1) rest) _
        _ (tables_count q s) (tables_children_count (after_statement p q s + 1) rest)

    pub tables_arms_count : (q : ℕ) (arms : Arms) → length (tables_arms p moves shares q arms) ≡ tables_in_arms arms
    tables_arms_count q NoArm = refl
    tables_arms_count q (Or (On ms s) rest) =
        parts_count (T q s) (tables_arms p moves shares (after_statement p q s + 1) rest) _ _ (tables_count q s)
        (tables_arms_count (after_statement p q s + 1) rest)
