-- Where the list of a statement's instructions stands, with its fork tables and texts, the statement stands.
use Rattle.std.proofs.Common.{◌≡◌, ℕ, ◌+◌, ℤ, List, [], ◌∷◌, ◌++◌, length, Option, Some, None, Bool, ap, ◌∙◌, subst}
use Rattle.std.proofs.Common.{arith, refl}
use Rattle.std.specs.Prelude.{slice_get}
use Rattle.sp_tree.specs.declared.checked.KindOf.{KindOf}
use Rattle.sp_tree.specs.declared.checked.KindOf.TheVariants as kind
use Rattle.sp_tree.specs.declared.checked.Role.{Role}
use Rattle.sp_tree.specs.declared.checked.Role.TheVariants as role
use Rattle.sp_tree.specs.declared.operators.UnaryOp.{UnaryOp}
use Rattle.sp_tree.specs.declared.operators.UnaryOp.TheVariants as unary
use Rattle.sp_tree.specs.declared.operators.StandardFn.{StandardFn}
use Rattle.sp_tree.specs.declared.operators.StandardFn.TheVariants as standard
use Rattle.sp_tree.specs.Plain.{Expr, Typed, ExprForm, Number, Read, Unary, Binary, Apply, Standard, AtInput, Var}
use Rattle.sp_tree.specs.Plain.{Entire, Index, Field, Selectors, Whole, Select, ByValue, ByReference, Actuals, Nothing}
use Rattle.sp_tree.specs.Plain.{Pass, Program, Variable, Block, Stmt, Empty, Assign, Call, Sequence, If, IfElse, While}
use Rattle.sp_tree.specs.Plain.{Repeat, For, Case, Parallel, Forall, Assume, ReadValue, ReadLine, WriteValue, WriteText}
use Rattle.sp_tree.specs.Plain.{WriteLine, Open, Send, Receive, Stmts, No, And, On, Arms, NoArm, Or}
use Rattle.sp_code.specs.declared.instr.Instr.{Instr}
use Rattle.sp_code.specs.declared.instr.Instr.TheVariants as i
use Rattle.sp_code.specs.declared.code.ForkTable.{ForkTable}
use Rattle.sp_code.specs.declared.code.Parts.{Parts}
use Rattle.sp_code.specs.Scopes.{Sort, Ordinals, Channels, Many, NoSort, Scope, OfIndex, is_given, kind_at, sort, size}
use Rattle.sp_code.specs.Scopes.{slot, second_or, element_type, field_type, selected_type, type_by, type_of}
use Rattle.sp_code.specs.Places.{after_value, after_form, after_var, after_actuals, after_width, after_test}
use Rattle.sp_code.specs.Places.{after_tests, after_statement, after_arms}
use Rattle.sp_code.specs.TreeCode.{or_none, unary_code, standard_code, input_instr, read_instr, index_instr}
use Rattle.sp_code.specs.TreeCode.{field_instr}
use Rattle.sp_code.specs.TreeCode.{write_instr, reading_instr, assign_instr, addr_by, addr_of, call_up, call_instr}
use Rattle.sp_code.specs.TreeCode.{test_code, tables_in, texts_of, texts_of_all, texts_of_arms, texts_in, addr_code}
use Rattle.sp_code.specs.TreeCode.{value_code, form_code, var_code, selectors_code, actuals_code, width_code}
use Rattle.sp_code.specs.TreeCode.{right_code}
use Rattle.sp_code.specs.TreeCode.{tests_code, code, code_all, code_children, code_arms, tables, tables_all}
use Rattle.sp_code.specs.TreeCode.{tables_children, tables_arms}
use Rattle.sp_code.specs.CodeOfTree.{AnyInstr, AnyTable, AnyText, CodeAt, HasFork, HasWords, HasAt, VarRole, VarAt}
use Rattle.sp_code.specs.CodeOfTree.{ReadAt, UnaryAt, StandardAt, InputAt, Around, CallAt, ValueAt, FormAt, PlaceAt}
use Rattle.sp_code.specs.CodeOfTree.{SelectedAt, ActualsAt, OrdinalAt, WidthAt, ReadsAt, RightAt, TestAt, TestsAt}
use Rattle.sp_code.specs.CodeOfTree.{StatementAt, AllAt, ChildrenAt, ArmsAt}
use Rattle.sp_code.proofs.Counts.{value_after, form_after, var_after, actuals_after, width_after, tests_after}
use Rattle.sp_code.proofs.Counts.{stmt_after, value_count, form_count, var_count, actuals_count, width_count}
use Rattle.sp_code.proofs.Counts.{tests_count, code_count, tables_count}

-- the first part of what stands at q, and the part behind it
pub has_front : {X : Type 0} (xs : List X) (q : ℕ) (a b : List X) → HasAt xs q (a ++ b) → HasAt xs q a
has_front xs q [] b h = tt
has_front xs q (x ∷ a) b h = (h.0, has_front xs (q + 1) a b h.1)

pub has_back : {X : Type 0} (xs : List X) (q r : ℕ) (a b : List X) → q + length a ≡ r → HasAt xs q (a ++ b)
    → HasAt xs r b
has_back xs q r [] b e h = let w : q ≡ r = omega arith in subst (λ n. HasAt xs n b) w h
has_back xs q r (x ∷ a) b e h = has_back xs (q + 1) r a b (omega arith) h.1

-- the tests of an arm
test_stop : (q : ℕ) (ms : List ℤ) (b : ℕ) → q + length (test_code ms b) ≡ after_test q ms
test_stop q [] b = omega arith
test_stop q (m ∷ ms) b = omega (arith, test_stop (q + 1) ms b)

module _ (p : Program) (moves shares : Stmt → List ℕ) (all : Parts) (callable : ℕ → Type 0) where
  abbrev Here : ℕ → List Instr → Type 0
  Here q xs = HasAt all.instrs q xs

  abbrev Tables : ℕ → List ForkTable → Type 0
  Tables t xs = HasAt all.forks t xs

  abbrev Texts : ℕ → List (List ℕ) → Type 0
  Texts n xs = HasAt all.texts n xs

  -- what the rules give, and what stands
  abbrev FV : List Scope → ℕ → Expr → Type 0
  FV sc q e = ValueAt p moves shares AnyInstr AnyTable AnyText callable sc q e

  abbrev SV : List Scope → ℕ → Expr → Type 0
  SV sc q e = ValueAt p moves shares (CodeAt all) (HasFork all) (HasWords all) callable sc q e

  abbrev F : Bool → List Scope → ℕ → Stmt → Type 0
  F free sc q s = StatementAt p moves shares AnyInstr AnyTable AnyText callable free sc q s

  abbrev S : Bool → List Scope → ℕ → Stmt → Type 0
  S free sc q s = StatementAt p moves shares (CodeAt all) (HasFork all) (HasWords all) callable free sc q s

  -- the place behind a part's code
  pub value_stop : (sc : List Scope) (q : ℕ) (e : Expr) → q + length (value_code p sc e) ≡ after_value q e
  value_stop sc q e = omega (arith, value_count p sc e, value_after q e)

  pub form_stop : (sc : List Scope) (q k : ℕ) (form : ExprForm) → q + length (form_code p sc k form) ≡ after_form q form
  form_stop sc q k form = omega (arith, form_count p sc k form, form_after q form)

  pub var_stop : (sc : List Scope) (q : ℕ) (v : Var) → q + length (var_code p sc v) ≡ after_var q v
  var_stop sc q v = omega (arith, var_count p sc v, var_after q v)

  pub actuals_stop : (sc : List Scope) (q : ℕ) (args : Actuals)
      → q + length (actuals_code p sc args) ≡ after_actuals q args
  actuals_stop sc q args = omega (arith, actuals_count p sc args, actuals_after q args)

  pub width_stop : (sc : List Scope) (q : ℕ) (w : Option Expr) → q + length (width_code p sc w) ≡ after_width q w
  width_stop sc q w = omega (arith, width_count p sc w, width_after q w)

  pub tests_stop : (q : ℕ) (arms : Arms) (b : ℕ) → q + length (tests_code p arms b) ≡ after_tests q arms
  tests_stop q arms b = omega (arith, tests_count p arms b, tests_after q arms)

  pub code_stop : (sc : List Scope) (t n q : ℕ) (s : Stmt) → q + length (code p sc t n q s) ≡ after_statement p q s
  code_stop sc t n q s = omega (arith, code_count p sc t n q s, stmt_after p q s)

  pub tables_stop : (t q : ℕ) (s : Stmt) → t + length (tables p moves shares q s) ≡ t + tables_in s
  tables_stop t q s = ap (λ (m : ℕ). t + m) (tables_count p moves shares q s)

  pub texts_stop : (n : ℕ) (s : Stmt) → n + length (texts_of s) ≡ n + texts_in s
  texts_stop n s = refl

  -- ---- variables and operators

  role_stands : (sc : List Scope) (q x : ℕ) (v : Variable) (r : Role)
      → VarRole p moves shares AnyInstr AnyTable AnyText callable sc q x v r
      → slice_get all.instrs q ≡ Some (addr_by sc x (slot p x) v r)
      → VarRole p moves shares (CodeAt all) (HasFork all) (HasWords all) callable sc q x v r
  role_stands sc q x v role.Console f h = absurd f
  role_stands sc q x v role.Local f h = (f.0, f.1, h ∙ ap (λ (o : Option ℕ). Some (i.Addr (or_none o) (slot p x))) f.1)
  role_stands sc q x v role.Value f h = (f.0, f.1, h ∙ ap (λ (o : Option ℕ). Some (i.Addr (or_none o) (slot p x))) f.1)
  role_stands sc q x v role.Reference f h = (
    f.0,
    f.1,
    h
        ∙ ap (λ (o : Option ℕ). Some (i.Deref (or_none o) (slot p x))) f.1,
  )
  role_stands sc q x v role.Index (up, found, _, is_ordinal) h = (
    up,
    found,
    h
        ∙ ap (λ (o : Option ℕ). Some (i.Addr (or_none o) 0)) found,
    is_ordinal,
  )
  role_stands sc q x v role.Answer f h = (f.0, f.1, h ∙ ap (λ (o : Option ℕ). Some (i.Addr (or_none o) (slot p x))) f.1)

  addr_stands : (sc : List Scope) (q x k : ℕ) → VarAt p moves shares AnyInstr AnyTable AnyText callable sc q x k
      → slice_get all.instrs q ≡ Some (addr_code p sc x)
      → VarAt p moves shares (CodeAt all) (HasFork all) (HasWords all) callable sc q x k
  addr_stands sc q x k (v, found, same_type, by_role) h = (
    v,
    found,
    same_type,
    role_stands sc q x v v.role by_role (h ∙ ap (λ (o : Option Variable). Some (addr_of sc x (slot p x) o)) found),
  )

  read_stands : (q k : ℕ) (z : Sort) → ReadAt p moves shares AnyInstr AnyTable AnyText callable q k z
      → slice_get all.instrs q ≡ Some (read_instr z (size p k))
      → ReadAt p moves shares (CodeAt all) (HasFork all) (HasWords all) callable q k z
  read_stands q k Ordinals f h = h
  read_stands q k Channels f h = h
  read_stands q k Many f h = h
  read_stands q k NoSort f h = absurd f

  unary_stands : (q : ℕ) (op : UnaryOp) → Here q (unary_code op)
      → UnaryAt p moves shares (CodeAt all) (HasFork all) (HasWords all) callable q op
  unary_stands q unary.Plus h = tt
  unary_stands q unary.Minus h = h.0
  unary_stands q unary.Not h = h.0

  standard_stands : (q : ℕ) (f : StandardFn) (t : KindOf)
      → StandardAt p moves shares AnyInstr AnyTable AnyText callable q f t → Here q (standard_code f (Some t))
      → StandardAt p moves shares (CodeAt all) (HasFork all) (HasWords all) callable q f t
  standard_stands q standard.Ord t f h = tt
  standard_stands q standard.Eof t f h = absurd f
  standard_stands q standard.Eoln t f h = absurd f
  standard_stands _ _ _ _ h = h.0

  input_stands : (q : ℕ) (f : StandardFn) → InputAt p moves shares AnyInstr AnyTable AnyText callable q f
      → slice_get all.instrs q ≡ Some (input_instr f)
      → InputAt p moves shares (CodeAt all) (HasFork all) (HasWords all) callable q f
  input_stands q standard.Eof f h = h
  input_stands q standard.Eoln f h = h
  input_stands _ _ f _ = absurd f

  up_is : (sc : List Scope) (f : ℕ) (o : Option ℕ) (up : ℕ)
      → Around p moves shares AnyInstr AnyTable AnyText callable sc f o up → call_up sc o ≡ up
  up_is sc f None up h = absurd h
  up_is sc f (Some b) up h = ap or_none h.0

  call_stands : (sc : List Scope) (q f : ℕ) (b : Block)
      → CallAt p moves shares AnyInstr AnyTable AnyText callable sc q f b
      → slice_get all.instrs q ≡ Some (call_instr sc f (slice_get p.blocks f))
      → CallAt p moves shares (CodeAt all) (HasFork all) (HasWords all) callable sc q f b
  call_stands sc q f b h k = (
    h.0,
    h.1,
    h.2,
    k ∙ ap (λ (o : Option Block). Some (call_instr sc f o)) h.1
        ∙ ap (λ (n : ℕ). Some (i.Call f n)) (up_is sc f b.parent h.0 h.2),
  )

  -- ---- expressions

  mutual
    pub value_stands : (sc : List Scope) (q : ℕ) (e : Expr) → FV sc q e → Here q (value_code p sc e) → SV sc q e
    value_stands sc q (Typed k form) f h = form_stands sc q k form f h

    pub form_stands : (sc : List Scope) (q k : ℕ) (form : ExprForm)
        → FormAt p moves shares AnyInstr AnyTable AnyText callable sc q k form → Here q (form_code p sc k form)
        → FormAt p moves shares (CodeAt all) (HasFork all) (HasWords all) callable sc q k form
    form_stands sc q k (Number n) f h = (h.0, f.1)
    form_stands sc q k (Read v) f h = (
      place_stands sc q v k f.0 (has_front all.instrs q (var_code p sc v) _ h),
      read_stands (after_var q v) k (sort p k) f.1
          (has_back all.instrs q _ (var_code p sc v) _ (var_stop sc q v) h).0,
    )
    form_stands sc q k (Unary op a) f h = (
      value_stands sc q a f.0 (has_front all.instrs q (value_code p sc a) _ h),
      f.1,
      f.2,
      unary_stands (after_value q a) op (has_back all.instrs q _ (value_code p sc a) _ (value_stop sc q a) h),
    )
    form_stands sc q k (Binary op a b) (first, second, _, sorts, is_ordinal) h =
        let g = has_back all.instrs q (after_value q a) (value_code p sc a) _ (value_stop sc q a) h in (
          value_stands sc q a first (has_front all.instrs q (value_code p sc a) _ h),
          value_stands sc (after_value q a) b second (has_front all.instrs _ (value_code p sc b) _ g),
          (has_back all.instrs _ _ (value_code p sc b) _ (value_stop sc (after_value q a) b) g).0,
          sorts,
          is_ordinal,
        )
    form_stands sc q k (Apply g args) (b, actuals, called, answers, is_ordinal) h = (
      b,
      actuals_stands sc q args b.formals actuals (has_front all.instrs q (actuals_code p sc args) _ h),
      call_stands sc (after_actuals q args) g b called
          (has_back all.instrs q _ (actuals_code p sc args) _ (actuals_stop sc q args) h).0,
      answers,
      is_ordinal,
    )
    form_stands sc q k (Standard g a) (t, found, operand, takes_ordinal, is_ordinal, by_function) h = (
      t,
      found,
      value_stands sc q a operand (has_front all.instrs q (value_code p sc a) _ h),
      takes_ordinal,
      is_ordinal,
      standard_stands (after_value q a) g t by_function
          (subst (λ (o : Option KindOf). Here (after_value q a) (standard_code g o)) found
          (has_back all.instrs q _ (value_code p sc a) _ (value_stop sc q a) h)),
    )
    form_stands sc q k (AtInput g) f h = (input_stands q g f.0 h.0, f.1)

    pub place_stands : (sc : List Scope) (q : ℕ) (v : Var) (k : ℕ)
        → PlaceAt p moves shares AnyInstr AnyTable AnyText callable sc q v k → Here q (var_code p sc v)
        → PlaceAt p moves shares (CodeAt all) (HasFork all) (HasWords all) callable sc q v k
    place_stands sc q (Entire x ss) k (held, there, selected) h =
        let (_, found, same_type, _) = there in
        let e : type_by (slice_get p.variables x) ≡ held = ap type_by found ∙ same_type in (
          held,
          addr_stands sc q x held there h.0,
          selected_stands sc (q + 1) ss held k selected
              (subst (λ (n : ℕ). Here (q + 1) (selectors_code p sc n ss)) e h.1),
        )

    pub selected_stands : (sc : List Scope) (q : ℕ) (ss : Selectors) (k k2 : ℕ)
        → SelectedAt p moves shares AnyInstr AnyTable AnyText callable sc q ss k k2 → Here q (selectors_code p sc k ss)
        → SelectedAt p moves shares (CodeAt all) (HasFork all) (HasWords all) callable sc q ss k k2
    selected_stands sc q Whole k k2 f h = f
    selected_stands sc q (Select (Index e) rest) k k2 (low, high, index, element, found, value, ordinal, _, behind) h =
        let g = has_back all.instrs q (after_value q e) (value_code p sc e) _ (value_stop sc q e) h in
        let w = subst (λ (o : Option KindOf). Here (after_value q e)
        (index_instr o (size p (element_type k o)) ∷ selectors_code p sc (element_type k o) rest)) found g in (
          low,
          high,
          index,
          element,
          found,
          value_stands sc q e value (has_front all.instrs q (value_code p sc e) _ h),
          ordinal,
          w.0,
          selected_stands sc (after_value q e + 1) rest element k2 behind w.1,
        )
    selected_stands sc q (Select (Field g) rest) k k2 (fs, name, t, found, has_field, _, behind) h =
        let w = subst (λ (o : Option KindOf). Here q (field_instr p g o ∷ selectors_code p sc (field_type k o g) rest))
        found h in (
          fs,
          name,
          t,
          found,
          has_field,
          w.0,
          selected_stands sc (q + 1) rest t k2 behind
              (subst (λ (n : ℕ). Here (q + 1) (selectors_code p sc n rest)) (ap (second_or k) has_field) w.1),
        )

    pub actuals_stands : (sc : List Scope) (q : ℕ) (args : Actuals) (xs : List ℕ)
        → ActualsAt p moves shares AnyInstr AnyTable AnyText callable sc q args xs → Here q (actuals_code p sc args)
        → ActualsAt p moves shares (CodeAt all) (HasFork all) (HasWords all) callable sc q args xs
    actuals_stands sc q Nothing [] f h = tt
    actuals_stands sc q Nothing (x ∷ xs) f h = absurd f
    actuals_stands sc q (Pass (ByValue e) rest) [] f h = absurd f
    actuals_stands sc q (Pass (ByReference v) rest) [] f h = absurd f
    actuals_stands sc q (Pass (ByValue e) rest) (x ∷ xs) f h = (
      value_stands sc q e f.0 (has_front all.instrs q (value_code p sc e) _ h),
      f.1,
      actuals_stands sc (after_value q e) rest xs f.2
          (has_back all.instrs q _ (value_code p sc e) _ (value_stop sc q e) h),
    )
    actuals_stands sc q (Pass (ByReference v) rest) (x ∷ xs) (k, place, is_target, is_formal, others) h = (
      k,
      place_stands sc q v k place (has_front all.instrs q (var_code p sc v) _ h),
      is_target,
      is_formal,
      actuals_stands sc (after_var q v) rest xs others
          (has_back all.instrs q _ (var_code p sc v) _ (var_stop sc q v) h),
    )

  ordinal_stands : (sc : List Scope) (q : ℕ) (e : Expr)
      → OrdinalAt p moves shares AnyInstr AnyTable AnyText callable sc q e
      → Here q (value_code p sc e) → OrdinalAt p moves shares (CodeAt all) (HasFork all) (HasWords all) callable sc q e
  ordinal_stands sc q e f h = (value_stands sc q e f.0 h, f.1)

  width_stands : (sc : List Scope) (q : ℕ) (w : Option Expr)
      → WidthAt p moves shares AnyInstr AnyTable AnyText callable sc q w → Here q (width_code p sc w)
      → WidthAt p moves shares (CodeAt all) (HasFork all) (HasWords all) callable sc q w
  width_stands sc q None f h = tt
  width_stands sc q (Some e) f h = ordinal_stands sc q e f h

  -- the type behind selectors is the one that is walked to
  selected_is : (sc : List Scope) (q : ℕ) (ss : Selectors) (k k2 : ℕ)
      → SelectedAt p moves shares AnyInstr AnyTable AnyText callable sc q ss k k2 → selected_type p k ss ≡ k2
  selected_is sc q Whole k k2 f = f
  selected_is sc q (Select (Index e) rest) k k2 (_, _, _, element, found, _, _, _, behind) =
      ap (λ (o : Option KindOf). selected_type p (element_type k o) rest) found
      ∙ selected_is sc (after_value q e + 1) rest element k2 behind
  selected_is sc q (Select (Field g) rest) k k2 (_, _, t, found, has_field, _, behind) =
      ap (λ (o : Option KindOf). selected_type p (field_type k o g) rest) found
      ∙ ap (λ (n : ℕ). selected_type p n rest) (ap (second_or k) has_field) ∙ selected_is sc (q + 1) rest t k2 behind

  type_is : (sc : List Scope) (q : ℕ) (v : Var) (k : ℕ)
      → PlaceAt p moves shares AnyInstr AnyTable AnyText callable sc q v k → type_of p v ≡ k
  type_is sc q (Entire x ss) k (held, (_, found, same_type, _), selected) =
      ap (λ (n : ℕ). selected_type p n ss) (ap type_by found ∙ same_type)
      ∙ selected_is sc (q + 1) ss held k selected

  -- ---- statements

  right_stands : (sc : List Scope) (q k : ℕ) (z : Sort) (form : ExprForm)
      → RightAt p moves shares AnyInstr AnyTable AnyText callable sc q k z form
      → Here q (right_code p sc k z form ++ assign_instr z (size p k) ∷ [])
      → RightAt p moves shares (CodeAt all) (HasFork all) (HasWords all) callable sc q k z form
  right_stands sc q k Ordinals form f h = (
    form_stands sc q k form f.0
        (has_front all.instrs q (form_code p sc k form) _ h),
    (has_back all.instrs q _ (form_code p sc k form) _ (form_stop sc q k form) h).0,
  )
  right_stands sc q k Channels form f h = (
    form_stands sc q k form f.0
        (has_front all.instrs q (form_code p sc k form) _ h),
    (has_back all.instrs q _ (form_code p sc k form) _ (form_stop sc q k form) h).0,
  )
  right_stands sc q k Many (Number n) f h = absurd f
  right_stands sc q k Many (Read v) f h = (
    place_stands sc q v k f.0 (has_front all.instrs q (var_code p sc v) _ h),
    (has_back all.instrs q _ (var_code p sc v) _ (var_stop sc q v) h).0,
  )
  right_stands sc q k Many (Unary op a) f h = absurd f
  right_stands sc q k Many (Binary op a b) f h = absurd f
  right_stands sc q k Many (Apply g args) f h = absurd f
  right_stands sc q k Many (Standard g a) f h = absurd f
  right_stands sc q k Many (AtInput g) f h = absurd f
  right_stands sc q k NoSort form f h = absurd f

  reads_stands : (q : ℕ) (t : KindOf) → ReadsAt p moves shares AnyInstr AnyTable AnyText callable q t
      → slice_get all.instrs q ≡ Some (reading_instr (Some t))
      → ReadsAt p moves shares (CodeAt all) (HasFork all) (HasWords all) callable q t
  reads_stands q kind.Integer f h = h
  reads_stands q kind.Char f h = h
  reads_stands _ _ f _ = absurd f

  test_stands : (q : ℕ) (ms : List ℤ) (b : ℕ) → Here q (test_code ms b)
      → TestAt p moves shares (CodeAt all) (HasFork all) (HasWords all) callable q ms b
  test_stands q [] b h = tt
  test_stands q (m ∷ ms) b h = (h.0, test_stands (q + 1) ms b h.1)

  tests_stand : (q : ℕ) (arms : Arms) (b : ℕ) → Here q (tests_code p arms b)
      → TestsAt p moves shares (CodeAt all) (HasFork all) (HasWords all) callable q arms b
  tests_stand q NoArm b h = tt
  tests_stand q (Or (On ms s) rest) b h = (
    test_stands q ms b (has_front all.instrs q (test_code ms b) _ h),
    tests_stand (after_test q ms) rest (after_statement p b s + 1)
        (has_back all.instrs q _ (test_code ms b) _ (test_stop q ms b) h),
  )

  mutual
    pub stands : (free : Bool) (sc : List Scope) (t n q : ℕ) (s : Stmt) → F free sc q s → Here q (code p sc t n q s)
        → Tables t (tables p moves shares q s) → Texts n (texts_of s) → S free sc q s
    stands free sc t n q Empty f h a w = tt
    stands free sc t n q (Assign v (Typed k form)) f h a w = (
      place_stands sc q v k f.0 (has_front all.instrs q (var_code p sc v) _ h),
      f.1,
      right_stands sc (after_var q v) k (sort p k) form f.2
          (has_back all.instrs q _ (var_code p sc v) _ (var_stop sc q v) h),
    )
    stands free sc t n q (Call g args) (b, actuals, called, no_answer, is_callable) h a w = (
      b,
      actuals_stands sc q args b.formals actuals (has_front all.instrs q (actuals_code p sc args) _ h),
      call_stands sc (after_actuals q args) g b called
          (has_back all.instrs q _ (actuals_code p sc args) _ (actuals_stop sc q args) h).0,
      no_answer,
      is_callable,
    )
    stands free sc t n q (Sequence ss) f h a w = all_stand free sc t n q ss f h a w
    stands free sc t n q (If e s) f h a w =
        let u = after_value q e in
        let g = has_back all.instrs q u (value_code p sc e) _ (value_stop sc q e) h in (
          ordinal_stands sc q e f.0 (has_front all.instrs q (value_code p sc e) _ h),
          g.0,
          stands free sc t n (u + 1) s f.2 g.1 a w,
        )
    stands free sc t n q (IfElse e s d) (condition, _, first, _, second) h a w =
        let u = after_value q e in
        let j = after_statement p (u + 1) s in
        let g = has_back all.instrs q u (value_code p sc e) _ (value_stop sc q e) h in
        let r = has_back all.instrs (u + 1) j (code p sc t n (u + 1) s) _ (code_stop sc t n (u + 1) s) g.1 in (
          ordinal_stands sc q e condition (has_front all.instrs q (value_code p sc e) _ h),
          g.0,
          stands free sc t n (u + 1) s first (has_front all.instrs (u + 1) (code p sc t n (u + 1) s) _ g.1)
              (has_front all.forks t (tables p moves shares (u + 1) s) _ a) (has_front all.texts n (texts_of s) _ w),
          r.0,
          stands free sc (t + tables_in s) (n + texts_in s) (j + 1) d second r.1
              (has_back all.forks t _ (tables p moves shares (u + 1) s) _ (tables_stop t (u + 1) s) a)
              (has_back all.texts n _ (texts_of s) _ (texts_stop n s) w),
        )
    stands free sc t n q (While e s) (condition, _, _, body, _) h a w =
        let u = after_value q e in
        let j = after_statement p (u + 1 + 1) s in
        let (leaves, (ticks, turn)) = has_back all.instrs q u (value_code p sc e) _ (value_stop sc q e) h in (
          ordinal_stands sc q e condition (has_front all.instrs q (value_code p sc e) _ h),
          leaves,
          ticks,
          stands free sc t n (u + 1 + 1) s body (has_front all.instrs (u + 1 + 1) (code p sc t n (u + 1 + 1) s) _ turn)
              a w,
          (has_back all.instrs (u + 1 + 1) j (code p sc t n (u + 1 + 1) s) _ (code_stop sc t n (u + 1 + 1) s) turn).0,
        )
    stands free sc t n q (Repeat s e) f h a w =
        let u = after_statement p (q + 1) s in
        let g = has_back all.instrs (q + 1) u (code p sc t n (q + 1) s) _ (code_stop sc t n (q + 1) s) h.1 in (
          h.0,
          stands free sc t n (q + 1) s f.1 (has_front all.instrs (q + 1) (code p sc t n (q + 1) s) _ h.1) a w,
          ordinal_stands sc u e f.2 (has_front all.instrs u (value_code p sc e) _ g),
          (has_back all.instrs u _ (value_code p sc e) _ (value_stop sc u e) g).0,
        )
    stands free sc t n q (For x from down to s) (first, last, (is_for, _, _, body, _)) h a w =
        let m = after_value q from in
        let u = after_value m to in
        let j = after_statement p (u + 1 + 1) s in
        let g = has_back all.instrs q m (value_code p sc from) _ (value_stop sc q from) h in
        let (begins, (ticks, turn)) = has_back all.instrs m u (value_code p sc to) _ (value_stop sc m to) g in (
          ordinal_stands sc q from first (has_front all.instrs q (value_code p sc from) _ h),
          ordinal_stands sc m to last (has_front all.instrs m (value_code p sc to) _ g),
          (
            is_for,
            begins,
            ticks,
            stands free sc t n (u + 1 + 1) s body
                (has_front all.instrs (u + 1 + 1) (code p sc t n (u + 1 + 1) s) _ turn) a w,
            (has_back all.instrs (u + 1 + 1) j (code p sc t n (u + 1 + 1) s) _ (code_stop sc t n (u + 1 + 1) s)
                turn).0,
          ),
        )
    stands free sc t n q (Case e arms) (condition, _, _, chosen) h a w =
        let u = after_value q e in
        let b = after_tests u arms in
        let g = has_back all.instrs q u (value_code p sc e) _ (value_stop sc q e) h in
        let r = has_back all.instrs u b (tests_code p arms (b + 1)) _ (tests_stop u arms (b + 1)) g in (
          ordinal_stands sc q e condition (has_front all.instrs q (value_code p sc e) _ h),
          tests_stand u arms (b + 1) (has_front all.instrs u (tests_code p arms (b + 1)) _ g),
          r.0,
          arms_stand free sc t n (b + 1) arms (after_arms p (b + 1) arms) chosen r.1 a w,
        )
    stands free sc t n q (Parallel ss) (_, _, _, _, children, is_free) (forks, (jumps, below)) a w =
        (t, a.0, forks, jumps, children_stand free sc (t + 1) n (q + 1 + 1) ss children below a.1 w, is_free)
    stands free sc t n q (Forall x from to s) (_, _, first, last, _, _, body, _, is_free) h a w =
        let m = after_value q from in
        let b = after_value m to in
        let j = after_statement p (b + 1 + 1) s in
        let g = has_back all.instrs q m (value_code p sc from) _ (value_stop sc q from) h in
        let (forks, (jumps, child)) = has_back all.instrs m b (value_code p sc to) _ (value_stop sc m to) g in (
          t,
          a.0,
          ordinal_stands sc q from first (has_front all.instrs q (value_code p sc from) _ h),
          ordinal_stands sc m to last (has_front all.instrs m (value_code p sc to) _ g),
          forks,
          jumps,
          stands free (OfIndex x ∷ sc) (t + 1) n (b + 1 + 1) s body
              (has_front all.instrs (b + 1 + 1) (code p (OfIndex x ∷ sc) (t + 1) n (b + 1 + 1) s) _ child) a.1 w,
          (has_back all.instrs (b + 1 + 1) j (code p (OfIndex x ∷ sc) (t + 1) n (b + 1 + 1) s) _
              (code_stop (OfIndex x ∷ sc) (t + 1) n (b + 1 + 1) s) child).0,
          is_free,
        )
    stands free sc t n q (Assume e) f h a w = (
      ordinal_stands sc q e f.0 (has_front all.instrs q (value_code p sc e) _ h),
      (has_back all.instrs q _ (value_code p sc e) _ (value_stop sc q e) h).0,
    )
    stands free sc t n q (ReadValue v) (read_type, read_kind, place, is_target, found, reads) h a w =
        let k = (has_back all.instrs q (after_var q v) (var_code p sc v) _ (var_stop sc q v) h).0
        ∙ ap (λ (m : ℕ). Some (reading_instr (kind_at p m))) (type_is sc q v read_type place)
        ∙ ap (λ (o : Option KindOf). Some (reading_instr o)) found in (
          read_type,
          read_kind,
          place_stands sc q v read_type place (has_front all.instrs q (var_code p sc v) _ h),
          is_target,
          found,
          reads_stands (after_var q v) read_kind reads k,
        )
    stands free sc t n q ReadLine f h a w = h.0
    stands free sc t n q (WriteValue e x) (written_kind, value, found, width, _, is_written) h a w =
        let u = after_value q e in
        let g = has_back all.instrs q u (value_code p sc e) _ (value_stop sc q e) h in (
          written_kind,
          ordinal_stands sc q e value (has_front all.instrs q (value_code p sc e) _ h),
          found,
          width_stands sc u x width (has_front all.instrs u (width_code p sc x) _ g),
          (has_back all.instrs u _ (width_code p sc x) _ (width_stop sc u x) g).0
              ∙ ap (λ (o : Option KindOf). Some (write_instr o (is_given x))) found,
          is_written,
        )
    stands free sc t n q (WriteText s x) f h a w = (
      n,
      w.0,
      width_stands sc q x f.2 (has_front all.instrs q (width_code p sc x) _ h),
      (has_back all.instrs q _ (width_code p sc x) _ (width_stop sc q x) h).0,
    )
    stands free sc t n q WriteLine f h a w = h.0
    stands free sc t n q (Open v) (opened_type, place, is_target, is_channel, _, is_free) h a w = (
      opened_type,
      place_stands sc q v opened_type place (has_front all.instrs q (var_code p sc v) _ h),
      is_target,
      is_channel,
      (has_back all.instrs q _ (var_code p sc v) _ (var_stop sc q v) h).0,
      is_free,
    )
    stands free sc t n q (Send c e) (channel, is_channel, message, _, is_free) h a w =
        let u = after_value q c in
        let g = has_back all.instrs q u (value_code p sc c) _ (value_stop sc q c) h in (
          value_stands sc q c channel (has_front all.instrs q (value_code p sc c) _ h),
          is_channel,
          value_stands sc u e message (has_front all.instrs u (value_code p sc e) _ g),
          (has_back all.instrs u _ (value_code p sc e) _ (value_stop sc u e) g).0,
          is_free,
        )
    stands free sc t n q (Receive c v) (received_type, channel, is_channel, place, is_target, _, is_free) h a w =
        let u = after_value q c in
        let g = has_back all.instrs q u (value_code p sc c) _ (value_stop sc q c) h in (
          received_type,
          value_stands sc q c channel (has_front all.instrs q (value_code p sc c) _ h),
          is_channel,
          place_stands sc u v received_type place (has_front all.instrs u (var_code p sc v) _ g),
          is_target,
          (has_back all.instrs u _ (var_code p sc v) _ (var_stop sc u v) g).0
              ∙ ap (λ (m : ℕ). Some (i.Receive m)) (type_is sc u v received_type place),
          is_free,
        )

    pub all_stand : (free : Bool) (sc : List Scope) (t n q : ℕ) (ss : Stmts)
        → AllAt p moves shares AnyInstr AnyTable AnyText callable free sc q ss → Here q (code_all p sc t n q ss)
        → Tables t (tables_all p moves shares q ss) → Texts n (texts_of_all ss)
        → AllAt p moves shares (CodeAt all) (HasFork all) (HasWords all) callable free sc q ss
    all_stand free sc t n q No f h a w = tt
    all_stand free sc t n q (And s rest) f h a w = (
      stands free sc t n q s f.0 (has_front all.instrs q (code p sc t n q s) _ h)
          (has_front all.forks t (tables p moves shares q s) _ a) (has_front all.texts n (texts_of s) _ w),
      all_stand free sc (t + tables_in s) (n + texts_in s) (after_statement p q s) rest f.1
          (has_back all.instrs q _ (code p sc t n q s) _ (code_stop sc t n q s) h)
          (has_back all.forks t _ (tables p moves shares q s) _ (tables_stop t q s) a)
          (has_back all.texts n _ (texts_of s) _ (texts_stop n s) w),
    )

    pub children_stand : (free : Bool) (sc : List Scope) (t n q : ℕ) (ss : Stmts)
        → ChildrenAt p moves shares AnyInstr AnyTable AnyText callable free sc q ss
        → Here q (code_children p sc t n q ss)
        → Tables t (tables_children p moves shares q ss) → Texts n (texts_of_all ss)
        → ChildrenAt p moves shares (CodeAt all) (HasFork all) (HasWords all) callable free sc q ss
    children_stand free sc t n q No f h a w = tt
    children_stand free sc t n q (And s rest) f h a w =
        let g = has_back all.instrs q (after_statement p q s) (code p sc t n q s) _ (code_stop sc t n q s) h in (
          stands free sc t n q s f.0 (has_front all.instrs q (code p sc t n q s) _ h)
              (has_front all.forks t (tables p moves shares q s) _ a) (has_front all.texts n (texts_of s) _ w),
          g.0,
          children_stand free sc (t + tables_in s) (n + texts_in s) (after_statement p q s + 1) rest f.2 g.1
              (has_back all.forks t _ (tables p moves shares q s) _ (tables_stop t q s) a)
              (has_back all.texts n _ (texts_of s) _ (texts_stop n s) w),
        )

    pub arms_stand : (free : Bool) (sc : List Scope) (t n q : ℕ) (arms : Arms) (end : ℕ)
        → ArmsAt p moves shares AnyInstr AnyTable AnyText callable free sc q arms end
        → Here q (code_arms p sc t n q arms end) → Tables t (tables_arms p moves shares q arms)
        → Texts n (texts_of_arms arms)
        → ArmsAt p moves shares (CodeAt all) (HasFork all) (HasWords all) callable free sc q
        arms end
    arms_stand free sc t n q NoArm end f h a w = tt
    arms_stand free sc t n q (Or (On ms s) rest) end f h a w =
        let g = has_back all.instrs q (after_statement p q s) (code p sc t n q s) _ (code_stop sc t n q s) h in (
          stands free sc t n q s f.0 (has_front all.instrs q (code p sc t n q s) _ h)
              (has_front all.forks t (tables p moves shares q s) _ a) (has_front all.texts n (texts_of s) _ w),
          g.0,
          arms_stand free sc (t + tables_in s) (n + texts_in s) (after_statement p q s + 1) rest end f.2 g.1
              (has_back all.forks t _ (tables p moves shares q s) _ (tables_stop t q s) a)
              (has_back all.texts n _ (texts_of s) _ (texts_stop n s) w),
        )
