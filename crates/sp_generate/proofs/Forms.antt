-- What is written for the parts of a statement is what is to be written for the statement.
use Rattle.std.proofs.Common.{◌≡◌, ℕ, suc, ◌+◌, ℤ, List, [], ◌∷◌, ◌++◌, Bool, if◌then◌else◌, Option, Some}
use Rattle.std.proofs.Common.{length, refl, sym, ap, ◌∙◌, arith, append_assoc, length-append, append-nil}
use Rattle.sp_base.specs.declared.place.Place.{Place}
use Rattle.sp_tree.specs.PlainChecked as c
use Rattle.sp_tree.specs.CheckedOf.{sends, receives}
use Rattle.sp_tree.specs.Bare.{bare_expression, bare_variable, bare_actuals, bare_width, bare_statement}
use Rattle.sp_tree.specs.Bare.{bare_statement_form, bare_statements, bare_arms}
use Rattle.sp_tree.specs.Around.{Scope, OfIndex}
use Rattle.sp_tree.specs.Plain as b
use Rattle.sp_code.specs.declared.instr.Instr.{Instr}
use Rattle.sp_code.specs.declared.instr.Instr.TheVariants as i
use Rattle.sp_code.specs.declared.code.ForkTable.{ForkTable}
use Rattle.sp_code.specs.declared.code.ChildTable.{ChildTable}
use Rattle.sp_code.specs.Scopes.{kind_of, kind_at, type_of, is_given, slot}
use Rattle.sp_code.specs.Places.{after_value, after_tests, after_statement, after_children, after_arms}
use Rattle.sp_code.specs.TreeCode.{value_code, var_code, width_code, write_instr, reading_instr, tests_code, code}
use Rattle.sp_code.specs.TreeCode.{code_all, code_children, code_arms, tables_in, tables_in_all, tables_in_arms}
use Rattle.sp_code.specs.TreeCode.{texts_in, texts_of, texts_of_all, texts_of_arms}
use Rattle.sp_code.proofs.Counts.{value_after, value_count, stmt_after, code_count, children_after, children_count}
use Rattle.sp_code.proofs.Counts.{arms_after, arms_count, tests_after, tests_count}
use Rattle.sp_generate.specs.CodeBuffers.{WrittenCode}
use Rattle.sp_generate.specs.Views.{call_code}
use Rattle.sp_generate.specs.Steps.{for_instr, next_instr}
use Rattle.sp_generate.specs.Tables.{child, children, tables, form_tables, tables_all, tables_children, tables_arms}
use Rattle.sp_generate.specs.CodeBuffers.{assign_code, buffer_of, with_code, buffer_after, buffer_after_form}
use Rattle.sp_generate.specs.CodeBuffers.{buffer_after_all}
use Rattle.sp_generate.specs.CodeBuffers.{buffer_after_children, buffer_after_arms, buffer_after_branch}
use Rattle.sp_generate.specs.CodeBuffers.{buffer_after_passed, buffer_after_loop, buffer_after_forall}
use Rattle.sp_generate.specs.CodeBuffers.{buffer_after_case}
use Rattle.sp_generate.specs.CodeBuffers.{starts_of, ends_of, blank_tests, filled_ends, filled_tests, sends_code}
use Rattle.sp_generate.specs.CodeBuffers.{receives_code}
use Rattle.sp_generate.proofs.CaseTests.{ends_filled, tests_filled, blank_length}

-- instructions alone
abbrev alone : WrittenCode → List Instr → WrittenCode
alone d xs = record { instrs = d.instrs ++ xs; forks = d.forks ++ []; texts = d.texts ++ [] }

plain_is : (d : WrittenCode) (xs : List Instr) → with_code d xs ≡ alone d xs
plain_is d xs = λ k. record {
  instrs = d.instrs ++ xs;
  forks = sym (append-nil d.forks) k;
  texts = sym (append-nil d.texts) k;
}

-- a buffer in which instructions were put last
pub wrote : {K L : Type 0} (d : WrittenCode) (xs : List Instr) {e : WrittenCode} {ys : List Instr}
    → (K → L × (ys ≡ d.instrs ++ xs)) → with_code d xs ≡ e → K → L × (buffer_of ys d.forks d.texts ≡ e)
wrote d xs h s k = let r = h k in (r.0, ap (λ (zs : List Instr). buffer_of zs d.forks d.texts) r.1 ∙ s)

-- a buffer that was made
pub went : {K L : Type 0} {x y z : WrittenCode} → (K → L × (x ≡ y)) → y ≡ z → K → L × (x ≡ z)
went h e k = let r = h k in (r.0, r.1 ∙ e)

two_of : {A : Type 0} (xs ys : List A) (m : ℕ) → length ys ≡ m → length (xs ++ ys) ≡ length xs + m
two_of xs ys m e = omega (arith, length-append xs ys, e)

module _ (p : b.Program) (mv sh : ℕ → List ℕ) (sc : List Scope) where
  pub statement_is : (d : WrittenCode) (m : ℕ) (at : Place) (form : c.Form)
      → buffer_after_form p mv sh d sc form ≡ buffer_after p mv sh d sc (c.Does m at form)
  unfolding buffer_after buffer_after_form
  statement_is d m at form = refl

  pub sequence_is : (d : WrittenCode) (ss : c.Statements)
      → buffer_after_all p mv sh d sc ss ≡ buffer_after_form p mv sh d sc (c.Sequence ss)
  unfolding buffer_after_all buffer_after_form
  sequence_is d ss = refl

  -- ---- statements with no statement inside

  pub empty_is : (d : WrittenCode) → d ≡ buffer_after_form p mv sh d sc c.Empty
  unfolding buffer_after_form
  empty_is d = λ k. record {
    instrs = sym (append-nil d.instrs) k;
    forks = sym (append-nil d.forks) k;
    texts = sym (append-nil d.texts) k;
  }

  assigned : (t n q : ℕ) (v : b.Var) (e : b.Expr) → assign_code p sc v e ≡ code p sc t n q (b.Assign v e)
  assigned t n q v (b.Typed k form) = refl

  pub assign_is : (d : WrittenCode) (v : c.Variable) (e : c.Expression)
      → with_code d (assign_code p sc (bare_variable v) (bare_expression e)) ≡ buffer_after_form p mv sh d sc
      (c.Assign v e)
  unfolding buffer_after_form
  assign_is d v e =
      plain_is d (assign_code p sc (bare_variable v) (bare_expression e))
      ∙ ap (alone d) (assigned (length d.forks) (length d.texts) (length d.instrs) (bare_variable v)
      (bare_expression e))

  pub call_is : (d : WrittenCode) (f : ℕ) (args : c.Actuals)
      → with_code d (call_code p sc f (bare_actuals args)) ≡ buffer_after_form p mv sh d sc (c.Call f args)
  unfolding buffer_after_form
  call_is d f args = plain_is d _

  pub assume_is : (d : WrittenCode) (e : c.Expression)
      → with_code d (value_code p sc (bare_expression e) ++ i.Assume ∷ []) ≡ buffer_after_form p mv sh d sc (c.Assume e)
  unfolding buffer_after_form
  assume_is d e = plain_is d _

  pub read_is : (d : WrittenCode) (v : c.Variable)
      → with_code d (var_code p sc (bare_variable v) ++ reading_instr (kind_at p (type_of p (bare_variable v))) ∷ [])
      ≡ buffer_after_form p mv sh d sc (c.ReadValue v)
  unfolding buffer_after_form
  read_is d v = plain_is d _

  pub readln_is : (d : WrittenCode) → with_code d (i.Readln ∷ []) ≡ buffer_after_form p mv sh d sc c.ReadLine
  unfolding buffer_after_form
  readln_is d = plain_is d _

  pub write_is : (d : WrittenCode) (e : c.Expression) (w : Option c.Expression)
      → with_code d (value_code p sc (bare_expression e)
      ++ (width_code p sc (bare_width w)
      ++ write_instr (kind_at p (kind_of (bare_expression e))) (is_given (bare_width w)) ∷ []))
      ≡ buffer_after_form p mv sh d sc (c.WriteValue e w)
  unfolding buffer_after_form
  write_is d e w = plain_is d _

  pub writeln_is : (d : WrittenCode) → with_code d (i.Writeln ∷ []) ≡ buffer_after_form p mv sh d sc c.WriteLine
  unfolding buffer_after_form
  writeln_is d = plain_is d _

  pub open_is : (d : WrittenCode) (v : c.Variable)
      → with_code d (var_code p sc (bare_variable v) ++ i.Open ∷ []) ≡ buffer_after_form p mv sh d sc (c.Open v)
  unfolding buffer_after_form
  open_is d v = plain_is d _

  pub send_is : (d : WrittenCode) (ch e : c.Expression)
      → with_code d (value_code p sc (bare_expression ch)
      ++ (value_code p sc (bare_expression e) ++ i.Send (kind_of (bare_expression e)) ∷ []))
      ≡ buffer_after_form p mv sh d sc (c.Send ch e)
  unfolding buffer_after_form
  send_is d ch e = plain_is d _

  pub receive_is : (d : WrittenCode) (ch : c.Expression) (v : c.Variable)
      → with_code d (value_code p sc (bare_expression ch)
      ++ (var_code p sc (bare_variable v) ++ i.Receive (type_of p (bare_variable v)) ∷ []))
      ≡ buffer_after_form p mv sh d sc (c.Receive ch v)
  unfolding buffer_after_form
  receive_is d ch v = plain_is d _

  pub text_is : (d : WrittenCode) (t : List ℕ) (w : Option c.Expression) (xs : List Instr)
      → xs ≡ d.instrs ++ (width_code p sc (bare_width w)
      ++ (if is_given (bare_width w) then i.WritewText (length d.texts) else i.WriteText (length d.texts)) ∷ [])
      → buffer_of xs (d.forks) (d.texts ++ t ∷ []) ≡ buffer_after_form p mv sh d sc (c.WriteText t w)
  unfolding buffer_after_form
  text_is d t w xs e = λ k. record { instrs = e k; forks = sym (append-nil d.forks) k; texts = d.texts ++ t ∷ [] }

  -- several values on one channel
  sends_code_is : (t n q m : ℕ) (at : Place) (ch : c.Expression) (es : List c.Expression)
      → sends_code p sc (bare_expression ch) es ≡ code_all p sc t n q (bare_statements (sends m at ch es))
  sends_code_is t n q m at ch [] = refl
  sends_code_is t n q m at ch (e ∷ es) =
      ap (λ xs. (value_code p sc (bare_expression ch)
      ++ (value_code p sc (bare_expression e) ++ i.Send (kind_of (bare_expression e)) ∷ [])) ++ xs)
      (sends_code_is (t + 0) (n + 0) (after_statement p q (b.Send (bare_expression ch) (bare_expression e))) (m + 1)
      at ch es)

  sends_tables : (q m : ℕ) (at : Place) (ch : c.Expression) (es : List c.Expression)
      → [] ≡ tables_all p mv sh q (sends m at ch es)
  sends_tables q m at ch [] = refl
  sends_tables q m at ch (e ∷ es) = sends_tables (after_statement p q (b.Send (bare_expression ch) (bare_expression e)))
      (m + 1)
      at ch es

  sends_texts : (m : ℕ) (at : Place) (ch : c.Expression) (es : List c.Expression)
      → [] ≡ texts_of_all (bare_statements (sends m at ch es))
  sends_texts m at ch [] = refl
  sends_texts m at ch (e ∷ es) = sends_texts (m + 1) at ch es

  pub sends_are : (d : WrittenCode) (m : ℕ) (at : Place) (ch : c.Expression) (es : List c.Expression)
      → with_code d (sends_code p sc (bare_expression ch) es)
      ≡ buffer_after_form p mv sh d sc (c.Sequence (sends m at ch es))
  unfolding buffer_after_form
  sends_are d m at ch es =
      plain_is d (sends_code p sc (bare_expression ch) es)
      ∙ λ k. record {
        instrs = d.instrs ++ sends_code_is (length d.forks) (length d.texts) (length d.instrs) m at ch es
            k;
        forks = d.forks ++ sends_tables (length d.instrs) m at ch es k;
        texts = d.texts
            ++ sends_texts m at ch es k;
      }

  receives_code_is : (t n q m : ℕ) (at : Place) (ch : c.Expression) (vs : List c.Variable)
      → receives_code p sc (bare_expression ch) vs ≡ code_all p sc t n q (bare_statements (receives m at ch vs))
  receives_code_is t n q m at ch [] = refl
  receives_code_is t n q m at ch (v ∷ vs) =
      ap (λ xs. (value_code p sc (bare_expression ch)
      ++ (var_code p sc (bare_variable v) ++ i.Receive (type_of p (bare_variable v)) ∷ [])) ++ xs)
      (receives_code_is (t + 0) (n + 0) (after_statement p q (b.Receive (bare_expression ch) (bare_variable v)))
      (m + 1) at ch
      vs)

  receives_tables : (q m : ℕ) (at : Place) (ch : c.Expression) (vs : List c.Variable)
      → [] ≡ tables_all p mv sh q (receives m at ch vs)
  receives_tables q m at ch [] = refl
  receives_tables q m at ch (v ∷ vs) =
      receives_tables (after_statement p q (b.Receive (bare_expression ch) (bare_variable v)))
      (m + 1) at ch vs

  receives_texts : (m : ℕ) (at : Place) (ch : c.Expression) (vs : List c.Variable)
      → [] ≡ texts_of_all (bare_statements (receives m at ch vs))
  receives_texts m at ch [] = refl
  receives_texts m at ch (v ∷ vs) = receives_texts (m + 1) at ch vs

  pub receives_are : (d : WrittenCode) (m : ℕ) (at : Place) (ch : c.Expression) (vs : List c.Variable)
      → with_code d (receives_code p sc (bare_expression ch) vs)
      ≡ buffer_after_form p mv sh d sc (c.Sequence (receives m at ch vs))
  unfolding buffer_after_form
  receives_are d m at ch vs =
      plain_is d (receives_code p sc (bare_expression ch) vs)
      ∙ λ k. record {
        instrs = d.instrs ++ receives_code_is (length d.forks) (length d.texts) (length d.instrs) m at ch
            vs k;
        forks = d.forks ++ receives_tables (length d.instrs) m at ch vs k;
        texts = d.texts
            ++ receives_texts m at ch vs k;
      }

  -- ---- places and counts

  value_place : (xs : List Instr) (e : b.Expr) → length (xs ++ value_code p sc e) ≡ after_value (length xs) e
  value_place xs e = two_of xs (value_code p sc e) _ (value_count p sc e) ∙ sym (value_after (length xs) e)

  code_place : (xs : List Instr) (t n q : ℕ) (s : b.Stmt) → length (xs ++ code p sc t n q s)
      ≡ after_statement p (length xs) s
  code_place xs t n q s = two_of xs (code p sc t n q s) _ (code_count p sc t n q s) ∙ sym (stmt_after p (length xs) s)

  mutual
    tables_count : (q : ℕ) (s : c.Statement) → length (tables p mv sh q s) ≡ tables_in (bare_statement s)
    tables_count q (c.Does n at form) = form_count q form

    form_count : (q : ℕ) (form : c.Form) → length (form_tables p mv sh q form) ≡ tables_in (bare_statement_form form)
    form_count q c.Empty = refl
    form_count q (c.Assign v e) = refl
    form_count q (c.Call f args) = refl
    form_count q (c.Sequence ss) = all_count q ss
    form_count q (c.If e s c.NoElse) = tables_count _ s
    form_count q (c.If e s (c.Else t)) = two_of (tables p mv sh _ s) (tables p mv sh _ t) _ (tables_count _ t)
        ∙ ap (λ (m : ℕ). m + tables_in (bare_statement t)) (tables_count _ s)
    form_count q (c.While e s) = tables_count _ s
    form_count q (c.Repeat s e) = tables_count _ s
    form_count q (c.For x at from down to s) = tables_count _ s
    form_count q (c.Case e arms) = arms_tables_count _ arms
    form_count q (c.Parallel ss) = ap suc (children_tables_count _ ss) ∙ omega arith
    form_count q (c.Forall x from to s) = ap suc (tables_count _ s) ∙ omega arith
    form_count q (c.Assume e) = refl
    form_count q (c.ReadValue v) = refl
    form_count q c.ReadLine = refl
    form_count q (c.WriteValue e w) = refl
    form_count q (c.WriteText t w) = refl
    form_count q c.WriteLine = refl
    form_count q (c.Open v) = refl
    form_count q (c.Send e f) = refl
    form_count q (c.Receive e v) = refl

    all_count : (q : ℕ) (ss : c.Statements) → length (tables_all p mv sh q ss) ≡ tables_in_all (bare_statements ss)
    all_count q c.NoStatement = refl
    all_count q (c.AndThen s rest) = two_of (tables p mv sh _ s) (tables_all p mv sh _ rest) _ (all_count _ rest)
        ∙ ap (λ (m : ℕ). m + tables_in_all (bare_statements rest)) (tables_count _ s)

    children_tables_count : (q : ℕ) (ss : c.Statements)
        → length (tables_children p mv sh q ss) ≡ tables_in_all (bare_statements ss)
    children_tables_count q c.NoStatement = refl
    children_tables_count q (c.AndThen s rest) =
        two_of (tables p mv sh _ s) (tables_children p mv sh _ rest) _ (children_tables_count _ rest)
        ∙ ap (λ (m : ℕ). m + tables_in_all (bare_statements rest)) (tables_count _ s)

    arms_tables_count : (q : ℕ) (arms : c.Arms) → length (tables_arms p mv sh q arms) ≡ tables_in_arms (bare_arms arms)
    arms_tables_count q c.NoArm = refl
    arms_tables_count q (c.Or (c.On ms s) rest) =
        two_of (tables p mv sh _ s) (tables_arms p mv sh _ rest) _ (arms_tables_count _ rest)
        ∙ ap (λ (m : ℕ). m + tables_in_arms (bare_arms rest)) (tables_count _ s)

  pub forks_place : (ts : List ForkTable) (q : ℕ) (s : c.Statement)
      → length (ts ++ tables p mv sh q s) ≡ length ts + tables_in (bare_statement s)
  forks_place ts q s = two_of ts (tables p mv sh q s) _ (tables_count q s)

  pub texts_place : (xs : List (List ℕ)) (s : b.Stmt) → length (xs ++ texts_of s) ≡ length xs + texts_in s
  texts_place xs s = two_of xs (texts_of s) (texts_in s) refl

  -- ---- sequences

  pub all_none : (d : WrittenCode) → buffer_after_all p mv sh d sc c.NoStatement ≡ d
  unfolding buffer_after_all
  all_none d = λ k. record {
    instrs = append-nil d.instrs k;
    forks = append-nil d.forks k;
    texts = append-nil d.texts k;
  }

  pub all_step : (d : WrittenCode) (s : c.Statement) (rest : c.Statements)
      → buffer_after_all p mv sh (buffer_after p mv sh d sc s) sc rest ≡ buffer_after_all p mv sh d sc
      (c.AndThen s rest)
  unfolding buffer_after buffer_after_all
  all_step d s rest =
      let t = length d.forks in
      let n = length d.texts in
      let q = length d.instrs in
      let cs = code p sc t n q (bare_statement s) in
      let et = forks_place d.forks q s in
      let en = texts_place d.texts (bare_statement s) in
      let eq = code_place d.instrs t n q (bare_statement s) in
      λ k. record {
        instrs = (append_assoc d.instrs cs (code_all p sc (length (d.forks ++ tables p mv sh q s))
            (length (d.texts ++ texts_of (bare_statement s))) (length (d.instrs ++ cs)) (bare_statements rest))
            ∙ (λ j. d.instrs ++ (cs ++ code_all p sc (et j) (en j) (eq j) (bare_statements rest)))) k;
        forks = (append_assoc d.forks (tables p mv sh q s) (tables_all p mv sh (length (d.instrs ++ cs)) rest)
            ∙ (λ j. d.forks ++ (tables p mv sh q s ++ tables_all p mv sh (eq j) rest))) k;
        texts = append_assoc d.texts (texts_of (bare_statement s)) (texts_of_all (bare_statements rest)) k;
      }

  -- ---- conditions

  pub if_is : (d : WrittenCode) (e : c.Expression) (s : c.Statement)
      → buffer_after_branch p mv sh (with_code d (value_code p sc (bare_expression e))) sc s 0
      ≡ buffer_after_form p mv sh d sc (c.If e s c.NoElse)
  unfolding buffer_after_form buffer_after_branch
  if_is d e s =
      let va = value_code p sc (bare_expression e) in
      let st = bare_statement s in
      let eq = value_place d.instrs (bare_expression e) in
      let nil : (m : ℕ) → m + 0 ≡ m = λ m. omega arith in
      λ k. record {
        instrs = (append_assoc d.instrs va (i.Jumpf (after_statement p (length (d.instrs ++ va) + 1) st + 0)
            ∷ code p sc (length d.forks) (length d.texts) (length (d.instrs ++ va) + 1) st)
            ∙ (λ j. d.instrs ++ (va ++ (i.Jumpf (after_statement p (eq j + 1) st + 0)
            ∷ code p sc (length d.forks) (length d.texts) (eq j + 1) st)))
            ∙ (λ j. d.instrs ++ (va ++ (i.Jumpf
            (nil (after_statement p (after_value (length d.instrs) (bare_expression e) + 1) st) j)
            ∷ code p sc (length d.forks) (length d.texts) (after_value (length d.instrs) (bare_expression e) + 1)
            st)))) k;
        forks = d.forks ++ tables p mv sh (eq k + 1) s;
        texts = d.texts ++ texts_of st;
      }

  -- behind a jump and a statement
  branch_place : (xs : List Instr) (x : Instr) (t n q : ℕ) (s : b.Stmt) → q ≡ length xs
      → length (xs ++ (x ∷ code p sc t n (q + 1) s)) ≡ after_statement p (q + 1) s
  branch_place xs x t n q s e = omega (
    arith,
    e,
    length-append xs (x ∷ code p sc t n (q + 1) s),
    code_count p sc t n (q + 1) s,
    stmt_after p (q + 1) s,
  )

  pub if_else_is : (d : WrittenCode) (e : c.Expression) (s o : c.Statement)
      → buffer_after_passed p mv sh (buffer_after_branch p mv sh (with_code d (value_code p sc (bare_expression e))) sc
      s 1) sc o
      ≡ buffer_after_form p mv sh d sc (c.If e s (c.Else o))
  unfolding buffer_after_form buffer_after_branch buffer_after_passed
  if_else_is d e s o =
      let va = value_code p sc (bare_expression e) in
      let t = length d.forks in
      let n = length d.texts in
      let st = bare_statement s in
      let other = bare_statement o in
      let u = length (d.instrs ++ va) in
      let eq = value_place d.instrs (bare_expression e) in
      let first = i.Jumpf (after_statement p (u + 1) st + 1) ∷ code p sc t n (u + 1) st in
      let et = forks_place d.forks (u + 1) s in
      let en = texts_place d.texts st in
      let ej = branch_place (d.instrs ++ va) (i.Jumpf (after_statement p (u + 1) st + 1)) t n u st refl in
      λ k. record {
        instrs = (append_assoc (d.instrs ++ va) first
            (i.Jump (after_statement p (length ((d.instrs ++ va) ++ first) + 1) other)
            ∷ code p sc (length (d.forks ++ tables p mv sh (u + 1) s)) (length (d.texts ++ texts_of st))
            (length ((d.instrs ++ va) ++ first) + 1) other)
            ∙ append_assoc d.instrs va (first
            ++ (i.Jump (after_statement p (length ((d.instrs ++ va) ++ first) + 1) other)
            ∷ code p sc (length (d.forks ++ tables p mv sh (u + 1) s)) (length (d.texts ++ texts_of st))
            (length ((d.instrs ++ va) ++ first) + 1) other))
            ∙ (λ j. d.instrs ++ (va ++ (first
            ++ (i.Jump (after_statement p (ej j + 1) other) ∷ code p sc (et j) (en j) (ej j + 1) other))))
            ∙ (λ j. d.instrs ++ (va ++ (i.Jumpf (after_statement p (eq j + 1) st + 1)
            ∷ (code p sc t n (eq j + 1) st
            ++ (i.Jump (after_statement p (after_statement p (eq j + 1) st + 1) other)
            ∷ code p sc (t + tables_in st) (n + texts_in st) (after_statement p (eq j + 1) st + 1) other)))))) k;
        forks = (append_assoc d.forks (tables p mv sh (u + 1) s)
            (tables p mv sh (length ((d.instrs ++ va) ++ first) + 1) o)
            ∙ (λ j. d.forks ++ (tables p mv sh (u + 1) s ++ tables p mv sh (ej j + 1) o))
            ∙ (λ j. d.forks ++ (tables p mv sh (eq j + 1) s ++ tables p mv sh (after_statement p (eq j + 1) st + 1)
            o))) k;
        texts = append_assoc d.texts (texts_of st) (texts_of other) k;
      }

  -- ---- loops

  pub while_is : (d : WrittenCode) (e : c.Expression) (s : c.Statement)
      → buffer_after_loop p mv sh (with_code d (value_code p sc (bare_expression e))) sc s i.Jumpf
      (i.Jump (length d.instrs))
      ≡ buffer_after_form p mv sh d sc (c.While e s)
  unfolding buffer_after_form buffer_after_loop
  while_is d e s =
      let va = value_code p sc (bare_expression e) in
      let st = bare_statement s in
      let eq = value_place d.instrs (bare_expression e) in
      let tail = λ (u : ℕ). i.Jumpf (after_statement p (u + 1 + 1) st + 1) ∷ i.Tick
      ∷ (code p sc (length d.forks) (length d.texts) (u + 1 + 1) st ++ i.Jump (length d.instrs) ∷ []) in
      λ k. record {
        instrs = (append_assoc d.instrs va (tail (length (d.instrs ++ va))) ∙ (λ j. d.instrs ++ (va ++ tail (eq j)))) k;
        forks = d.forks ++ tables p mv sh (eq k + 1 + 1) s;
        texts = d.texts ++ texts_of st;
      }

  pub repeat_is : (d : WrittenCode) (s : c.Statement) (e : c.Expression)
      → with_code (with_code (buffer_after p mv sh (with_code d (i.Tick ∷ [])) sc s)
      (value_code p sc (bare_expression e)))
      (i.Jumpf (length d.instrs) ∷ []) ≡ buffer_after_form p mv sh d sc (c.Repeat s e)
  unfolding buffer_after buffer_after_form
  repeat_is d s e =
      let va = value_code p sc (bare_expression e) in
      let st = bare_statement s in
      let eq : length (d.instrs ++ i.Tick ∷ []) ≡ length d.instrs + 1 = length-append d.instrs (i.Tick ∷ []) in
      let cs = λ (u : ℕ). code p sc (length d.forks) (length d.texts) u st in
      let u = length (d.instrs ++ i.Tick ∷ []) in
      λ k. record {
        instrs = (append_assoc ((d.instrs ++ i.Tick ∷ []) ++ cs u) va (i.Jumpf (length d.instrs) ∷ [])
            ∙ append_assoc (d.instrs ++ i.Tick ∷ []) (cs u) (va ++ i.Jumpf (length d.instrs) ∷ [])
            ∙ append_assoc d.instrs (i.Tick ∷ []) (cs u ++ (va ++ i.Jumpf (length d.instrs) ∷ []))
            ∙ (λ j. d.instrs ++ (i.Tick ∷ (cs (eq j) ++ (va ++ i.Jumpf (length d.instrs) ∷ []))))) k;
        forks = d.forks ++ tables p mv sh (eq k) s;
        texts = d.texts ++ texts_of st;
      }

  pub for_is : (d : WrittenCode) (x : ℕ) (at : Place) (from : c.Expression) (down : Bool) (to : c.Expression)
      (s : c.Statement)
      → buffer_after_loop p mv sh (with_code (with_code d (value_code p sc (bare_expression from)))
      (value_code p sc (bare_expression to))) sc s (for_instr down (slot p x))
      (next_instr down (slot p x) (length
      ((d.instrs ++ value_code p sc (bare_expression from)) ++ value_code p sc (bare_expression to)) + 1))
      ≡ buffer_after_form p mv sh d sc (c.For x at from down to s)
  unfolding buffer_after_form buffer_after_loop
  for_is d x at from down to s =
      let va = value_code p sc (bare_expression from) in
      let vb = value_code p sc (bare_expression to) in
      let st = bare_statement s in
      let eq : length ((d.instrs ++ va) ++ vb)
      ≡ after_value (after_value (length d.instrs) (bare_expression from)) (bare_expression to) =
      value_place (d.instrs ++ va) (bare_expression to)
      ∙ ap (λ (m : ℕ). after_value m (bare_expression to)) (value_place d.instrs (bare_expression from)) in
      let tail = λ (u : ℕ). for_instr down (slot p x) (after_statement p (u + 1 + 1) st + 1) ∷ i.Tick
      ∷ (code p sc (length d.forks) (length d.texts) (u + 1 + 1) st ++ next_instr down (slot p x) (u + 1) ∷ []) in
      λ k. record {
        instrs = (append_assoc (d.instrs ++ va) vb (tail (length ((d.instrs ++ va) ++ vb)))
            ∙ append_assoc d.instrs va (vb ++ tail (length ((d.instrs ++ va) ++ vb)))
            ∙ (λ j. d.instrs ++ (va ++ (vb ++ tail (eq j))))) k;
        forks = d.forks ++ tables p mv sh (eq k + 1 + 1) s;
        texts = d.texts ++ texts_of st;
      }

  -- ---- processes

  pub children_none : (d : WrittenCode) → buffer_after_children p mv sh d sc c.NoStatement ≡ d
  unfolding buffer_after_children
  children_none d = λ k. record {
    instrs = append-nil d.instrs k;
    forks = append-nil d.forks k;
    texts = append-nil d.texts k;
  }

  pub child_is : (d : WrittenCode) (s : c.Statement)
      → with_code (buffer_after p mv sh d sc s) (i.End ∷ []) ≡ buffer_after_children p mv sh d sc
      (c.AndThen s c.NoStatement)
  unfolding buffer_after buffer_after_children
  child_is d s = λ k. record {
    instrs = append_assoc d.instrs (code p sc (length d.forks) (length d.texts) (length d.instrs) (bare_statement s))
        (i.End ∷ []) k;
    forks = d.forks ++ sym (append-nil (tables p mv sh (length d.instrs) s)) k;
    texts = d.texts ++ sym (append-nil (texts_of (bare_statement s))) k;
  }

  pub ended_place : (xs : List Instr) (x : Instr) (t n q : ℕ) (s : b.Stmt) → q ≡ length xs
      → length (xs ++ (code p sc t n q s ++ x ∷ [])) ≡ after_statement p q s + 1
  ended_place xs x t n q s e = omega (
    arith,
    e,
    length-append xs (code p sc t n q s ++ x ∷ []),
    length-append (code p sc t n q s) (x ∷ []),
    code_count p sc t n q s,
    stmt_after p q s,
  )

  pub child_place : (d : WrittenCode) (s : c.Statement)
      → length (buffer_after_children p mv sh d sc (c.AndThen s c.NoStatement)).instrs
      ≡ after_statement p (length d.instrs) (bare_statement s) + 1
  unfolding buffer_after_children
  child_place d s = ended_place d.instrs i.End (length d.forks) (length d.texts) (length d.instrs) (bare_statement s)
      refl

  nil_forks : (ts : List ForkTable) (q : ℕ) (s : c.Statement)
      → length (ts ++ (tables p mv sh q s ++ [])) ≡ length ts + tables_in (bare_statement s)
  nil_forks ts q s = (λ j. length (ts ++ append-nil (tables p mv sh q s) j)) ∙ forks_place ts q s

  nil_texts : (xs : List (List ℕ)) (s : b.Stmt) → length (xs ++ (texts_of s ++ [])) ≡ length xs + texts_in s
  nil_texts xs s = (λ j. length (xs ++ append-nil (texts_of s) j)) ∙ texts_place xs s

  pub children_step : (d : WrittenCode) (s : c.Statement) (rest : c.Statements)
      → buffer_after_children p mv sh (buffer_after_children p mv sh d sc (c.AndThen s c.NoStatement)) sc rest
      ≡ buffer_after_children p mv sh d sc (c.AndThen s rest)
  unfolding buffer_after_children
  children_step d s rest =
      let t = length d.forks in
      let n = length d.texts in
      let q = length d.instrs in
      let st = bare_statement s in
      let cs = code p sc t n q st in
      let ts = tables p mv sh q s in
      let xs = texts_of st in
      let et = nil_forks d.forks q s in
      let en = nil_texts d.texts st in
      let eq = child_place d s in
      let others = λ (x y z : ℕ). code_children p sc x y z (bare_statements rest) in
      λ k. record {
        instrs = (append_assoc d.instrs (cs ++ i.End ∷ [])
            (others (length (d.forks ++ (ts ++ []))) (length (d.texts ++ (xs ++ [])))
            (length (d.instrs ++ (cs ++ i.End ∷ []))))
            ∙ (λ j. d.instrs ++ append_assoc cs (i.End ∷ []) (others (et j) (en j) (eq j)) j)) k;
        forks = (append_assoc d.forks (ts ++ [])
            (tables_children p mv sh (length (d.instrs ++ (cs ++ i.End ∷ []))) rest)
            ∙ (λ j. d.forks ++ (append-nil ts j ++ tables_children p mv sh (eq j) rest))) k;
        texts = (append_assoc d.texts (xs ++ []) (texts_of_all (bare_statements rest))
            ∙ (λ j. d.texts ++ (append-nil xs j ++ texts_of_all (bare_statements rest)))) k;
      }

  -- ---- the statements of a `case`

  pub arms_none : (d : WrittenCode) (end : ℕ) → buffer_after_arms p mv sh d sc c.NoArm end ≡ d
  unfolding buffer_after_arms
  arms_none d end = λ k. record {
    instrs = append-nil d.instrs k;
    forks = append-nil d.forks k;
    texts = append-nil d.texts k;
  }

  pub arm_is : (d : WrittenCode) (ms : List ℤ) (s : c.Statement) (end : ℕ)
      → with_code (buffer_after p mv sh d sc s) (i.Jump end ∷ []) ≡ buffer_after_arms p mv sh d sc
      (c.Or (c.On ms s) c.NoArm) end
  unfolding buffer_after buffer_after_arms
  arm_is d ms s end = λ k. record {
    instrs = append_assoc d.instrs (code p sc (length d.forks) (length d.texts) (length d.instrs) (bare_statement s))
        (i.Jump end ∷ []) k;
    forks = d.forks ++ sym (append-nil (tables p mv sh (length d.instrs) s)) k;
    texts = d.texts ++ sym (append-nil (texts_of (bare_statement s))) k;
  }

  pub arm_place : (d : WrittenCode) (ms : List ℤ) (s : c.Statement) (end : ℕ)
      → length (buffer_after_arms p mv sh d sc (c.Or (c.On ms s) c.NoArm) end).instrs
      ≡ after_statement p (length d.instrs) (bare_statement s) + 1
  unfolding buffer_after_arms
  arm_place d ms s end = ended_place d.instrs (i.Jump end) (length d.forks) (length d.texts) (length d.instrs)
      (bare_statement s) refl

  pub arms_step : (d : WrittenCode) (ms : List ℤ) (s : c.Statement) (rest : c.Arms) (end : ℕ)
      → buffer_after_arms p mv sh (buffer_after_arms p mv sh d sc (c.Or (c.On ms s) c.NoArm) end) sc rest end
      ≡ buffer_after_arms p mv sh d sc (c.Or (c.On ms s) rest) end
  unfolding buffer_after_arms
  arms_step d ms s rest end =
      let t = length d.forks in
      let n = length d.texts in
      let q = length d.instrs in
      let st = bare_statement s in
      let cs = code p sc t n q st in
      let ts = tables p mv sh q s in
      let xs = texts_of st in
      let et = nil_forks d.forks q s in
      let en = nil_texts d.texts st in
      let eq = arm_place d ms s end in
      let others = λ (x y z : ℕ). code_arms p sc x y z (bare_arms rest) end in
      λ k. record {
        instrs = (append_assoc d.instrs (cs ++ i.Jump end ∷ [])
            (others (length (d.forks ++ (ts ++ []))) (length (d.texts ++ (xs ++ [])))
            (length (d.instrs ++ (cs ++ i.Jump end ∷ []))))
            ∙ (λ j. d.instrs ++ append_assoc cs (i.Jump end ∷ []) (others (et j) (en j) (eq j)) j)) k;
        forks = (append_assoc d.forks (ts ++ [])
            (tables_arms p mv sh (length (d.instrs ++ (cs ++ i.Jump end ∷ []))) rest)
            ∙ (λ j. d.forks ++ (append-nil ts j ++ tables_arms p mv sh (eq j) rest))) k;
        texts = (append_assoc d.texts (xs ++ []) (texts_of_arms (bare_arms rest))
            ∙ (λ j. d.texts ++ (append-nil xs j ++ texts_of_arms (bare_arms rest)))) k;
      }

  pub case_is : (d : WrittenCode) (e : c.Expression) (arms : c.Arms)
      → buffer_after_case p mv sh (with_code d (value_code p sc (bare_expression e))) sc arms
      ≡ buffer_after_form p mv sh d sc (c.Case e arms)
  unfolding buffer_after_form buffer_after_case
  case_is d e arms =
      let va = value_code p sc (bare_expression e) in
      let bs = bare_arms arms in
      let eq = value_place d.instrs (bare_expression e) in
      let tail = λ (u : ℕ). tests_code p bs (after_tests u bs + 1)
      ++ (i.Nocase ∷ code_arms p sc (length d.forks) (length d.texts) (after_tests u bs + 1) bs
      (after_arms p (after_tests u bs + 1) bs)) in
      λ k. record {
        instrs = (append_assoc d.instrs va (tail (length (d.instrs ++ va))) ∙ (λ j. d.instrs ++ (va ++ tail (eq j)))) k;
        forks = d.forks ++ tables_arms p mv sh (after_tests (eq k) bs + 1) arms;
        texts = d.texts ++ texts_of_arms bs;
      }

  pub forall_is : (d : WrittenCode) (x : ℕ) (from to : c.Expression) (s : c.Statement)
      → buffer_after_forall p mv sh (with_code (with_code d (value_code p sc (bare_expression from)))
      (value_code p sc (bare_expression to))) sc x s ≡ buffer_after_form p mv sh d sc (c.Forall x from to s)
  unfolding buffer_after_form buffer_after_forall
  forall_is d x from to s =
      let va = value_code p sc (bare_expression from) in
      let vb = value_code p sc (bare_expression to) in
      let st = bare_statement s in
      let t = length d.forks in
      let eq : length ((d.instrs ++ va) ++ vb)
      ≡ after_value (after_value (length d.instrs) (bare_expression from)) (bare_expression to) =
      value_place (d.instrs ++ va) (bare_expression to)
      ∙ ap (λ (m : ℕ). after_value m (bare_expression to)) (value_place d.instrs (bare_expression from)) in
      let tail = λ (u : ℕ). i.Forall t ∷ i.Jump (after_statement p (u + 1 + 1) st + 1)
      ∷ (code p (OfIndex x ∷ sc) (t + 1) (length d.texts) (u + 1 + 1) st ++ i.End ∷ []) in
      λ k. record {
        instrs = (append_assoc (d.instrs ++ va) vb (tail (length ((d.instrs ++ va) ++ vb)))
            ∙ append_assoc d.instrs va (vb ++ tail (length ((d.instrs ++ va) ++ vb)))
            ∙ (λ j. d.instrs ++ (va ++ (vb ++ tail (eq j))))) k;
        forks = d.forks ++ (record { children = child p mv sh (eq k + 1 + 1) (Some x) s ∷ [] }
            ∷ tables p mv sh (eq k + 1 + 1) s);
        texts = d.texts ++ texts_of st;
      }

  -- ---- jumps that are mended

  -- y is written at a place
  abbrev Mends : List Instr → ℕ → Instr → List Instr → Type 0
  Mends xs at y ys = (a c : List Instr) (x : Instr) → xs ≡ a ++ x ∷ c → at ≡ length a → ys ≡ a ++ y ∷ c

  pub one_more : (xs ys : List Instr) (x : Instr) → ys ≡ xs ++ x ∷ [] → length ys ≡ length xs + 1
  one_more xs ys x e = omega (arith, ap length e, length-append xs (x ∷ []))

  -- a statement behind an instruction that is mended
  holed : (d d2 : WrittenCode) (s : c.Statement) (i1 xs : List Instr) (h y : Instr) (at : ℕ)
      → at ≡ length d.instrs → i1 ≡ d.instrs ++ h ∷ []
      → d2 ≡ buffer_after p mv sh (record { instrs = i1; forks = d.forks; texts = d.texts }) sc s
      → Mends d2.instrs at y xs
      → buffer_of xs (d2.forks) (d2.texts)
      ≡ record {
        instrs = d.instrs ++ (y ∷ code p sc (length d.forks) (length d.texts) (length d.instrs + 1)
            (bare_statement s));
        forks = d.forks ++ tables p mv sh (length d.instrs + 1) s;
        texts = d.texts
            ++ texts_of (bare_statement s);
      }
  unfolding buffer_after
  holed d d2 s i1 xs h y at ea e1 e2 mends =
      let cs = λ (u : ℕ). code p sc (length d.forks) (length d.texts) u (bare_statement s) in
      let eq = one_more d.instrs i1 h e1 in
      let there : d2.instrs ≡ d.instrs ++ h ∷ cs (length i1) = ap (λ (x : WrittenCode). x.instrs) e2
      ∙ ap (λ xs. xs ++ cs (length i1)) e1 ∙ append_assoc d.instrs (h ∷ []) (cs (length i1)) in
      let is = mends d.instrs (cs (length i1)) h there ea ∙ (λ j. d.instrs ++ (y ∷ cs (eq j))) in
      let fs : d2.forks ≡ d.forks ++ tables p mv sh (length d.instrs + 1) s = ap (λ (x : WrittenCode). x.forks) e2
      ∙ (λ j. d.forks ++ tables p mv sh (eq j) s) in
      let ts : d2.texts ≡ d.texts ++ texts_of (bare_statement s) = ap (λ (x : WrittenCode). x.texts) e2 in
      λ k. record { instrs = is k; forks = fs k; texts = ts k }

  -- where the code of such a statement ends
  holed_end : (d d2 : WrittenCode) (s : c.Statement) (i1 : List Instr) (h : Instr) → i1 ≡ d.instrs ++ h ∷ []
      → d2 ≡ buffer_after p mv sh (record { instrs = i1; forks = d.forks; texts = d.texts }) sc s
      → length d2.instrs ≡ after_statement p (length d.instrs + 1) (bare_statement s)
  unfolding buffer_after
  holed_end d d2 s i1 h e1 e2 =
      ap (λ (x : WrittenCode). length x.instrs) e2
      ∙ code_place i1 (length d.forks) (length d.texts) (length i1) (bare_statement s)
      ∙ ap (λ (m : ℕ). after_statement p m (bare_statement s)) (one_more d.instrs i1 h e1)

  pub branch_is : (d d2 : WrittenCode) (s : c.Statement) (i1 xs : List Instr) (at end to beyond : ℕ)
      → at ≡ length d.instrs → i1 ≡ d.instrs ++ i.Jumpf 0 ∷ []
      → d2 ≡ buffer_after p mv sh (record { instrs = i1; forks = d.forks; texts = d.texts }) sc s
      → end ≡ length d2.instrs → to ≡ end + beyond → Mends d2.instrs at (i.Jumpf to) xs
      → buffer_of xs (d2.forks) (d2.texts) ≡ buffer_after_branch p mv sh d sc s beyond
  unfolding buffer_after buffer_after_branch
  branch_is d d2 s i1 xs at end to beyond ea e1 e2 ee et mends =
      let q = length d.instrs in
      let lead : to ≡ after_statement p (q + 1) (bare_statement s) + beyond = et
      ∙ ap (λ (m : ℕ). m + beyond) (ee ∙ holed_end d d2 s i1 (i.Jumpf 0) e1 e2) in
      holed d d2 s i1 xs (i.Jumpf 0) (i.Jumpf to) at ea e1 e2 mends
      ∙ λ k. record {
        instrs = d.instrs ++ (i.Jumpf (lead k)
            ∷ code p sc (length d.forks) (length d.texts) (q + 1) (bare_statement s));
        forks = d.forks
            ++ tables p mv sh (q + 1) s;
        texts = d.texts ++ texts_of (bare_statement s);
      }

  pub passed_is : (d d2 : WrittenCode) (s : c.Statement) (i1 xs : List Instr) (at end : ℕ)
      → at ≡ length d.instrs → i1 ≡ d.instrs ++ i.Jump 0 ∷ []
      → d2 ≡ buffer_after p mv sh (record { instrs = i1; forks = d.forks; texts = d.texts }) sc s
      → end ≡ length d2.instrs → Mends d2.instrs at (i.Jump end) xs
      → buffer_of xs (d2.forks) (d2.texts) ≡ buffer_after_passed p mv sh d sc s
  unfolding buffer_after buffer_after_passed
  passed_is d d2 s i1 xs at end ea e1 e2 ee mends =
      let q = length d.instrs in
      let lead : end ≡ after_statement p (q + 1) (bare_statement s) = ee ∙ holed_end d d2 s i1 (i.Jump 0) e1 e2 in
      holed d d2 s i1 xs (i.Jump 0) (i.Jump end) at ea e1 e2 mends
      ∙ λ k. record {
        instrs = d.instrs ++ (i.Jump (lead k)
            ∷ code p sc (length d.forks) (length d.texts) (q + 1) (bare_statement s));
        forks = d.forks
            ++ tables p mv sh (q + 1) s;
        texts = d.texts ++ texts_of (bare_statement s);
      }

  pub loop_is : (d d2 : WrittenCode) (s : c.Statement) (i0 i1 i3 xs : List Instr) (leave : ℕ → Instr) (again : Instr)
      (at end : ℕ)
      → at ≡ length d.instrs → i0 ≡ d.instrs ++ leave 0 ∷ [] → i1 ≡ i0 ++ i.Tick ∷ []
      → d2 ≡ buffer_after p mv sh (record { instrs = i1; forks = d.forks; texts = d.texts }) sc s
      → i3 ≡ d2.instrs ++ again ∷ [] → end ≡ length i3 → Mends i3 at (leave end) xs
      → buffer_of xs (d2.forks) (d2.texts) ≡ buffer_after_loop p mv sh d sc s leave again
  unfolding buffer_after buffer_after_loop
  loop_is d d2 s i0 i1 i3 xs leave again at end ea e0 e1 e2 e3 ee mends =
      let st = bare_statement s in
      let cs = λ (u : ℕ). code p sc (length d.forks) (length d.texts) u st in
      let eq : length i1 ≡ length d.instrs + 1 + 1 = one_more i0 i1 i.Tick e1
      ∙ ap (λ (m : ℕ). m + 1) (one_more d.instrs i0 (leave 0) e0) in
      let body : d2.instrs ≡ i1 ++ cs (length i1) = ap (λ (x : WrittenCode). x.instrs) e2 in
      let two : i1 ≡ d.instrs ++ leave 0 ∷ i.Tick ∷ [] = e1 ∙ ap (λ xs. xs ++ i.Tick ∷ []) e0
      ∙ append_assoc d.instrs (leave 0 ∷ []) (i.Tick ∷ []) in
      let there : i3 ≡ d.instrs ++ leave 0 ∷ (i.Tick ∷ (cs (length i1) ++ again ∷ [])) =
      e3 ∙ ap (λ xs. xs ++ again ∷ []) (body ∙ ap (λ xs. xs ++ cs (length i1)) two)
      ∙ append_assoc (d.instrs ++ leave 0 ∷ i.Tick ∷ []) (cs (length i1)) (again ∷ [])
      ∙ append_assoc d.instrs (leave 0 ∷ i.Tick ∷ []) (cs (length i1) ++ again ∷ []) in
      let lead : end ≡ after_statement p (length d.instrs + 1 + 1) st + 1 =
      ee ∙ one_more d2.instrs i3 again e3
      ∙ ap (λ (m : ℕ). m + 1) (ap length body ∙ code_place i1 (length d.forks) (length d.texts) (length i1) st
      ∙ ap (λ (m : ℕ). after_statement p m st) eq) in
      let is = mends d.instrs (i.Tick ∷ (cs (length i1) ++ again ∷ [])) (leave 0) there ea
      ∙ (λ j. d.instrs ++ (leave (lead j) ∷ (i.Tick ∷ (cs (eq j) ++ again ∷ [])))) in
      let fs : d2.forks ≡ d.forks ++ tables p mv sh (length d.instrs + 1 + 1) s = ap (λ (x : WrittenCode). x.forks) e2
      ∙ (λ j. d.forks ++ tables p mv sh (eq j) s) in
      let ts : d2.texts ≡ d.texts ++ texts_of st = ap (λ (x : WrittenCode). x.texts) e2 in
      λ k. record { instrs = is k; forks = fs k; texts = ts k }

  pub spread_is : (d d2 : WrittenCode) (x : ℕ) (s : c.Statement) (f1 : List ForkTable) (i0 i1 i3 xs : List Instr)
      (table : ForkTable) (number entry at end : ℕ)
      → number ≡ length d.forks → entry ≡ length d.instrs + 2 → table.children ≡ child p mv sh entry (Some x) s ∷ []
      → f1 ≡ d.forks ++ table ∷ [] → i0 ≡ d.instrs ++ i.Forall number ∷ [] → at ≡ length i0
      → i1 ≡ i0 ++ i.Jump 0 ∷ []
      → d2 ≡ buffer_after p mv sh (record { instrs = i1; forks = f1; texts = d.texts }) (OfIndex x ∷ sc) s
      → i3 ≡ d2.instrs ++ i.End ∷ [] → end ≡ length i3 → Mends i3 at (i.Jump end) xs
      → buffer_of xs (d2.forks) (d2.texts) ≡ buffer_after_forall p mv sh d sc x s
  unfolding buffer_after buffer_after_forall
  spread_is d d2 x s f1 i0 i1 i3 xs table number entry at end en ey et ef e0 ea e1 e2 e3 ee mends =
      let st = bare_statement s in
      let q = length d.instrs in
      let cs = λ (t u : ℕ). code p (OfIndex x ∷ sc) t (length d.texts) u st in
      let eq : length i1 ≡ q + 1 + 1 = one_more i0 i1 (i.Jump 0) e1
      ∙ ap (λ (m : ℕ). m + 1) (one_more d.instrs i0 (i.Forall number) e0) in
      let count : length f1 ≡ length d.forks + 1 = omega (arith, ap length ef, length-append d.forks (table ∷ [])) in
      let body : d2.instrs ≡ i1 ++ cs (length f1) (length i1) = ap (λ (y : WrittenCode). y.instrs) e2 in
      let there : i3 ≡ i0 ++ i.Jump 0 ∷ (cs (length f1) (length i1) ++ i.End ∷ []) =
      e3 ∙ ap (λ xs. xs ++ i.End ∷ []) (body ∙ ap (λ xs. xs ++ cs (length f1) (length i1)) e1)
      ∙ append_assoc (i0 ++ i.Jump 0 ∷ []) (cs (length f1) (length i1)) (i.End ∷ [])
      ∙ append_assoc i0 (i.Jump 0 ∷ []) (cs (length f1) (length i1) ++ i.End ∷ []) in
      let lead : end ≡ after_statement p (q + 1 + 1) st + 1 =
      ee ∙ omega (
        arith,
        ap length e3,
        length-append d2.instrs (i.End ∷ []),
        ap length body,
        length-append i1 (cs (length f1) (length i1)),
        code_count p (OfIndex x ∷ sc) (length f1) (length d.texts) (length i1) st,
        stmt_after p (q + 1 + 1) st,
        eq,
      ) in
      let is : xs ≡ d.instrs ++ (i.Forall (length d.forks) ∷ i.Jump (after_statement p (q + 1 + 1) st + 1)
      ∷ (cs (length d.forks + 1) (q + 1 + 1) ++ i.End ∷ [])) =
      mends i0 (cs (length f1) (length i1) ++ i.End ∷ []) (i.Jump 0) there ea
      ∙ ap (λ ys. ys ++ i.Jump end ∷ (cs (length f1) (length i1) ++ i.End ∷ [])) e0
      ∙ append_assoc d.instrs (i.Forall number ∷ []) (i.Jump end ∷ (cs (length f1) (length i1) ++ i.End ∷ []))
      ∙ (λ j. d.instrs ++ (i.Forall (en j) ∷ i.Jump (lead j) ∷ (cs (count j) (eq j) ++ i.End ∷ []))) in
      let here : entry ≡ q + 1 + 1 = omega (arith, ey) in
      let lines : table.children ≡ child p mv sh (q + 1 + 1) (Some x) s ∷ [] = et
      ∙ (λ j. child p mv sh (here j) (Some x) s ∷ []) in
      let fs : d2.forks ≡ d.forks ++ (record { children = child p mv sh (q + 1 + 1) (Some x) s ∷ [] }
      ∷ tables p mv sh (q + 1 + 1) s) =
      ap (λ (y : WrittenCode). y.forks) e2 ∙ ap (λ ys. ys ++ tables p mv sh (length i1) s) ef
      ∙ append_assoc d.forks (table ∷ []) (tables p mv sh (length i1) s)
      ∙ (λ j. d.forks ++ (record { children = lines j } ∷ tables p mv sh (eq j) s)) in
      let ts : d2.texts ≡ d.texts ++ texts_of st = ap (λ (y : WrittenCode). y.texts) e2 in
      λ k. record { instrs = is k; forks = fs k; texts = ts k }

  abbrev MendsTable : List ForkTable → ℕ → ForkTable → List ForkTable → Type 0
  MendsTable xs at y ys = (a c : List ForkTable) (x : ForkTable) → xs ≡ a ++ x ∷ c → at ≡ length a → ys ≡ a ++ y ∷ c

  pub parallel_is : (d d2 : WrittenCode) (ss : c.Statements) (f1 f3 : List ForkTable) (i0 i1 xs : List Instr)
      (blank : ForkTable) (lines : List ChildTable) (first number at end : ℕ)
      → first ≡ length d.forks → number ≡ first → f1 ≡ d.forks ++ blank ∷ [] → i0 ≡ d.instrs ++ i.Fork number ∷ []
      → at ≡ length i0 → i1 ≡ i0 ++ i.Jump 0 ∷ []
      → d2 ≡ buffer_after_children p mv sh (record { instrs = i1; forks = f1; texts = d.texts }) sc ss
      → lines ≡ children p mv sh (length i1) ss → end ≡ length d2.instrs → Mends d2.instrs at (i.Jump end) xs
      → MendsTable d2.forks first (record { children = lines }) f3
      → buffer_of xs (f3) (d2.texts) ≡ buffer_after_form p mv sh d sc (c.Parallel ss)
  unfolding buffer_after_form buffer_after_children
  parallel_is d d2 ss f1 f3 i0 i1 xs blank lines first number at end ef en e1 e0 ea ei e2 el ee mends mends_table =
      let bs = bare_statements ss in
      let q = length d.instrs in
      let cs = λ (t u : ℕ). code_children p sc t (length d.texts) u bs in
      let eq : length i1 ≡ q + 1 + 1 = one_more i0 i1 (i.Jump 0) ei
      ∙ ap (λ (m : ℕ). m + 1) (one_more d.instrs i0 (i.Fork number) e0) in
      let count : length f1 ≡ length d.forks + 1 = omega (arith, ap length e1, length-append d.forks (blank ∷ [])) in
      let body : d2.instrs ≡ i1 ++ cs (length f1) (length i1) = ap (λ (y : WrittenCode). y.instrs) e2 in
      let there : d2.instrs ≡ i0 ++ i.Jump 0 ∷ cs (length f1) (length i1) = body
      ∙ ap (λ xs. xs ++ cs (length f1) (length i1)) ei
      ∙ append_assoc i0 (i.Jump 0 ∷ []) (cs (length f1) (length i1)) in
      let lead : end ≡ after_children p (q + 1 + 1) bs =
      ee ∙ omega (
        arith,
        ap length body,
        length-append i1 (cs (length f1) (length i1)),
        children_count p sc (length f1) (length d.texts) (length i1) bs,
        children_after p (q + 1 + 1) bs,
        eq,
      ) in
      let is : xs ≡ d.instrs ++ (i.Fork (length d.forks) ∷ i.Jump (after_children p (q + 1 + 1) bs)
      ∷ cs (length d.forks + 1) (q + 1 + 1)) =
      mends i0 (cs (length f1) (length i1)) (i.Jump 0) there ea
      ∙ ap (λ ys. ys ++ i.Jump end ∷ cs (length f1) (length i1)) e0
      ∙ append_assoc d.instrs (i.Fork number ∷ []) (i.Jump end ∷ cs (length f1) (length i1))
      ∙ (λ j. d.instrs ++ (i.Fork ((en ∙ ef) j) ∷ i.Jump (lead j) ∷ cs (count j) (eq j))) in
      let inner = tables_children p mv sh (length i1) ss in
      let held : d2.forks ≡ d.forks ++ blank ∷ inner = ap (λ (y : WrittenCode). y.forks) e2 ∙ ap (λ ys. ys ++ inner) e1
      ∙ append_assoc d.forks (blank ∷ []) inner in
      let fs : f3 ≡ d.forks ++ (record { children = children p mv sh (q + 1 + 1) ss }
      ∷ tables_children p mv sh (q + 1 + 1) ss) =
      mends_table d.forks inner blank held ef ∙ (λ j. d.forks ++ (record { children = el j } ∷ inner))
      ∙ (λ j. d.forks ++ (record { children = children p mv sh (eq j) ss } ∷ tables_children p mv sh (eq j) ss)) in
      let ts : d2.texts ≡ d.texts ++ texts_of_all bs = ap (λ (y : WrittenCode). y.texts) e2 in
      λ k. record { instrs = is k; forks = fs k; texts = ts k }

  pub choices_are : (d d2 : WrittenCode) (arms : c.Arms) (i1 i2 i4 i5 : List Instr) (starts ends : List ℕ)
      (first end : ℕ)
      → first ≡ length d.instrs → i1 ≡ d.instrs ++ blank_tests (bare_arms arms) → i2 ≡ i1 ++ i.Nocase ∷ []
      → d2 ≡ buffer_after_arms p mv sh (record { instrs = i2; forks = d.forks; texts = d.texts }) sc arms 0
      → starts ≡ starts_of p (length i2) (bare_arms arms) → ends ≡ ends_of p (length i2) (bare_arms arms)
      → end ≡ length d2.instrs → i4 ≡ filled_ends d2.instrs ends end
      → i5 ≡ filled_tests i4 first (bare_arms arms) starts
      → buffer_of i5 (d2.forks) (d2.texts) ≡ buffer_after_case p mv sh d sc arms
  unfolding buffer_after_arms buffer_after_case
  choices_are d d2 arms i1 i2 i4 i5 starts ends first end ef e1 e2 ed es en ee e4 e5 =
      let bs = bare_arms arms in
      let q = length d.instrs in
      let b = after_tests q bs in
      let u = length i2 in
      let cs = λ (v m : ℕ). code_arms p sc (length d.forks) (length d.texts) v bs m in
      let eq : u ≡ b + 1 = one_more i1 i2 i.Nocase e2
      ∙ ap (λ (m : ℕ). m + 1) (omega (
        arith,
        ap length e1,
        length-append d.instrs (blank_tests bs),
        blank_length p bs 0,
        tests_count p bs 0,
        tests_after q bs,
      )) in
      let body : d2.instrs ≡ i2 ++ cs u 0 = ap (λ (y : WrittenCode). y.instrs) ed in
      let lead : end ≡ after_arms p (b + 1) bs =
      ee ∙ omega (
        arith,
        ap length body,
        length-append i2 (cs u 0),
        arms_count p sc (length d.forks) (length d.texts) u bs 0,
        arms_after p (b + 1) bs,
        eq,
      ) in
      let is4 : i4 ≡ d.instrs ++ (blank_tests bs ++ (i.Nocase ∷ cs u end)) =
      e4 ∙ (λ j. filled_ends (body j) (en j) end) ∙ ends_filled p sc i2 (length d.forks) (length d.texts) u bs end refl
      ∙ ap (λ ys. ys ++ cs u end) e2 ∙ append_assoc i1 (i.Nocase ∷ []) (cs u end)
      ∙ ap (λ ys. ys ++ (i.Nocase ∷ cs u end)) e1 ∙ append_assoc d.instrs (blank_tests bs) (i.Nocase ∷ cs u end) in
      let is : i5 ≡ d.instrs ++ (tests_code p bs (b + 1) ++ (i.Nocase ∷ cs (b + 1) (after_arms p (b + 1) bs))) =
      e5 ∙ (λ j. filled_tests (is4 j) first bs (es j)) ∙ tests_filled p d.instrs (i.Nocase ∷ cs u end) first u bs ef
      ∙ (λ j. d.instrs ++ (tests_code p bs (eq j) ++ (i.Nocase ∷ cs (eq j) (lead j)))) in
      let fs : d2.forks ≡ d.forks ++ tables_arms p mv sh (b + 1) arms = ap (λ (y : WrittenCode). y.forks) ed
      ∙ (λ j. d.forks ++ tables_arms p mv sh (eq j) arms) in
      let ts : d2.texts ≡ d.texts ++ texts_of_arms bs = ap (λ (y : WrittenCode). y.texts) ed in
      λ k. record { instrs = is k; forks = fs k; texts = ts k }

  -- ---- one more part

  pub written_place : (d : WrittenCode) (s : c.Statement)
      → length (buffer_after p mv sh d sc s).instrs ≡ after_statement p (length d.instrs) (bare_statement s)
  unfolding buffer_after
  written_place d s = code_place d.instrs (length d.forks) (length d.texts) (length d.instrs) (bare_statement s)

  pub child_next : (d : WrittenCode) (s : c.Statement) (rest : c.Statements)
      → buffer_after_children p mv sh (with_code (buffer_after p mv sh d sc s) (i.End ∷ [])) sc rest
      ≡ buffer_after_children p mv sh d sc (c.AndThen s rest)
  child_next d s rest = ap (λ (x : WrittenCode). buffer_after_children p mv sh x sc rest) (child_is d s)
      ∙ children_step d s rest

  pub ended_by : (d : WrittenCode) (s : c.Statement) (x : Instr)
      → length ((buffer_after p mv sh d sc s).instrs ++ x ∷ []) ≡ after_statement p (length d.instrs)
      (bare_statement s) + 1
  ended_by d s x = one_more (buffer_after p mv sh d sc s).instrs _ x refl ∙ ap (λ (m : ℕ). m + 1) (written_place d s)

  pub arm_next : (d : WrittenCode) (ms : List ℤ) (s : c.Statement) (rest : c.Arms)
      → buffer_after_arms p mv sh (with_code (buffer_after p mv sh d sc s) (i.Jump 0 ∷ [])) sc rest 0
      ≡ buffer_after_arms p mv sh d sc (c.Or (c.On ms s) rest) 0
  arm_next d ms s rest = ap (λ (x : WrittenCode). buffer_after_arms p mv sh x sc rest 0) (arm_is d ms s 0)
      ∙ arms_step d ms s rest 0

  pub sequence_done : (d e : WrittenCode) (ss : c.Statements)
      → buffer_after_all p mv sh e sc c.NoStatement ≡ buffer_after_all p mv sh d sc ss
      → e ≡ buffer_after_form p mv sh d sc (c.Sequence ss)
  sequence_done d e ss h = sym (all_none e) ∙ h ∙ sequence_is d ss

  pub else_is : (d e : WrittenCode) (x : c.Expression) (s o : c.Statement)
      → e ≡ buffer_after_branch p mv sh (with_code d (value_code p sc (bare_expression x))) sc s 1
      → buffer_after_passed p mv sh e sc o ≡ buffer_after_form p mv sh d sc (c.If x s (c.Else o))
  else_is d e x s o h = ap (λ (y : WrittenCode). buffer_after_passed p mv sh y sc o) h ∙ if_else_is d x s o
