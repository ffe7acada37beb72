-- Each instruction that stops has the mark of a statement of its kind.
use Rattle.std.proofs.Common.{◌≡◌, ℕ, zero, suc, ◌+◌, ℤ, List, [], ◌∷◌, ◌++◌, map, Option, Some, None}
use Rattle.std.proofs.Common.{refl, sym, subst, inl, inr, Bool, true, false, append_assoc, append-nil}
use Rattle.std.specs.Prelude.{slice_get, if◌then◌else◌, ◌==◌}
use Rattle.std.proofs.lemmas.Option.{same_Some}
use Rattle.sp_base.specs.declared.place.Place.{Place}
use Rattle.sp_tree.specs.declared.checked.KindOf.{KindOf}
use Rattle.sp_tree.specs.declared.checked.KindOf.TheVariants as kind
use Rattle.sp_tree.specs.declared.checked.Role.{Role}
use Rattle.sp_tree.specs.declared.checked.Role.TheVariants as role
use Rattle.sp_tree.specs.declared.operators.UnaryOp.{UnaryOp}
use Rattle.sp_tree.specs.declared.operators.UnaryOp.TheVariants as unary
use Rattle.sp_tree.specs.declared.operators.BinaryOp.{BinaryOp}
use Rattle.sp_tree.specs.declared.operators.BinaryOp.TheVariants as binary
use Rattle.sp_tree.specs.declared.operators.StandardFn.{StandardFn}
use Rattle.sp_tree.specs.declared.operators.StandardFn.TheVariants as standard
use Rattle.sp_tree.specs.PlainChecked.{Expression, ExpressionAt, ExpressionForm, Number, Read, Unary, Binary, Apply}
use Rattle.sp_tree.specs.PlainChecked.{Standard, Variable, Entire, Index, Field, Selectors, Whole, Select}
use Rattle.sp_tree.specs.PlainChecked.{ByValue, ByReference, Actuals, Nothing, Pass, NoExpression}
use Rattle.sp_tree.specs.PlainChecked.{AndExpression, Statement, Does, Form, Empty, Assign, Call, Sequence, If, While}
use Rattle.sp_tree.specs.PlainChecked.{Repeat, For, Case, Parallel, Forall, Assume, ReadValue, ReadLine, WriteValue}
use Rattle.sp_tree.specs.PlainChecked.{WriteText, WriteLine, Open, Send, Receive, NoElse, Else, Statements}
use Rattle.sp_tree.specs.PlainChecked.{NoStatement, AndThen, On, Arms, NoArm, Or, Block}
use Rattle.sp_tree.specs.Plain as plain
use Rattle.sp_tree.specs.Bare.{bare_expression, bare_form, bare_variable, bare_selectors, bare_actuals, bare_width}
use Rattle.sp_tree.specs.Bare.{bare_statement, bare_statements, bare_arms, bare_block}
use Rattle.sp_code.specs.declared.instr.Instr.{Instr}
use Rattle.sp_code.specs.declared.instr.Instr.TheVariants as i
use Rattle.sp_code.specs.Scopes.{Sort, Ordinals, Channels, Many, NoSort, Scope, OfIndex, is_given, kind_at, sort}
use Rattle.sp_code.specs.Scopes.{sort_by, size, slot, field_type, element_type, type_by, type_of, scopes_of, kind_of}
use Rattle.sp_code.specs.Places.{after_value, after_tests, after_statement, after_arms, after_block}
use Rattle.sp_code.specs.TreeCode.{unary_code, binary_instr, standard_code, input_instr, read_instr, index_instr}
use Rattle.sp_code.specs.TreeCode.{write_instr, reading_instr, assign_instr, addr_by, addr_of, call_instr}
use Rattle.sp_code.specs.TreeCode.{test_code, tests_code, tables_in, texts_in, end_instr, field_instr, value_code}
use Rattle.sp_code.specs.TreeCode.{form_code, var_code, selectors_code, actuals_code, width_code, right_code, code}
use Rattle.sp_code.specs.TreeCode.{code_all, code_children, code_arms, block_code, blocks_code}
use Rattle.sp_lines.specs.declared.mark.Mark.{Mark}
use Rattle.sp_lines.specs.Marks.{mark, own, unary_marks, standard_marks, begins, is_many, value_marks, form_marks}
use Rattle.sp_lines.specs.Marks.{variable_marks, selectors_marks, actuals_marks, width_marks}
use Rattle.sp_lines.specs.Marks.{right_form_marks, test_marks, tests_marks, statement_marks, made_marks}
use Rattle.sp_lines.specs.Marks.{all_marks, child_marks, children_marks, arm_marks, arms_marks, block_marks}
use Rattle.sp_lines.specs.Marks.{blocks_marks}
use Rattle.sp_lines.specs.Beside.{IsIn, IsInForm, IsInAll, IsInArms}
use Rattle.sp_lines.specs.Kinds.{IsOf}

-- two lists as long as each other, of which each two members are so
abbrev Pairs : (Mark → Instr → Type 0) → List Mark → List Instr → Type 0
Pairs R [] [] = Unit {0}
Pairs R [] (x ∷ xs) = ⊥
Pairs R (m ∷ ms) [] = ⊥
Pairs R (m ∷ ms) (x ∷ xs) = R m x × Pairs R ms xs

join : (R : Mark → Instr → Type 0) (ls : List Mark) (xs : List Instr) (bs : List Mark) (ys : List Instr) → Pairs R ls xs
    → Pairs R bs ys → Pairs R (ls ++ bs) (xs ++ ys)
join R [] [] bs ys h k = k
join R [] (x ∷ xs) bs ys h k = absurd h
join R (a ∷ ls) [] bs ys h k = absurd h
join R (a ∷ ls) (x ∷ xs) bs ys h k = (h.0, join R ls xs bs ys h.1 k)

-- one and one more behind
last : (R : Mark → Instr → Type 0) (ls : List Mark) (xs : List Instr) (m : Mark) (x : Instr) → Pairs R ls xs → R m x
    → Pairs R (ls ++ m ∷ []) (xs ++ x ∷ [])
last R ls xs m x h k = join R ls xs (m ∷ []) (x ∷ []) h (k, tt)

at_both : (R : Mark → Instr → Type 0) (ls : List Mark) (xs : List Instr) (q : ℕ) (m : Mark) (x : Instr) → Pairs R ls xs
    → slice_get ls q ≡ Some m → slice_get xs q ≡ Some x → R m x
at_both R [] xs q m x h e f = absurd cc
at_both R (a ∷ ls) [] q m x h e f = absurd h
at_both R (a ∷ ls) (y ∷ ys) zero m x h e f =
    subst (λ (z : Instr). R m z) (same_Some y x f) (subst (λ (z : Mark). R z y) (same_Some a m e) h.0)
at_both R (a ∷ ls) (y ∷ ys) (suc q) m x h e f = at_both R ls ys q m x h.1 e f

-- where the second list has a member the first one has one
found : (R : Mark → Instr → Type 0) (ls : List Mark) (xs : List Instr) (q : ℕ) (x : Instr) → Pairs R ls xs
    → slice_get xs q ≡ Some x → (m : Mark) × (slice_get ls q ≡ Some m) × R m x
found R [] [] q x h f = absurd cc
found R [] (y ∷ ys) q x h f = absurd h
found R (a ∷ ls) [] q x h f = absurd h
found R (a ∷ ls) (y ∷ ys) zero x h f = (a, refl, subst (λ (z : Instr). R a z) (same_Some y x f) h.0)
found R (a ∷ ls) (y ∷ ys) (suc q) x h f = found R ls ys q x h.1 f

module _ (T : Statement → Type 0) where
  abbrev R : Mark → Instr → Type 0
  R m x = IsOf T m x

  is_read : (m : Mark) (z : Sort) (n : ℕ) → R m (read_instr z n)
  is_read m Ordinals n = tt
  is_read m Channels n = tt
  is_read m Many n = tt
  is_read m NoSort n = tt

  is_assign : (m : Mark) (z : Sort) (n : ℕ) → R m (assign_instr z n)
  is_assign m Ordinals n = tt
  is_assign m Channels n = tt
  is_assign m Many n = tt
  is_assign m NoSort n = tt

  selects : (m : Mark) (k : Option KindOf) (n : ℕ) → R m (index_instr k n)
  selects m None n = tt
  selects m (Some kind.Integer) n = tt
  selects m (Some kind.Boolean) n = tt
  selects m (Some kind.Char) n = tt
  selects m (Some (kind.Enumeration c)) n = tt
  selects m (Some (kind.Array low high index element)) n = tt
  selects m (Some (kind.Fields fs)) n = tt
  selects m (Some (kind.Channel ks)) n = tt

  is_write : (m : Mark) (k : Option KindOf) (b : Bool) → R m (write_instr k b)
  is_write m None true = tt
  is_write m None false = tt
  is_write m (Some kind.Integer) true = tt
  is_write m (Some kind.Integer) false = tt
  is_write m (Some kind.Boolean) true = tt
  is_write m (Some kind.Boolean) false = tt
  is_write m (Some kind.Char) true = tt
  is_write m (Some kind.Char) false = tt
  is_write m (Some (kind.Enumeration c)) true = tt
  is_write m (Some (kind.Enumeration c)) false = tt
  is_write m (Some (kind.Array low high index element)) true = tt
  is_write m (Some (kind.Array low high index element)) false = tt
  is_write m (Some (kind.Fields fs)) true = tt
  is_write m (Some (kind.Fields fs)) false = tt
  is_write m (Some (kind.Channel ks)) true = tt
  is_write m (Some (kind.Channel ks)) false = tt

  is_reading : (m : Mark) (k : Option KindOf) → R m (reading_instr k)
  is_reading m None = tt
  is_reading m (Some kind.Integer) = tt
  is_reading m (Some kind.Boolean) = tt
  is_reading m (Some kind.Char) = tt
  is_reading m (Some (kind.Enumeration c)) = tt
  is_reading m (Some (kind.Array low high index element)) = tt
  is_reading m (Some (kind.Fields fs)) = tt
  is_reading m (Some (kind.Channel ks)) = tt

  is_binary : (m : Mark) (o : BinaryOp) → R m (binary_instr o)
  is_binary m binary.Eq = tt
  is_binary _ _ = tt

  is_input : (m : Mark) (f : StandardFn) → R m (input_instr f)
  is_input m standard.Abs = tt
  is_input _ _ = tt

  unaries : (m : Mark) (o : UnaryOp) → Pairs R (unary_marks m o) (unary_code o)
  unaries m unary.Plus = tt
  unaries m unary.Minus = (tt, tt)
  unaries m unary.Not = (tt, tt)

  standards : (m : Mark) (f : StandardFn) (k : Option KindOf) → Pairs R (standard_marks m f) (standard_code f k)
  standards m standard.Ord k = tt
  standards m standard.Eof k = tt
  standards m standard.Eoln k = tt
  standards _ _ _ = (tt, tt)

  is_addr_by : (m : Mark) (sc : List Scope) (x n : ℕ) (v : plain.Variable) (r : Role) → R m (addr_by sc x n v r)
  is_addr_by m sc x n v role.Console = tt
  is_addr_by _ _ _ _ _ _ = tt

  is_addr : (m : Mark) (sc : List Scope) (x n : ℕ) (v : Option plain.Variable) → R m (addr_of sc x n v)
  is_addr m sc x n None = tt
  is_addr m sc x n (Some v) = is_addr_by m sc x n v v.role

  is_call : (m : Mark) (sc : List Scope) (f : ℕ) (b : Option plain.Block) → R m (call_instr sc f b)
  is_call m sc f None = tt
  is_call m sc f (Some b) = tt

  is_end : (m : Mark) (b : Bool) → R m (if b then i.End else i.Return)
  is_end m true = tt
  is_end m false = tt

  is_for : (m : Mark) (down : Bool) (x a b : ℕ) → R m (if down then i.Fordown x a else i.Forup x b)
  is_for m true x a b = tt
  is_for m false x a b = tt

  is_next : (m : Mark) (down : Bool) (x a b : ℕ) → R m (if down then i.Nextdown x a else i.Nextup x b)
  is_next m true x a b = tt
  is_next m false x a b = tt

  is_text : (m : Mark) (w : Bool) (a b : ℕ) → R m (if w then i.WritewText a else i.WriteText b)
  is_text m true a b = tt
  is_text m false a b = tt

  module _ (p : plain.Program) where
    is_field : (m : Mark) (f : ℕ) (k : Option KindOf) → R m (field_instr p f k)
    is_field m f None = tt
    is_field m f (Some kind.Integer) = tt
    is_field m f (Some kind.Boolean) = tt
    is_field m f (Some kind.Char) = tt
    is_field m f (Some (kind.Enumeration c)) = tt
    is_field m f (Some (kind.Array low high index element)) = tt
    is_field m f (Some (kind.Fields fs)) = tt
    is_field m f (Some (kind.Channel ks)) = tt

    mutual
      values : (s : Place) (sc : List Scope) (e : Expression)
          → Pairs R (value_marks s e) (value_code p sc (bare_expression e))
      values s sc (ExpressionAt at k form) = forms s at sc k form

      forms : (s at : Place) (sc : List Scope) (k : ℕ) (form : ExpressionForm)
          → Pairs R (form_marks s at form) (form_code p sc k (bare_form form))
      forms s at sc k (Number n) = (tt, tt)
      forms s at sc k (Read v) = last R (variable_marks s v) (var_code p sc (bare_variable v)) (mark s at)
          (read_instr (sort p k) (size p k)) (variables s sc v) (is_read (mark s at) (sort p k) (size p k))
      forms s at sc k (Unary o a) = join R (value_marks s a) (value_code p sc (bare_expression a))
          (unary_marks (mark s at) o) (unary_code o) (values s sc a) (unaries (mark s at) o)
      forms s at sc k (Binary o a b) = join R (value_marks s a) (value_code p sc (bare_expression a))
          (value_marks s b ++ mark s at ∷ []) (value_code p sc (bare_expression b) ++ binary_instr o ∷ [])
          (values s sc a)
          (last R (value_marks s b) (value_code p sc (bare_expression b)) (mark s at) (binary_instr o) (values s sc b)
          (is_binary (mark s at) o))
      forms s at sc k (Apply f name args) = last R (actuals_marks s args) (actuals_code p sc (bare_actuals args))
          (mark s name) (call_instr sc f (slice_get p.blocks f)) (passed s sc args)
          (is_call (mark s name) sc f (slice_get p.blocks f))
      forms s at sc k (Standard f NoExpression) = (is_input (mark s at) f, tt)
      forms s at sc k (Standard f (AndExpression a rest)) = join R (value_marks s a)
          (value_code p sc (bare_expression a)) (standard_marks (mark s at) f) (standard_code f (kind_at p k))
          (values s sc a) (standards (mark s at) f (kind_at p k))

      variables : (s : Place) (sc : List Scope) (v : Variable)
          → Pairs R (variable_marks s v) (var_code p sc (bare_variable v))
      variables s sc (Entire x at ss) = (
        is_addr (mark s at) sc x (slot p x) (slice_get p.variables x),
        selected s at sc (type_by (slice_get p.variables x)) ss,
      )

      selected : (s at : Place) (sc : List Scope) (k : ℕ) (ss : Selectors)
          → Pairs R (selectors_marks s at ss) (selectors_code p sc k (bare_selectors ss))
      selected s at sc k Whole = tt
      selected s at sc k (Select (Index e) rest) =
          let one = index_instr (kind_at p k) (size p (element_type k (kind_at p k))) in
          let more = selectors_code p sc (element_type k (kind_at p k)) (bare_selectors rest) in
          subst (λ (xs : List Instr). Pairs R (selectors_marks s at (Select (Index e) rest)) xs)
          (append_assoc (value_code p sc (bare_expression e)) (one ∷ []) more)
          (join R (value_marks s e ++ mark s (begins e) ∷ []) (value_code p sc (bare_expression e) ++ one ∷ [])
          (selectors_marks s at rest) more
          (last R (value_marks s e) (value_code p sc (bare_expression e)) (mark s (begins e)) one (values s sc e)
          (selects (mark s (begins e)) (kind_at p k) (size p (element_type k (kind_at p k)))))
          (selected s at sc (element_type k (kind_at p k)) rest))
      selected s at sc k (Select (Field f) rest) = (
        is_field (mark s at) f (kind_at p k),
        selected s at sc (field_type k (kind_at p k) f) rest,
      )

      passed : (s : Place) (sc : List Scope) (args : Actuals)
          → Pairs R (actuals_marks s args) (actuals_code p sc (bare_actuals args))
      passed s sc Nothing = tt
      passed s sc (Pass (ByValue e) rest) = join R (value_marks s e) (value_code p sc (bare_expression e))
          (actuals_marks s rest) (actuals_code p sc (bare_actuals rest)) (values s sc e) (passed s sc rest)
      passed s sc (Pass (ByReference v) rest) = join R (variable_marks s v) (var_code p sc (bare_variable v))
          (actuals_marks s rest) (actuals_code p sc (bare_actuals rest)) (variables s sc v) (passed s sc rest)

    widths : (s : Place) (sc : List Scope) (w : Option Expression)
        → Pairs R (width_marks s w) (width_code p sc (bare_width w))
    widths s sc None = tt
    widths s sc (Some e) = values s sc e

    many : (s at : Place) (sc : List Scope) (k : ℕ) (form : ExpressionForm)
        → Pairs R (right_form_marks true s at form) (right_code p sc k Many (bare_form form))
    many s at sc k (Read v) = variables s sc v
    many s at sc k (Number n) = forms s at sc k (Number n)
    many s at sc k (Unary o a) = forms s at sc k (Unary o a)
    many s at sc k (Binary o a b) = forms s at sc k (Binary o a b)
    many s at sc k (Apply f name args) = forms s at sc k (Apply f name args)
    many s at sc k (Standard f NoExpression) = forms s at sc k (Standard f NoExpression)
    many s at sc k (Standard f (AndExpression a rest)) = forms s at sc k (Standard f (AndExpression a rest))

    rights : (t : Option KindOf) (s at : Place) (sc : List Scope) (k : ℕ) (form : ExpressionForm)
        → Pairs R (right_form_marks (is_many t) s at form) (right_code p sc k (sort_by t) (bare_form form))
    rights None s at sc k form = forms s at sc k form
    rights (Some kind.Integer) s at sc k form = forms s at sc k form
    rights (Some kind.Boolean) s at sc k form = forms s at sc k form
    rights (Some kind.Char) s at sc k form = forms s at sc k form
    rights (Some (kind.Enumeration c)) s at sc k form = forms s at sc k form
    rights (Some (kind.Array low high index element)) s at sc k form = many s at sc k form
    rights (Some (kind.Fields fs)) s at sc k form = many s at sc k form
    rights (Some (kind.Channel ks)) s at sc k form = forms s at sc k form

    test_pairs : (m : Mark) (cs : List ℤ) (b : ℕ) → Pairs R (test_marks m cs) (test_code cs b)
    test_pairs m [] b = tt
    test_pairs m (c ∷ cs) b = (tt, test_pairs m cs b)

    tests_pairs : (m : Mark) (arms : Arms) (b : ℕ) → Pairs R (tests_marks m arms) (tests_code p (bare_arms arms) b)
    tests_pairs m NoArm b = tt
    tests_pairs m (Or (On cs a) rest) b = join R (test_marks m cs) (test_code cs b) (tests_marks m rest)
        (tests_code p (bare_arms rest) (after_statement p b (bare_statement a) + 1)) (test_pairs m cs b)
        (tests_pairs m rest (after_statement p b (bare_statement a) + 1))

    mutual
      pub pairs : (sc : List Scope) (t n q : ℕ) (a : Statement) → ((u : Statement) → IsIn u a → T u)
          → Pairs R (statement_marks p.kinds a) (code p sc t n q (bare_statement a))
      pairs sc t n q (Does k s form) h = made sc t n q k s form (h (Does k s form) (inl refl)) (λ u x. h u (inr x))

      made : (sc : List Scope) (t n q k : ℕ) (s : Place) (form : Form) → T (Does k s form)
          → ((u : Statement) → IsInForm u form → T u)
          → Pairs R (made_marks p.kinds s form) (code p sc t n q (bare_statement (Does k s form)))
      made sc t n q k s Empty it h = tt
      made sc t n q k s (Assign v (ExpressionAt at l form)) it h =
          join R (variable_marks s v) (var_code p sc (bare_variable v)) _ _ (variables s sc v)
          (last R (right_form_marks (is_many (slice_get p.kinds l)) s at form)
          (right_code p sc l (sort p l) (bare_form form)) (own s)
          (assign_instr (sort p l) (size p l)) (rights (slice_get p.kinds l) s at sc l form)
          (is_assign (own s) (sort p l) (size p l)))
      made sc t n q k s (Call f args) it h = last R (actuals_marks s args) (actuals_code p sc (bare_actuals args))
          (own s) (call_instr sc f (slice_get p.blocks f)) (passed s sc args)
          (is_call (own s) sc f (slice_get p.blocks f))
      made sc t n q k s (Sequence ss) it h = alls sc t n q ss h
      made sc t n q k s (If e a NoElse) it h =
          let w = after_value q (bare_expression e) in
          subst (λ (ms : List Mark). Pairs R (value_marks s e ++ own s ∷ ms)
          (code p sc t n q (bare_statement (Does k s (If e a NoElse)))))
          (sym (append-nil (statement_marks p.kinds a)))
          (join R (value_marks s e) (value_code p sc (bare_expression e)) (own s ∷ statement_marks p.kinds a)
          (i.Jumpf (after_statement p (w + 1) (bare_statement a)) ∷ code p sc t n (w + 1) (bare_statement a))
          (values s sc e) (tt, pairs sc t n (w + 1) a (λ u x. h u (inl x))))
      made sc t n q k s (If e a (Else b)) it h =
          let w = after_value q (bare_expression e) in
          let j = after_statement p (w + 1) (bare_statement a) in
          join R (value_marks s e) (value_code p sc (bare_expression e)) _ _ (values s sc e) (
            tt,
            join R (statement_marks p.kinds a) (code p sc t n (w + 1) (bare_statement a)) _ _
                (pairs sc t n (w + 1) a (λ u x. h u (inl x))) (
                  tt,
                  pairs sc (t + tables_in (bare_statement a)) (n + texts_in (bare_statement a)) (j + 1) b
                      (λ u x. h u (inr x)),
                ),
          )
      made sc t n q k s (While e a) it h =
          let w = after_value q (bare_expression e) in
          join R (value_marks s e) (value_code p sc (bare_expression e)) _ _ (values s sc e) (
            tt,
            (
              tt,
              last R (statement_marks p.kinds a) (code p sc t n (w + 1 + 1) (bare_statement a)) (own s) (i.Jump q)
                  (pairs sc t n (w + 1 + 1) a h) tt,
            ),
          )
      made sc t n q k s (Repeat a e) it h = (
        tt,
        join R (statement_marks p.kinds a) (code p sc t n (q + 1) (bare_statement a)) _ _
            (pairs sc t n (q + 1) a h)
            (last R (value_marks s e) (value_code p sc (bare_expression e)) (own s) (i.Jumpf q) (values s sc e) tt),
      )
      made sc t n q k s (For x name from down to a) it h =
          let w = after_value (after_value q (bare_expression from)) (bare_expression to) in
          let j = after_statement p (w + 1 + 1) (bare_statement a) in
          join R (value_marks s from) (value_code p sc (bare_expression from)) _ _ (values s sc from)
          (join R (value_marks s to) (value_code p sc (bare_expression to)) _ _ (values s sc to) (
            is_for (own s) down (slot p x) (j + 1) (j + 1),
            (
              tt,
              last R (statement_marks p.kinds a) (code p sc t n (w + 1 + 1) (bare_statement a)) (own s)
                  (if down then i.Nextdown (slot p x) (w + 1) else i.Nextup (slot p x) (w + 1))
                  (pairs sc t n (w + 1 + 1) a h) (is_next (own s) down (slot p x) (w + 1) (w + 1)),
            ),
          ))
      made sc t n q k s (Case e arms) it h =
          let w = after_value q (bare_expression e) in
          let b = after_tests w (bare_arms arms) in
          join R (value_marks s e) (value_code p sc (bare_expression e)) _ _ (values s sc e)
          (join R (tests_marks (own s) arms) (tests_code p (bare_arms arms) (b + 1)) _ _
          (tests_pairs (own s) arms (b + 1))
          (tt, chosen sc t n (b + 1) s arms (after_arms p (b + 1) (bare_arms arms)) h))
      made sc t n q k s (Parallel ss) it h = ((k, ss, it), (tt, children sc (t + 1) n (q + 1 + 1) ss h))
      made sc t n q k s (Forall x from to (Does l at form)) it h =
          let w = after_value (after_value q (bare_expression from)) (bare_expression to) in
          join R (value_marks s from) (value_code p sc (bare_expression from)) _ _ (values s sc from)
          (join R (value_marks s to) (value_code p sc (bare_expression to)) _ _ (values s sc to) (
            (k, x, from, to, Does l at form, it),
            (
              tt,
              last R (statement_marks p.kinds (Does l at form))
                  (code p (OfIndex x ∷ sc) (t + 1) n (w + 1 + 1) (bare_statement (Does l at form))) (own at) i.End
                  (pairs (OfIndex x ∷ sc) (t + 1) n (w + 1 + 1) (Does l at form) h) tt,
            ),
          ))
      made sc t n q k s (Assume e) it h =
          last R (value_marks s e) (value_code p sc (bare_expression e)) (own s) i.Assume (values s sc e) tt
      made sc t n q k s (ReadValue v) it h = last R (variable_marks s v) (var_code p sc (bare_variable v)) (own s)
          (reading_instr (kind_at p (type_of p (bare_variable v)))) (variables s sc v)
          (is_reading (own s) (kind_at p (type_of p (bare_variable v))))
      made sc t n q k s ReadLine it h = (tt, tt)
      made sc t n q k s (WriteValue e w) it h =
          join R (value_marks s e) (value_code p sc (bare_expression e)) _ _ (values s sc e)
          (last R (width_marks s w) (width_code p sc (bare_width w)) (own s)
          (write_instr (kind_at p (kind_of (bare_expression e))) (is_given (bare_width w))) (widths s sc w)
          (is_write (own s) (kind_at p (kind_of (bare_expression e))) (is_given (bare_width w))))
      made sc t n q k s (WriteText x w) it h = last R (width_marks s w) (width_code p sc (bare_width w)) (own s)
          (if is_given (bare_width w) then i.WritewText n else i.WriteText n) (widths s sc w)
          (is_text (own s) (is_given (bare_width w)) n n)
      made sc t n q k s WriteLine it h = (tt, tt)
      made sc t n q k s (Open v) it h = last R (variable_marks s v) (var_code p sc (bare_variable v)) (own s) i.Open
          (variables s sc v) (k, v, it)
      made sc t n q k s (Send c e) it h =
          join R (value_marks s c) (value_code p sc (bare_expression c)) _ _ (values s sc c)
          (last R (value_marks s e) (value_code p sc (bare_expression e)) (own s)
          (i.Send (kind_of (bare_expression e))) (values s sc e) (k, c, e, it))
      made sc t n q k s (Receive c v) it h =
          join R (value_marks s c) (value_code p sc (bare_expression c)) _ _ (values s sc c)
          (last R (variable_marks s v) (var_code p sc (bare_variable v)) (own s)
          (i.Receive (type_of p (bare_variable v))) (variables s sc v) (k, c, v, it))

      alls : (sc : List Scope) (t n q : ℕ) (ss : Statements) → ((u : Statement) → IsInAll u ss → T u)
          → Pairs R (all_marks p.kinds ss) (code_all p sc t n q (bare_statements ss))
      alls sc t n q NoStatement h = tt
      alls sc t n q (AndThen a rest) h =
          join R (statement_marks p.kinds a) (code p sc t n q (bare_statement a)) _ _
          (pairs sc t n q a (λ u x. h u (inl x)))
          (alls sc (t + tables_in (bare_statement a)) (n + texts_in (bare_statement a))
          (after_statement p q (bare_statement a)) rest (λ u x. h u (inr x)))

      children : (sc : List Scope) (t n q : ℕ) (ss : Statements) → ((u : Statement) → IsInAll u ss → T u)
          → Pairs R (children_marks p.kinds ss) (code_children p sc t n q (bare_statements ss))
      children sc t n q NoStatement h = tt
      children sc t n q (AndThen (Does l at form) rest) h =
          let a = bare_statement (Does l at form) in
          let more = code_children p sc (t + tables_in a) (n + texts_in a) (after_statement p q a + 1)
          (bare_statements rest) in
          subst (λ (xs : List Instr). Pairs R (children_marks p.kinds (AndThen (Does l at form) rest)) xs)
          (append_assoc (code p sc t n q a) (i.End ∷ []) more)
          (join R (child_marks p.kinds (Does l at form)) (code p sc t n q a ++ i.End ∷ [])
          (children_marks p.kinds rest) more
          (last R (statement_marks p.kinds (Does l at form)) (code p sc t n q a) (own at) i.End
          (pairs sc t n q (Does l at form) (λ u x. h u (inl x))) tt)
          (children sc (t + tables_in a) (n + texts_in a) (after_statement p q a + 1) rest (λ u x. h u (inr x))))

      chosen : (sc : List Scope) (t n q : ℕ) (s : Place) (arms : Arms) (end : ℕ)
          → ((u : Statement) → IsInArms u arms → T u)
          → Pairs R (arms_marks p.kinds s arms) (code_arms p sc t n q (bare_arms arms) end)
      chosen sc t n q s NoArm end h = tt
      chosen sc t n q s (Or (On cs b) rest) end h =
          let a = bare_statement b in
          let more = code_arms p sc (t + tables_in a) (n + texts_in a) (after_statement p q a + 1) (bare_arms rest)
          end in
          subst (λ (xs : List Instr). Pairs R (arms_marks p.kinds s (Or (On cs b) rest)) xs)
          (append_assoc (code p sc t n q a) (i.Jump end ∷ []) more)
          (join R (arm_marks p.kinds s (On cs b)) (code p sc t n q a ++ i.Jump end ∷ []) (arms_marks p.kinds s rest)
          more
          (last R (statement_marks p.kinds b) (code p sc t n q a) (own s) (i.Jump end)
          (pairs sc t n q b (λ u x. h u (inl x))) tt)
          (chosen sc (t + tables_in a) (n + texts_in a) (after_statement p q a + 1) s rest end (λ u x. h u (inr x))))

    pub all_pairs : (b t n q : ℕ) (bs : List Block)
        → ((f : ℕ) (c : Block) → slice_get bs f ≡ Some c → (u : Statement) → IsIn u c.body → T u)
        → Pairs R (blocks_marks p.kinds bs) (blocks_code p b t n q (map bare_block bs))
    all_pairs b t n q [] h = tt
    all_pairs b t n q (c ∷ bs) h =
        join R (block_marks p.kinds c) (block_code p b t n q (bare_block c)) (blocks_marks p.kinds bs) _
        (last R (statement_marks p.kinds c.body) (code p (scopes_of p b) t n q (bare_statement c.body)) (own c.at)
        (end_instr b) (pairs (scopes_of p b) t n q c.body (h 0 c refl)) (is_end (own c.at) (b == 0)))
        (all_pairs (suc b) (t + tables_in (bare_statement c.body)) (n + texts_in (bare_statement c.body))
        (after_block p q (bare_block c)) bs (λ f d e. h (suc f) d e))

    pub kinds_are : (bs : List Block)
        → ((f : ℕ) (c : Block) → slice_get bs f ≡ Some c → (u : Statement) → IsIn u c.body → T u)
        → (q : ℕ) (m : Mark) (o : Instr) → slice_get (blocks_marks p.kinds bs) q ≡ Some m
        → slice_get (blocks_code p 0 0 0 0 (map bare_block bs)) q ≡ Some o → IsOf T m o
    kinds_are bs h q m o e f = at_both R (blocks_marks p.kinds bs) (blocks_code p 0 0 0 0 (map bare_block bs)) q m o
        (all_pairs 0 0 0 0 bs h) e f

    pub marked : (bs : List Block)
        → ((f : ℕ) (c : Block) → slice_get bs f ≡ Some c → (u : Statement) → IsIn u c.body → T u)
        → (q : ℕ) (o : Instr) → slice_get (blocks_code p 0 0 0 0 (map bare_block bs)) q ≡ Some o
        → (m : Mark) × (slice_get (blocks_marks p.kinds bs) q ≡ Some m) × IsOf T m o
    marked bs h q o f = found R (blocks_marks p.kinds bs) (blocks_code p 0 0 0 0 (map bare_block bs)) q o
        (all_pairs 0 0 0 0 bs h) f
