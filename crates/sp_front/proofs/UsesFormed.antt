-- In a fine statement each target is a variable that there is and no index, and the output is not read.
use Rattle.std.proofs.Common.{◌≡◌, inl, inr, ap, sym, ◌∙◌, subst, ℕ, ◌+◌, List, [], ◌∷◌, Option, Some, None, true}
use Rattle.std.proofs.Common.{slice_get}
use Rattle.std.proofs.lemmas.Option.{same_Some}
use Rattle.sp_tree.specs.declared.checked.Role.{Role}
use Rattle.sp_tree.specs.declared.checked.Role.TheVariants as role
use Rattle.sp_tree.specs.Plain.{Expr, Typed, ExprForm, Number, Read, Unary, Binary, Apply, Standard, AtInput, Var}
use Rattle.sp_tree.specs.Plain.{Entire, Index, Field, Selectors, Whole, Select, ByValue, ByReference, Actuals, Nothing}
use Rattle.sp_tree.specs.Plain.{Pass, Program, Variable, Stmt, Empty, Assign, Call, Sequence, If, IfElse, While, Repeat}
use Rattle.sp_tree.specs.Plain.{For, Case, Parallel, Forall, Assume, ReadValue, ReadLine, WriteValue, WriteText}
use Rattle.sp_tree.specs.Plain.{WriteLine, Open, Send, Receive, Stmts, No, And, On, Arms, NoArm, Or}
use Rattle.sp_tree.specs.Uses.{Use, Seen, Stop, In_expr, In_form, In_read, In_target}
use Rattle.sp_tree.specs.Uses.{In_selectors, In_actuals, In_width, In_stmt, In_stmts, In_arms}
use Rattle.sp_tree.specs.Uses as use_of
use Rattle.sp_code.specs.Scopes.{Sort, Ordinals, Channels, Many, NoSort, Scope, OfIndex, sort}
use Rattle.sp_code.specs.Places.{after_value, after_var, after_tests, after_statement}
use Rattle.sp_code.specs.CodeOfTree.{NoIndex, VarRole, VarAt, IsTarget, ValueAt, FormAt, PlaceAt, SelectedAt, ActualsAt}
use Rattle.sp_code.specs.CodeOfTree.{WidthAt, RightAt, StatementAt, AllAt, ChildrenAt, ArmsAt, AnyInstr, AnyTable}
use Rattle.sp_code.specs.CodeOfTree.{AnyText}

module _ (p : Program) (input : (v : Variable) × (slice_get p.variables 0 ≡ Some v) × (v.role ≡ role.Console))
    (output : (v : Variable) × (slice_get p.variables 1 ≡ Some v) × (v.role ≡ role.Console))
    (moves shares : Stmt → List ℕ) (callable : ℕ → Type 0) where
  abbrev pub IsGoodUse : Use → Type 0
  IsGoodUse (use_of.Target x) = (v : Variable) × (slice_get p.variables x ≡ Some v) × (v.role ≡ role.Index → ⊥)
  IsGoodUse (Seen x) = x ≡ 1 → ⊥
  IsGoodUse _ = Unit {0}

  abbrev Value : List Scope → ℕ → Expr → Type 0
  Value = ValueAt p moves shares AnyInstr AnyTable AnyText callable

  abbrev Form : List Scope → ℕ → ℕ → ExprForm → Type 0
  Form = FormAt p moves shares AnyInstr AnyTable AnyText callable

  abbrev Place : List Scope → ℕ → Var → ℕ → Type 0
  Place = PlaceAt p moves shares AnyInstr AnyTable AnyText callable

  abbrev Selected : List Scope → ℕ → Selectors → ℕ → ℕ → Type 0
  Selected = SelectedAt p moves shares AnyInstr AnyTable AnyText callable

  abbrev ActualsInCode : List Scope → ℕ → Actuals → List ℕ → Type 0
  ActualsInCode = ActualsAt p moves shares AnyInstr AnyTable AnyText callable

  abbrev Target : Var → Type 0
  Target = IsTarget p moves shares AnyInstr AnyTable AnyText callable

  abbrev StatementInCode : List Scope → ℕ → Stmt → Type 0
  StatementInCode = StatementAt p moves shares AnyInstr AnyTable AnyText callable true

  no_index : (r : Role) → NoIndex r → r ≡ role.Index → ⊥
  no_index role.Index d e = d
  no_index _ _ e = cc e

  no_output : (sc : List Scope) (q x k : ℕ) → VarAt p moves shares AnyInstr AnyTable AnyText callable sc q x k → x ≡ 1
      → ⊥
  no_output sc q x k (v, at, kind, r) e =
      let s : v ≡ output.0 = same_Some v output.0
      (sym (subst (λ z. slice_get p.variables z ≡ Some v) e at) ∙ output.1) in
      subst (VarRole p moves shares AnyInstr AnyTable AnyText callable sc q x v)
      (ap (λ (z : Variable). z.role) s ∙ output.2) r

  console_not : (r : Role) → r ≡ role.Console → r ≡ role.Index → ⊥
  console_not r c e = cc (sym c ∙ e)

  of_input : (u : Use) → u ≡ use_of.Target 0 → IsGoodUse u
  of_input u e = subst IsGoodUse (sym e) (input.0, input.1, console_not input.0.role input.2)

  of_output : (u : Use) → u ≡ use_of.Target 1 → IsGoodUse u
  of_output u e = subst IsGoodUse (sym e) (output.0, output.1, console_not output.0.role output.2)

  of_stop : (u : Use) → u ≡ Stop → IsGoodUse u
  of_stop u e = subst IsGoodUse (sym e) tt

  mutual
    value_uses : (sc : List Scope) (q : ℕ) (e : Expr) → Value sc q e → (u : Use) → In_expr e u → IsGoodUse u
    value_uses sc q (Typed k form) h u i = form_uses sc q k form h u i

    form_uses : (sc : List Scope) (q k : ℕ) (form : ExprForm) → Form sc q k form → (u : Use) → In_form form u
        → IsGoodUse u
    form_uses sc q k (Number n) h u i = absurd i
    form_uses sc q k (Read v) h u i = read_uses sc q v k h.0 u i
    form_uses sc q k (Unary op a) h u i = value_uses sc q a h.0 u i
    form_uses sc q k (Binary op a b) h u (inl i) = value_uses sc q a h.0 u i
    form_uses sc q k (Binary op a b) h u (inr i) = value_uses sc (after_value q a) b h.1 u i
    form_uses sc q k (Apply f args) h u (inl e) = subst IsGoodUse (sym e) tt
    form_uses sc q k (Apply f args) (b, acts, call, ans, last) u (inr i) = actuals_uses sc q args b.formals acts u i
    form_uses sc q k (Standard f a) (t, at, value, s1, s2, is) u i = value_uses sc q a value u i
    form_uses sc q k (AtInput f) h u e = subst IsGoodUse (sym e) (λ z. cc z)

    read_uses : (sc : List Scope) (q : ℕ) (v : Var) (k : ℕ) → Place sc q v k → (u : Use) → In_read v u → IsGoodUse u
    read_uses sc q (Entire x ss) k (k1, var, sel) u (inl e) = subst IsGoodUse (sym e) (no_output sc q x k1 var)
    read_uses sc q (Entire x ss) k (k1, var, sel) u (inr i) = selectors_uses sc (q + 1) ss k1 k sel u i

    target_uses : (sc : List Scope) (q : ℕ) (v : Var) (k : ℕ) → Place sc q v k → Target v → (u : Use) → In_target v u
        → IsGoodUse u
    target_uses sc q (Entire x ss) k h (v, at, d) u (inl e) = subst IsGoodUse (sym e) (v, at, no_index v.role d)
    target_uses sc q (Entire x ss) k (k1, var, sel) t u (inr i) = selectors_uses sc (q + 1) ss k1 k sel u i

    selectors_uses : (sc : List Scope) (q : ℕ) (ss : Selectors) (k k2 : ℕ) → Selected sc q ss k k2 → (u : Use)
        → In_selectors ss u → IsGoodUse u
    selectors_uses sc q Whole k k2 h u i = absurd i
    selectors_uses sc q (Select (Index e) rest) k k2 (low, high, index, element, at, value, s, is, more) u (inl i) =
        value_uses sc q e value u i
    selectors_uses sc q (Select (Index e) rest) k k2 (low, high, index, element, at, value, s, is, more) u (inr i) =
        selectors_uses sc (after_value q e + 1) rest element k2 more u i
    selectors_uses sc q (Select (Field f) rest) k k2 (fs, name, t, at, there, is, more) u i =
        selectors_uses sc (q + 1) rest t k2 more u i

    actuals_uses : (sc : List Scope) (q : ℕ) (args : Actuals) (xs : List ℕ) → ActualsInCode sc q args xs → (u : Use)
        → In_actuals args u → IsGoodUse u
    actuals_uses sc q Nothing xs h u i = absurd i
    actuals_uses sc q (Pass a rest) [] h u i = absurd h
    actuals_uses sc q (Pass (ByValue e) rest) (x ∷ xs) h u (inl i) = value_uses sc q e h.0 u i
    actuals_uses sc q (Pass (ByValue e) rest) (x ∷ xs) h u (inr i) = actuals_uses sc (after_value q e) rest xs h.2 u i
    actuals_uses sc q (Pass (ByReference v) rest) (x ∷ xs) (k, at, t, formal, more) u (inl i) =
        target_uses sc q v k at t u i
    actuals_uses sc q (Pass (ByReference v) rest) (x ∷ xs) (k, at, t, formal, more) u (inr i) =
        actuals_uses sc (after_var q v) rest xs more u i

  width_uses : (sc : List Scope) (q : ℕ) (w : Option Expr)
      → WidthAt p moves shares AnyInstr AnyTable AnyText callable sc q w → (u : Use) → In_width w u → IsGoodUse u
  width_uses sc q None h u i = absurd i
  width_uses sc q (Some e) h u i = value_uses sc q e h.0 u i

  right_uses : (sc : List Scope) (q k : ℕ) (s : Sort) (form : ExprForm)
      → RightAt p moves shares AnyInstr AnyTable AnyText callable sc q k s form → (u : Use) → In_form form u
      → IsGoodUse u
  right_uses sc q k Ordinals form h u i = form_uses sc q k form h.0 u i
  right_uses sc q k Channels form h u i = form_uses sc q k form h.0 u i
  right_uses sc q k Many (Read v) h u i = read_uses sc q v k h.0 u i
  right_uses sc q k Many (Number n) h u i = absurd h
  right_uses sc q k Many (Unary op a) h u i = absurd h
  right_uses sc q k Many (Binary op a b) h u i = absurd h
  right_uses sc q k Many (Apply f args) h u i = absurd h
  right_uses sc q k Many (Standard f a) h u i = absurd h
  right_uses sc q k Many (AtInput f) h u i = absurd h
  right_uses sc q k NoSort form h u i = absurd h

  mutual
    pub stands_uses : (sc : List Scope) (q : ℕ) (s : Stmt) → StatementInCode sc q s → (u : Use) → In_stmt s u
        → IsGoodUse u
    stands_uses sc q Empty h u i = absurd i
    stands_uses sc q (Assign v (Typed k form)) h u (inl i) = target_uses sc q v k h.0 h.1 u i
    stands_uses sc q (Assign v (Typed k form)) h u (inr i) = right_uses sc (after_var q v) k (sort p k) form h.2 u i
    stands_uses sc q (Call f args) h u (inl e) = subst IsGoodUse (sym e) tt
    stands_uses sc q (Call f args) (b, acts, call, ans, last) u (inr i) = actuals_uses sc q args b.formals acts u i
    stands_uses sc q (Sequence ss) h u i = all_uses sc q ss h u i
    stands_uses sc q (If e a) ((condition, _), _, _) u (inl i) = value_uses sc q e condition u i
    stands_uses sc q (If e a) h u (inr i) = stands_uses sc (after_value q e + 1) a h.2 u i
    stands_uses sc q (IfElse e a b) ((condition, _), _, _, _, _) u (inl i) = value_uses sc q e condition u i
    stands_uses sc q (IfElse e a b) h u (inr (inl i)) = stands_uses sc (after_value q e + 1) a h.2 u i
    stands_uses sc q (IfElse e a b) ((_, _), _, _, _, second_body) u (inr (inr i)) =
        stands_uses sc (after_statement p (after_value q e + 1) a + 1) b second_body u i
    stands_uses sc q (While e s) ((condition, _), _, _, _, _) u (inl i) = value_uses sc q e condition u i
    stands_uses sc q (While e s) ((_, _), _, _, body, _) u (inr i) = stands_uses sc (after_value q e + 1 + 1) s body u i
    stands_uses sc q (Repeat s e) (_, _, (condition, _), _) u (inl i) =
        value_uses sc (after_statement p (q + 1) s) e condition u i
    stands_uses sc q (Repeat s e) h u (inr i) = stands_uses sc (q + 1) s h.1 u i
    stands_uses sc q (For x from down to s) (f, t, ((v, at, local, level, ordinal), first, tick, body, last)) u
        (inl e) = subst IsGoodUse (sym e) (v, at, λ (z : v.role ≡ role.Index). cc (sym local ∙ z))
    stands_uses sc q (For x from down to s) ((start, _), _, _) u (inr (inl i)) = value_uses sc q from start u i
    stands_uses sc q (For x from down to s) (_, (limit, _), _) u (inr (inr (inl i))) =
        value_uses sc (after_value q from) to limit u i
    stands_uses sc q (For x from down to s) (f, t, (var, first, tick, body, last)) u (inr (inr (inr i))) =
        stands_uses sc (after_value (after_value q from) to + 1 + 1) s body u i
    stands_uses sc q (Case e arms) ((selector, _), _, _, _) u (inl i) = value_uses sc q e selector u i
    stands_uses sc q (Case e arms) (o, tests, none, more) u (inr i) =
        arms_uses sc (after_tests (after_value q e) arms + 1) arms _ more u i
    stands_uses sc q (Parallel ss) h u (inl e) = subst IsGoodUse (sym e) tt
    stands_uses sc q (Parallel ss) (t, table, fork, jump, children, free) u (inr (inl i)) =
        children_uses sc (q + 1 + 1) ss children u i
    stands_uses sc q (Parallel ss) h u (inr (inr e)) = of_stop u e
    stands_uses sc q (Forall x from to s) h u (inl e) = subst IsGoodUse (sym e) tt
    stands_uses sc q (Forall x from to s) (t, table, f, l, fork, jump, body, end, free) u (inr (inl i)) =
        value_uses sc q from f.0 u i
    stands_uses sc q (Forall x from to s) (t, table, f, l, fork, jump, body, end, free) u (inr (inr (inl i))) =
        value_uses sc (after_value q from) to l.0 u i
    stands_uses sc q (Forall x from to s) (t, table, f, l, fork, jump, body, end, free) u (inr (inr (inr (inl i)))) =
        stands_uses (OfIndex x ∷ sc) (after_value (after_value q from) to + 1 + 1) s body u i.0
    stands_uses sc q (Forall x from to s) h u (inr (inr (inr (inr e)))) = of_stop u e
    stands_uses sc q (Assume e) ((condition, _), _) u i = value_uses sc q e condition u i
    stands_uses sc q (ReadValue v) h u (inl e) = of_input u e
    stands_uses sc q (ReadValue v) (k, t, at, target, of_kind, is) u (inr (inl i)) = target_uses sc q v k at target u i
    stands_uses sc q (ReadValue v) h u (inr (inr e)) = of_stop u e
    stands_uses sc q ReadLine h u (inl e) = of_input u e
    stands_uses sc q ReadLine h u (inr e) = of_stop u e
    stands_uses sc q (WriteValue e w) h u (inl i) = of_output u i
    stands_uses sc q (WriteValue e w) (t, o, at, width, is, written) u (inr (inl i)) = value_uses sc q e o.0 u i
    stands_uses sc q (WriteValue e w) (t, o, at, width, is, written) u (inr (inr (inl i))) =
        width_uses sc (after_value q e) w width u i
    stands_uses sc q (WriteValue e w) h u (inr (inr (inr i))) = of_stop u i
    stands_uses sc q (WriteText t w) h u (inl i) = of_output u i
    stands_uses sc q (WriteText t w) (n, text, width, more) u (inr (inl i)) = width_uses sc q w width u i
    stands_uses sc q (WriteText t w) h u (inr (inr i)) = of_stop u i
    stands_uses sc q WriteLine h u (inl i) = of_output u i
    stands_uses sc q WriteLine h u (inr i) = of_stop u i
    stands_uses sc q (Open v) (k, at, target, s, is, free) u (inl i) = target_uses sc q v k at target u i
    stands_uses sc q (Open v) h u (inr e) = of_stop u e
    stands_uses sc q (Send c e) h u (inl i) = value_uses sc q c h.0 u i
    stands_uses sc q (Send c e) h u (inr (inl i)) = value_uses sc (after_value q c) e h.2 u i
    stands_uses sc q (Send c e) h u (inr (inr i)) = of_stop u i
    stands_uses sc q (Receive c v) (k, value, channel, at, target, is, free) u (inl i) = value_uses sc q c value u i
    stands_uses sc q (Receive c v) (k, value, channel, at, target, is, free) u (inr (inl i)) =
        target_uses sc (after_value q c) v k at target u i
    stands_uses sc q (Receive c v) h u (inr (inr e)) = of_stop u e

    all_uses : (sc : List Scope) (q : ℕ) (ss : Stmts)
        → AllAt p moves shares AnyInstr AnyTable AnyText callable true sc q ss
        → (u : Use) → In_stmts ss u → IsGoodUse u
    all_uses sc q No h u i = absurd i
    all_uses sc q (And s rest) h u (inl i) = stands_uses sc q s h.0 u i
    all_uses sc q (And s rest) h u (inr i) = all_uses sc (after_statement p q s) rest h.1 u i

    children_uses : (sc : List Scope) (q : ℕ) (ss : Stmts)
        → ChildrenAt p moves shares AnyInstr AnyTable AnyText callable true sc q ss → (u : Use) → In_stmts ss u
        → IsGoodUse u
    children_uses sc q No h u i = absurd i
    children_uses sc q (And s rest) h u (inl i) = stands_uses sc q s h.0 u i
    children_uses sc q (And s rest) h u (inr i) = children_uses sc (after_statement p q s + 1) rest h.2 u i

    arms_uses : (sc : List Scope) (q : ℕ) (arms : Arms) (end : ℕ)
        → ArmsAt p moves shares AnyInstr AnyTable AnyText callable true sc q arms end → (u : Use) → In_arms arms u
        → IsGoodUse u
    arms_uses sc q NoArm end h u i = absurd i
    arms_uses sc q (Or (On ms s) rest) end h u (inl i) = stands_uses sc q s h.0 u i
    arms_uses sc q (Or (On ms s) rest) end h u (inr i) = arms_uses sc (after_statement p q s + 1) rest end h.2 u i
