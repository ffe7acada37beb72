-- Each use in a statement has its site: what holds of all sites holds of all uses.
use Rattle.std.proofs.Common.{◌≡◌, inl, inr, ℕ, List, [], ◌∷◌, ◌++◌, Option, Some, None, sym, subst}
use Rattle.sp_base.specs.declared.place.Place.{Place}
use Rattle.sp_tree.specs.PlainChecked as p
use Rattle.sp_tree.specs.Bare.{bare_expression, bare_form, bare_variable, bare_selectors, bare_actuals, bare_width}
use Rattle.sp_tree.specs.Bare.{bare_statement, bare_statements, bare_arms}
use Rattle.sp_tree.specs.Uses.{Use, Target, Seen, CallOf, ParallelOf, ForallOf, Stop, In_expr, In_form, In_read}
use Rattle.sp_tree.specs.Uses.{In_target, In_selectors, In_actuals, In_width, In_stmt, In_stmts, In_arms}
use Rattle.sp_tree.specs.Sites.{Site, SplitsAt, SpreadsAt, CallsAt, StopsAt, expression_sites, form_sites}
use Rattle.sp_tree.specs.Sites.{variable_sites, selectors_sites, actuals_sites, width_sites, statement_sites}
use Rattle.sp_tree.specs.Sites.{statements_sites, arms_sites}
use Rattle.sp_front.specs.ForEach.{HoldsOfEach}

fit_left : (Fits : Site → Type 0) (xs ys : List Site) → HoldsOfEach Fits (xs ++ ys) → HoldsOfEach Fits xs
fit_left Fits [] ys h = tt
fit_left Fits (x ∷ xs) ys h = (h.0, fit_left Fits xs ys h.1)

fit_right : (Fits : Site → Type 0) (xs ys : List Site) → HoldsOfEach Fits (xs ++ ys) → HoldsOfEach Fits ys
fit_right Fits [] ys h = h
fit_right Fits (x ∷ xs) ys h = fit_right Fits xs ys h.1

module _ (Fits : Site → Type 0) (Suits : Use → Type 0) (targets : (x : ℕ) → Suits (Target x))
    (expressions : (x : ℕ) → Suits (Seen x)) (calls : (f : ℕ) (at : Place) (args : p.Actuals) → Fits (CallsAt f at args)
    → Suits (CallOf f (bare_actuals args)))
    (splits : (ss : p.Statements) → Fits (SplitsAt ss) → Suits (ParallelOf (bare_statements ss)))
    (spreads : (at : Place) (x : ℕ) (s : p.Statement) → Fits (SpreadsAt at x s)
    → Suits (ForallOf x (bare_statement s))) (stops : (at : Place) → Fits (StopsAt at) → Suits Stop) where
  mutual
    expression_kept : (e : p.Expression) (u : Use) → HoldsOfEach Fits (expression_sites e)
        → In_expr (bare_expression e) u
        → Suits u
    expression_kept (p.ExpressionAt at k form) u h i = form_kept form u h i

    form_kept : (e : p.ExpressionForm) (u : Use) → HoldsOfEach Fits (form_sites e) → In_form (bare_form e) u → Suits u
    form_kept (p.Number n) u h i = absurd i
    form_kept (p.Read v) u h i = read_kept v u h i
    form_kept (p.Unary op a) u h i = expression_kept a u h i
    form_kept (p.Binary op a b) u h (inl i) =
        expression_kept a u (fit_left Fits (expression_sites a) (expression_sites b) h) i
    form_kept (p.Binary op a b) u h (inr i) =
        expression_kept b u (fit_right Fits (expression_sites a) (expression_sites b) h) i
    form_kept (p.Apply f at args) u h (inl e) = subst Suits (sym e) (calls f at args h.0)
    form_kept (p.Apply f at args) u h (inr i) = actuals_kept args u h.1 i
    form_kept (p.Standard f p.NoExpression) u h e = subst Suits (sym e) (expressions 0)
    form_kept (p.Standard f (p.AndExpression a rest)) u h i = expression_kept a u h i

    read_kept : (v : p.Variable) (u : Use) → HoldsOfEach Fits (variable_sites v) → In_read (bare_variable v) u → Suits u
    read_kept (p.Entire x at ss) u h (inl e) = subst Suits (sym e) (expressions x)
    read_kept (p.Entire x at ss) u h (inr i) = selectors_kept ss u h i

    target_kept : (v : p.Variable) (u : Use) → HoldsOfEach Fits (variable_sites v) → In_target (bare_variable v) u
        → Suits u
    target_kept (p.Entire x at ss) u h (inl e) = subst Suits (sym e) (targets x)
    target_kept (p.Entire x at ss) u h (inr i) = selectors_kept ss u h i

    selectors_kept : (ss : p.Selectors) (u : Use) → HoldsOfEach Fits (selectors_sites ss)
        → In_selectors (bare_selectors ss) u
        → Suits u
    selectors_kept p.Whole u h i = absurd i
    selectors_kept (p.Select (p.Index e) rest) u h (inl i) =
        expression_kept e u (fit_left Fits (expression_sites e) (selectors_sites rest) h) i
    selectors_kept (p.Select (p.Index e) rest) u h (inr i) =
        selectors_kept rest u (fit_right Fits (expression_sites e) (selectors_sites rest) h) i
    selectors_kept (p.Select (p.Field f) rest) u h i = selectors_kept rest u h i

    actuals_kept : (args : p.Actuals) (u : Use) → HoldsOfEach Fits (actuals_sites args)
        → In_actuals (bare_actuals args) u
        → Suits u
    actuals_kept p.Nothing u h i = absurd i
    actuals_kept (p.Pass (p.ByValue e) rest) u h (inl i) =
        expression_kept e u (fit_left Fits (expression_sites e) (actuals_sites rest) h) i
    actuals_kept (p.Pass (p.ByValue e) rest) u h (inr i) =
        actuals_kept rest u (fit_right Fits (expression_sites e) (actuals_sites rest) h) i
    actuals_kept (p.Pass (p.ByReference v) rest) u h (inl i) =
        target_kept v u (fit_left Fits (variable_sites v) (actuals_sites rest) h) i
    actuals_kept (p.Pass (p.ByReference v) rest) u h (inr i) =
        actuals_kept rest u (fit_right Fits (variable_sites v) (actuals_sites rest) h) i

  width_kept : (w : Option p.Expression) (u : Use) → HoldsOfEach Fits (width_sites w) → In_width (bare_width w) u
      → Suits u
  width_kept None u h i = absurd i
  width_kept (Some e) u h i = expression_kept e u h i

  aim : (x : ℕ) (u : Use) → u ≡ Target x → Suits u
  aim x u e = subst Suits (sym e) (targets x)

  stop : (at : Place) (u : Use) → Fits (StopsAt at) → u ≡ Stop → Suits u
  stop at u h e = subst Suits (sym e) (stops at h)

  mutual
    pub statement_kept : (s : p.Statement) (u : Use) → HoldsOfEach Fits (statement_sites s)
        → In_stmt (bare_statement s) u
        → Suits u
    statement_kept (p.Does n at p.Empty) u h i = absurd i
    statement_kept (p.Does n at (p.Assign v e)) u h (inl i) =
        target_kept v u (fit_left Fits (variable_sites v) (expression_sites e) h) i
    statement_kept (p.Does n at (p.Assign v e)) u h (inr i) =
        expression_kept e u (fit_right Fits (variable_sites v) (expression_sites e) h) i
    statement_kept (p.Does n at (p.Call f args)) u h (inl e) = subst Suits (sym e) (calls f at args h.0)
    statement_kept (p.Does n at (p.Call f args)) u h (inr i) = actuals_kept args u h.1 i
    statement_kept (p.Does n at (p.Sequence ss)) u h i = statements_kept ss u h i
    statement_kept (p.Does n at (p.If e s p.NoElse)) u h (inl i) =
        expression_kept e u (fit_left Fits (expression_sites e) (statement_sites s) h) i
    statement_kept (p.Does n at (p.If e s p.NoElse)) u h (inr i) =
        statement_kept s u (fit_right Fits (expression_sites e) (statement_sites s) h) i
    statement_kept (p.Does n at (p.If e s (p.Else t))) u h (inl i) =
        expression_kept e u (fit_left Fits (expression_sites e) _ h) i
    statement_kept (p.Does n at (p.If e s (p.Else t))) u h (inr (inl i)) =
        statement_kept s u (fit_left Fits (statement_sites s) (statement_sites t)
        (fit_right Fits (expression_sites e) _ h)) i
    statement_kept (p.Does n at (p.If e s (p.Else t))) u h (inr (inr i)) =
        statement_kept t u (fit_right Fits (statement_sites s) (statement_sites t)
        (fit_right Fits (expression_sites e) _ h)) i
    statement_kept (p.Does n at (p.While e s)) u h (inl i) =
        expression_kept e u (fit_left Fits (expression_sites e) (statement_sites s) h) i
    statement_kept (p.Does n at (p.While e s)) u h (inr i) =
        statement_kept s u (fit_right Fits (expression_sites e) (statement_sites s) h) i
    statement_kept (p.Does n at (p.Repeat s e)) u h (inl i) =
        expression_kept e u (fit_left Fits (expression_sites e) (statement_sites s) h) i
    statement_kept (p.Does n at (p.Repeat s e)) u h (inr i) =
        statement_kept s u (fit_right Fits (expression_sites e) (statement_sites s) h) i
    statement_kept (p.Does n at (p.For x name from down to s)) u h (inl e) = aim x u e
    statement_kept (p.Does n at (p.For x name from down to s)) u h (inr (inl i)) =
        expression_kept from u (fit_left Fits (expression_sites from) _ h.1) i
    statement_kept (p.Does n at (p.For x name from down to s)) u h (inr (inr (inl i))) =
        expression_kept to u (fit_left Fits (expression_sites to) _ (fit_right Fits (expression_sites from) _ h.1)) i
    statement_kept (p.Does n at (p.For x name from down to s)) u h (inr (inr (inr i))) =
        statement_kept s u (fit_right Fits (expression_sites to) _ (fit_right Fits (expression_sites from) _ h.1)) i
    statement_kept (p.Does n at (p.Case e arms)) u h (inl i) =
        expression_kept e u (fit_left Fits (expression_sites e) (arms_sites arms) h) i
    statement_kept (p.Does n at (p.Case e arms)) u h (inr i) =
        arms_kept arms u (fit_right Fits (expression_sites e) (arms_sites arms) h) i
    statement_kept (p.Does n at (p.Parallel ss)) u h (inl e) = subst Suits (sym e) (splits ss h.0)
    statement_kept (p.Does n at (p.Parallel ss)) u (_, (_, inside)) (inr (inl i)) = statements_kept ss u inside i
    statement_kept (p.Does n at (p.Parallel ss)) u (_, (stopping, _)) (inr (inr e)) = stop at u stopping e
    statement_kept (p.Does n at (p.Forall x from to s)) u h (inl e) = subst Suits (sym e) (spreads at x s h.0)
    statement_kept (p.Does n at (p.Forall x from to s)) u (_, (_, inside)) (inr (inl i)) =
        expression_kept from u (fit_left Fits (expression_sites from) _ inside) i
    statement_kept (p.Does n at (p.Forall x from to s)) u (_, (_, inside)) (inr (inr (inl i))) =
        expression_kept to u (fit_left Fits (expression_sites to) _ (fit_right Fits (expression_sites from) _ inside)) i
    statement_kept (p.Does n at (p.Forall x from to s)) u (_, (_, inside)) (inr (inr (inr (inl i)))) =
        statement_kept s u (fit_right Fits (expression_sites to) _ (fit_right Fits (expression_sites from) _ inside))
        i.0
    statement_kept (p.Does n at (p.Forall x from to s)) u (_, (stopping, _)) (inr (inr (inr (inr e)))) =
        stop at u stopping e
    statement_kept (p.Does n at (p.Assume e)) u h i = expression_kept e u h i
    statement_kept (p.Does n at (p.ReadValue v)) u h (inl e) = aim 0 u e
    statement_kept (p.Does n at (p.ReadValue v)) u h (inr (inl i)) = target_kept v u h.1 i
    statement_kept (p.Does n at (p.ReadValue v)) u h (inr (inr e)) = stop at u h.0 e
    statement_kept (p.Does n at p.ReadLine) u h (inl e) = aim 0 u e
    statement_kept (p.Does n at p.ReadLine) u h (inr e) = stop at u h.0 e
    statement_kept (p.Does n at (p.WriteValue e w)) u h (inl i) = aim 1 u i
    statement_kept (p.Does n at (p.WriteValue e w)) u h (inr (inl i)) =
        expression_kept e u (fit_left Fits (expression_sites e) (width_sites w) h.1) i
    statement_kept (p.Does n at (p.WriteValue e w)) u h (inr (inr (inl i))) =
        width_kept w u (fit_right Fits (expression_sites e) (width_sites w) h.1) i
    statement_kept (p.Does n at (p.WriteValue e w)) u h (inr (inr (inr i))) = stop at u h.0 i
    statement_kept (p.Does n at (p.WriteText t w)) u h (inl i) = aim 1 u i
    statement_kept (p.Does n at (p.WriteText t w)) u h (inr (inl i)) = width_kept w u h.1 i
    statement_kept (p.Does n at (p.WriteText t w)) u h (inr (inr i)) = stop at u h.0 i
    statement_kept (p.Does n at p.WriteLine) u h (inl i) = aim 1 u i
    statement_kept (p.Does n at p.WriteLine) u h (inr i) = stop at u h.0 i
    statement_kept (p.Does n at (p.Open v)) u h (inl i) = target_kept v u h.1 i
    statement_kept (p.Does n at (p.Open v)) u h (inr e) = stop at u h.0 e
    statement_kept (p.Does n at (p.Send c e)) u h (inl i) =
        expression_kept c u (fit_left Fits (expression_sites c) (expression_sites e) h.1) i
    statement_kept (p.Does n at (p.Send c e)) u h (inr (inl i)) =
        expression_kept e u (fit_right Fits (expression_sites c) (expression_sites e) h.1) i
    statement_kept (p.Does n at (p.Send c e)) u h (inr (inr i)) = stop at u h.0 i
    statement_kept (p.Does n at (p.Receive c v)) u h (inl i) =
        expression_kept c u (fit_left Fits (expression_sites c) (variable_sites v) h.1) i
    statement_kept (p.Does n at (p.Receive c v)) u h (inr (inl i)) =
        target_kept v u (fit_right Fits (expression_sites c) (variable_sites v) h.1) i
    statement_kept (p.Does n at (p.Receive c v)) u h (inr (inr e)) = stop at u h.0 e

    statements_kept : (ss : p.Statements) (u : Use) → HoldsOfEach Fits (statements_sites ss)
        → In_stmts (bare_statements ss) u
        → Suits u
    statements_kept p.NoStatement u h i = absurd i
    statements_kept (p.AndThen s rest) u h (inl i) =
        statement_kept s u (fit_left Fits (statement_sites s) (statements_sites rest) h) i
    statements_kept (p.AndThen s rest) u h (inr i) =
        statements_kept rest u (fit_right Fits (statement_sites s) (statements_sites rest) h) i

    arms_kept : (arms : p.Arms) (u : Use) → HoldsOfEach Fits (arms_sites arms) → In_arms (bare_arms arms) u → Suits u
    arms_kept p.NoArm u h i = absurd i
    arms_kept (p.Or (p.On cs s) rest) u h (inl i) =
        statement_kept s u (fit_left Fits (statement_sites s) (arms_sites rest) h) i
    arms_kept (p.Or (p.On cs s) rest) u h (inr i) =
        arms_kept rest u (fit_right Fits (statement_sites s) (arms_sites rest) h) i
