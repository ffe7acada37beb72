-- Each use in a statement has its site: where all sites keep the rules, all uses do.
use Rattle.std.proofs.Common.{◌≡◌, inl, inr, ℕ, List, [], ◌∷◌, ◌++◌, Option, Some, None, sym, subst}
use Rattle.sp_tree.specs.PlainChecked as p
use Rattle.sp_tree.specs.Plain.{Program}
use Rattle.sp_tree.specs.Bare.{bare_expression, bare_form, bare_variable, bare_selectors, bare_actuals, bare_width}
use Rattle.sp_tree.specs.Bare.{bare_statement, bare_statements, bare_arms}
use Rattle.sp_tree.specs.Uses.{Use, Target, Stop, In_expr, In_form, In_read, In_target, In_selectors, In_actuals}
use Rattle.sp_tree.specs.Uses.{In_width, In_stmt, In_stmts, In_arms}
use Rattle.sp_tree.specs.Interference.{KeepsI1, KeepsI2, KeepsI4, KeepsI5, IsIndexOf, IsFreeUse}
use Rattle.sp_tree.specs.Sites.{Site, SplitsAt, SpreadsAt, LoopsAt, CallsAt, StopsAt, expression_sites, form_sites}
use Rattle.sp_tree.specs.Sites.{variable_sites, selectors_sites, actuals_sites, width_sites, statement_sites}
use Rattle.sp_tree.specs.Sites.{statements_sites, arms_sites}

module _ (g : Program) where
  abbrev pub KeepsSite : Site → Type 0
  KeepsSite (SplitsAt parts) = KeepsI1 g (bare_statements parts)
  KeepsSite (SpreadsAt at x s) = IsIndexOf g x × KeepsI2 g (bare_statement s)
  KeepsSite (LoopsAt x at s) = Unit
  KeepsSite (CallsAt f at args) = KeepsI4 g (bare_actuals args) × KeepsI5 g f (bare_actuals args)
  KeepsSite (StopsAt at) = Unit

  abbrev pub AllKeep : List Site → Type 0
  AllKeep [] = Unit
  AllKeep (s ∷ ss) = KeepsSite s × AllKeep ss

  left : (xs ys : List Site) → AllKeep (xs ++ ys) → AllKeep xs
  left [] ys h = tt
  left (x ∷ xs) ys h = (h.0, left xs ys h.1)

  right : (xs ys : List Site) → AllKeep (xs ++ ys) → AllKeep ys
  right [] ys h = h
  right (x ∷ xs) ys h = right xs ys h.1

  mutual
    pub expression_kept : (e : p.Expression) (u : Use) → AllKeep (expression_sites e) → In_expr (bare_expression e) u
        → IsFreeUse g u
    expression_kept (p.ExpressionAt at k form) u h i = form_kept form u h i

    form_kept : (e : p.ExpressionForm) (u : Use) → AllKeep (form_sites e) → In_form (bare_form e) u → IsFreeUse g u
    form_kept (p.Number n) u h i = absurd i
    form_kept (p.Read v) u h i = read_kept v u h i
    form_kept (p.Unary op a) u h i = expression_kept a u h i
    form_kept (p.Binary op a b) u h (inl i) = expression_kept a u (left (expression_sites a) (expression_sites b) h) i
    form_kept (p.Binary op a b) u h (inr i) = expression_kept b u (right (expression_sites a) (expression_sites b) h) i
    form_kept (p.Apply f at args) u h (inl e) = subst (IsFreeUse g) (sym e) h.0
    form_kept (p.Apply f at args) u h (inr i) = actuals_kept args u h.1 i
    form_kept (p.Standard f p.NoExpression) u h e = subst (IsFreeUse g) (sym e) tt
    form_kept (p.Standard f (p.AndExpression a rest)) u h i = expression_kept a u h i

    read_kept : (v : p.Variable) (u : Use) → AllKeep (variable_sites v) → In_read (bare_variable v) u → IsFreeUse g u
    read_kept (p.Entire x at ss) u h (inl e) = subst (IsFreeUse g) (sym e) tt
    read_kept (p.Entire x at ss) u h (inr i) = selectors_kept ss u h i

    target_kept : (v : p.Variable) (u : Use) → AllKeep (variable_sites v) → In_target (bare_variable v) u
        → IsFreeUse g u
    target_kept (p.Entire x at ss) u h (inl e) = subst (IsFreeUse g) (sym e) tt
    target_kept (p.Entire x at ss) u h (inr i) = selectors_kept ss u h i

    selectors_kept : (ss : p.Selectors) (u : Use) → AllKeep (selectors_sites ss) → In_selectors (bare_selectors ss) u
        → IsFreeUse g u
    selectors_kept p.Whole u h i = absurd i
    selectors_kept (p.Select (p.Index e) rest) u h (inl i) =
        expression_kept e u (left (expression_sites e) (selectors_sites rest) h) i
    selectors_kept (p.Select (p.Index e) rest) u h (inr i) =
        selectors_kept rest u (right (expression_sites e) (selectors_sites rest) h) i
    selectors_kept (p.Select (p.Field f) rest) u h i = selectors_kept rest u h i

    actuals_kept : (args : p.Actuals) (u : Use) → AllKeep (actuals_sites args) → In_actuals (bare_actuals args) u
        → IsFreeUse g u
    actuals_kept p.Nothing u h i = absurd i
    actuals_kept (p.Pass (p.ByValue e) rest) u h (inl i) =
        expression_kept e u (left (expression_sites e) (actuals_sites rest) h) i
    actuals_kept (p.Pass (p.ByValue e) rest) u h (inr i) =
        actuals_kept rest u (right (expression_sites e) (actuals_sites rest) h) i
    actuals_kept (p.Pass (p.ByReference v) rest) u h (inl i) =
        target_kept v u (left (variable_sites v) (actuals_sites rest) h) i
    actuals_kept (p.Pass (p.ByReference v) rest) u h (inr i) =
        actuals_kept rest u (right (variable_sites v) (actuals_sites rest) h) i

  width_kept : (w : Option p.Expression) (u : Use) → AllKeep (width_sites w) → In_width (bare_width w) u
      → IsFreeUse g u
  width_kept None u h i = absurd i
  width_kept (Some e) u h i = expression_kept e u h i

  aim : (x : ℕ) (u : Use) → (e : u ≡ Target x) → IsFreeUse g u
  aim x u e = subst (IsFreeUse g) (sym e) tt

  stop : (u : Use) → (e : u ≡ Stop) → IsFreeUse g u
  stop u e = subst (IsFreeUse g) (sym e) tt

  mutual
    pub statement_kept : (s : p.Statement) (u : Use) → AllKeep (statement_sites s) → In_stmt (bare_statement s) u
        → IsFreeUse g u
    statement_kept (p.Does n at p.Empty) u h i = absurd i
    statement_kept (p.Does n at (p.Assign v e)) u h (inl i) =
        target_kept v u (left (variable_sites v) (expression_sites e) h) i
    statement_kept (p.Does n at (p.Assign v e)) u h (inr i) =
        expression_kept e u (right (variable_sites v) (expression_sites e) h) i
    statement_kept (p.Does n at (p.Call f args)) u h (inl e) = subst (IsFreeUse g) (sym e) h.0
    statement_kept (p.Does n at (p.Call f args)) u h (inr i) = actuals_kept args u h.1 i
    statement_kept (p.Does n at (p.Sequence ss)) u h i = statements_kept ss u h i
    statement_kept (p.Does n at (p.If e s p.NoElse)) u h (inl i) =
        expression_kept e u (left (expression_sites e) (statement_sites s) h) i
    statement_kept (p.Does n at (p.If e s p.NoElse)) u h (inr i) =
        statement_kept s u (right (expression_sites e) (statement_sites s) h) i
    statement_kept (p.Does n at (p.If e s (p.Else t))) u h (inl i) =
        expression_kept e u (left (expression_sites e) _ h) i
    statement_kept (p.Does n at (p.If e s (p.Else t))) u h (inr (inl i)) =
        statement_kept s u (left (statement_sites s) (statement_sites t) (right (expression_sites e) _ h)) i
    statement_kept (p.Does n at (p.If e s (p.Else t))) u h (inr (inr i)) =
        statement_kept t u (right (statement_sites s) (statement_sites t) (right (expression_sites e) _ h)) i
    statement_kept (p.Does n at (p.While e s)) u h (inl i) =
        expression_kept e u (left (expression_sites e) (statement_sites s) h) i
    statement_kept (p.Does n at (p.While e s)) u h (inr i) =
        statement_kept s u (right (expression_sites e) (statement_sites s) h) i
    statement_kept (p.Does n at (p.Repeat s e)) u h (inl i) =
        expression_kept e u (left (expression_sites e) (statement_sites s) h) i
    statement_kept (p.Does n at (p.Repeat s e)) u h (inr i) =
        statement_kept s u (right (expression_sites e) (statement_sites s) h) i
    statement_kept (p.Does n at (p.For x name from down to s)) u h (inl e) = aim x u e
    statement_kept (p.Does n at (p.For x name from down to s)) u h (inr (inl i)) =
        expression_kept from u (left (expression_sites from) _ h.1) i
    statement_kept (p.Does n at (p.For x name from down to s)) u h (inr (inr (inl i))) =
        expression_kept to u (left (expression_sites to) _ (right (expression_sites from) _ h.1)) i
    statement_kept (p.Does n at (p.For x name from down to s)) u h (inr (inr (inr i))) =
        statement_kept s u (right (expression_sites to) _ (right (expression_sites from) _ h.1)) i
    statement_kept (p.Does n at (p.Case e arms)) u h (inl i) =
        expression_kept e u (left (expression_sites e) (arms_sites arms) h) i
    statement_kept (p.Does n at (p.Case e arms)) u h (inr i) =
        arms_kept arms u (right (expression_sites e) (arms_sites arms) h) i
    statement_kept (p.Does n at (p.Parallel ss)) u h (inl e) = subst (IsFreeUse g) (sym e) h.0
    statement_kept (p.Does n at (p.Parallel ss)) u (_, (_, h)) (inr (inl i)) = statements_kept ss u h i
    statement_kept (p.Does n at (p.Parallel ss)) u h (inr (inr e)) = stop u e
    statement_kept (p.Does n at (p.Forall x from to s)) u h (inl e) = subst (IsFreeUse g) (sym e) h.0
    statement_kept (p.Does n at (p.Forall x from to s)) u (_, (_, h)) (inr (inl i)) =
        expression_kept from u (left (expression_sites from) _ h) i
    statement_kept (p.Does n at (p.Forall x from to s)) u (_, (_, h)) (inr (inr (inl i))) =
        expression_kept to u (left (expression_sites to) _ (right (expression_sites from) _ h)) i
    statement_kept (p.Does n at (p.Forall x from to s)) u (_, (_, h)) (inr (inr (inr (inl i)))) =
        statement_kept s u (right (expression_sites to) _ (right (expression_sites from) _ h)) i.0
    statement_kept (p.Does n at (p.Forall x from to s)) u h (inr (inr (inr (inr e)))) = stop u e
    statement_kept (p.Does n at (p.Assume e)) u h i = expression_kept e u h i
    statement_kept (p.Does n at (p.ReadValue v)) u h (inl e) = aim 0 u e
    statement_kept (p.Does n at (p.ReadValue v)) u h (inr (inl i)) = target_kept v u h.1 i
    statement_kept (p.Does n at (p.ReadValue v)) u h (inr (inr e)) = stop u e
    statement_kept (p.Does n at p.ReadLine) u h (inl e) = aim 0 u e
    statement_kept (p.Does n at p.ReadLine) u h (inr e) = stop u e
    statement_kept (p.Does n at (p.WriteValue e w)) u h (inl i) = aim 1 u i
    statement_kept (p.Does n at (p.WriteValue e w)) u h (inr (inl i)) =
        expression_kept e u (left (expression_sites e) (width_sites w) h.1) i
    statement_kept (p.Does n at (p.WriteValue e w)) u h (inr (inr (inl i))) =
        width_kept w u (right (expression_sites e) (width_sites w) h.1) i
    statement_kept (p.Does n at (p.WriteValue e w)) u h (inr (inr (inr i))) = stop u i
    statement_kept (p.Does n at (p.WriteText t w)) u h (inl i) = aim 1 u i
    statement_kept (p.Does n at (p.WriteText t w)) u h (inr (inl i)) = width_kept w u h.1 i
    statement_kept (p.Does n at (p.WriteText t w)) u h (inr (inr i)) = stop u i
    statement_kept (p.Does n at p.WriteLine) u h (inl i) = aim 1 u i
    statement_kept (p.Does n at p.WriteLine) u h (inr i) = stop u i
    statement_kept (p.Does n at (p.Open v)) u h (inl i) = target_kept v u h.1 i
    statement_kept (p.Does n at (p.Open v)) u h (inr e) = stop u e
    statement_kept (p.Does n at (p.Send c e)) u h (inl i) =
        expression_kept c u (left (expression_sites c) (expression_sites e) h.1) i
    statement_kept (p.Does n at (p.Send c e)) u h (inr (inl i)) =
        expression_kept e u (right (expression_sites c) (expression_sites e) h.1) i
    statement_kept (p.Does n at (p.Send c e)) u h (inr (inr i)) = stop u i
    statement_kept (p.Does n at (p.Receive c v)) u h (inl i) =
        expression_kept c u (left (expression_sites c) (variable_sites v) h.1) i
    statement_kept (p.Does n at (p.Receive c v)) u h (inr (inl i)) =
        target_kept v u (right (expression_sites c) (variable_sites v) h.1) i
    statement_kept (p.Does n at (p.Receive c v)) u h (inr (inr e)) = stop u e

    statements_kept : (ss : p.Statements) (u : Use) → AllKeep (statements_sites ss) → In_stmts (bare_statements ss) u
        → IsFreeUse g u
    statements_kept p.NoStatement u h i = absurd i
    statements_kept (p.AndThen s rest) u h (inl i) =
        statement_kept s u (left (statement_sites s) (statements_sites rest) h) i
    statements_kept (p.AndThen s rest) u h (inr i) =
        statements_kept rest u (right (statement_sites s) (statements_sites rest) h) i

    arms_kept : (arms : p.Arms) (u : Use) → AllKeep (arms_sites arms) → In_arms (bare_arms arms) u → IsFreeUse g u
    arms_kept p.NoArm u h i = absurd i
    arms_kept (p.Or (p.On cs s) rest) u h (inl i) = statement_kept s u (left (statement_sites s) (arms_sites rest) h) i
    arms_kept (p.Or (p.On cs s) rest) u h (inr i) = arms_kept rest u (right (statement_sites s) (arms_sites rest) h) i
