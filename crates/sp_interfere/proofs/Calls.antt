-- Each call that stands in a statement has its site.
use Rattle.std.proofs.Common.{◌≡◌, inl, inr, ℕ, List, ◌∷◌, ◌++◌, Option, Some, None}
use Rattle.sp_base.specs.declared.place.Place.{Place}
use Rattle.sp_tree.specs.PlainChecked as p
use Rattle.sp_tree.specs.Plain as b
use Rattle.sp_tree.specs.Bare.{bare_expression, bare_form, bare_variable, bare_selectors, bare_actuals, bare_width}
use Rattle.sp_tree.specs.Bare.{bare_statement, bare_statements, bare_arms}
use Rattle.sp_tree.specs.Uses.{CallOf, In_expr, In_form, In_read, In_target, In_selectors, In_actuals, In_width}
use Rattle.sp_tree.specs.Uses.{In_stmt, In_stmts, In_arms}
use Rattle.sp_tree.specs.Sites.{Site, SplitsAt, SpreadsAt, StopsAt, CallsAt, expression_sites, form_sites}
use Rattle.sp_tree.specs.Sites.{variable_sites, selectors_sites, actuals_sites, width_sites, statement_sites}
use Rattle.sp_tree.specs.Sites.{statements_sites, arms_sites}
use Rattle.sp_tree.specs.Interferes.{IsSite}
use Rattle.sp_interfere.proofs.FittingSites.{in_first, in_second}

-- one of the sites is a call of the block
abbrev pub HasCall : ℕ → List Site → Type 0
HasCall f xs = (at : Place) × (args : p.Actuals) × IsSite (CallsAt f at args) xs

first : (f : ℕ) (xs ys : List Site) → HasCall f xs → HasCall f (xs ++ ys)
first f xs ys (at, args, i) = (at, args, in_first xs ys (CallsAt f at args) i)

second : (f : ℕ) (xs ys : List Site) → HasCall f ys → HasCall f (xs ++ ys)
second f xs ys (at, args, i) = (at, args, in_second xs ys (CallsAt f at args) i)

later : (f : ℕ) (x : Site) (xs : List Site) → HasCall f xs → HasCall f (x ∷ xs)
later f x xs (at, args, i) = (at, args, inr i)

later_still : (f : ℕ) (x y : Site) (xs : List Site) → HasCall f xs → HasCall f (x ∷ y ∷ xs)
later_still f x y xs (at, args, i) = (at, args, inr (inr i))

here : (f d : ℕ) (bs cs : b.Actuals) (at : Place) (args : p.Actuals) (xs : List Site) → CallOf f bs ≡ CallOf d cs
    → HasCall f (CallsAt d at args ∷ xs)
here f d bs cs at args xs e = let same : f ≡ d = cc e in (at, args, inl (cc same))

module _ (f : ℕ) (bs : b.Actuals) where
  mutual
    expression_called : (e : p.Expression) → In_expr (bare_expression e) (CallOf f bs) → HasCall f (expression_sites e)
    expression_called (p.ExpressionAt at k form) i = form_called form i

    form_called : (e : p.ExpressionForm) → In_form (bare_form e) (CallOf f bs) → HasCall f (form_sites e)
    form_called (p.Number n) i = absurd i
    form_called (p.Read v) i = read_called v i
    form_called (p.Unary op a) i = expression_called a i
    form_called (p.Binary op a c) (inl i) = first f (expression_sites a) (expression_sites c) (expression_called a i)
    form_called (p.Binary op a c) (inr i) = second f (expression_sites a) (expression_sites c) (expression_called c i)
    form_called (p.Apply d at args) (inl e) = here f d bs (bare_actuals args) at args (actuals_sites args) e
    form_called (p.Apply d at args) (inr i) = later f _ (actuals_sites args) (actuals_called args i)
    form_called (p.Standard g p.NoExpression) i = absurd (cc i)
    form_called (p.Standard g (p.AndExpression a rest)) i = expression_called a i

    read_called : (v : p.Variable) → In_read (bare_variable v) (CallOf f bs) → HasCall f (variable_sites v)
    read_called (p.Entire x at ss) (inl e) = absurd (cc e)
    read_called (p.Entire x at ss) (inr i) = selectors_called ss i

    target_called : (v : p.Variable) → In_target (bare_variable v) (CallOf f bs) → HasCall f (variable_sites v)
    target_called (p.Entire x at ss) (inl e) = absurd (cc e)
    target_called (p.Entire x at ss) (inr i) = selectors_called ss i

    selectors_called : (ss : p.Selectors) → In_selectors (bare_selectors ss) (CallOf f bs)
        → HasCall f (selectors_sites ss)
    selectors_called p.Whole i = absurd i
    selectors_called (p.Select (p.Index e) rest) (inl i) =
        first f (expression_sites e) (selectors_sites rest) (expression_called e i)
    selectors_called (p.Select (p.Index e) rest) (inr i) =
        second f (expression_sites e) (selectors_sites rest) (selectors_called rest i)
    selectors_called (p.Select (p.Field g) rest) i = selectors_called rest i

    actuals_called : (args : p.Actuals) → In_actuals (bare_actuals args) (CallOf f bs) → HasCall f (actuals_sites args)
    actuals_called p.Nothing i = absurd i
    actuals_called (p.Pass (p.ByValue e) rest) (inl i) =
        first f (expression_sites e) (actuals_sites rest) (expression_called e i)
    actuals_called (p.Pass (p.ByValue e) rest) (inr i) =
        second f (expression_sites e) (actuals_sites rest) (actuals_called rest i)
    actuals_called (p.Pass (p.ByReference v) rest) (inl i) =
        first f (variable_sites v) (actuals_sites rest) (target_called v i)
    actuals_called (p.Pass (p.ByReference v) rest) (inr i) =
        second f (variable_sites v) (actuals_sites rest) (actuals_called rest i)

  width_called : (w : Option p.Expression) → In_width (bare_width w) (CallOf f bs) → HasCall f (width_sites w)
  width_called None i = absurd i
  width_called (Some e) i = expression_called e i

  mutual
    pub statement_called : (s : p.Statement) → In_stmt (bare_statement s) (CallOf f bs) → HasCall f (statement_sites s)
    statement_called (p.Does n at p.Empty) i = absurd i
    statement_called (p.Does n at (p.Assign v e)) (inl i) =
        first f (variable_sites v) (expression_sites e) (target_called v i)
    statement_called (p.Does n at (p.Assign v e)) (inr i) =
        second f (variable_sites v) (expression_sites e) (expression_called e i)
    statement_called (p.Does n at (p.Call d args)) (inl e) =
        here f d bs (bare_actuals args) at args (actuals_sites args) e
    statement_called (p.Does n at (p.Call d args)) (inr i) = later f _ (actuals_sites args) (actuals_called args i)
    statement_called (p.Does n at (p.Sequence ss)) i = statements_called ss i
    statement_called (p.Does n at (p.If e s p.NoElse)) (inl i) =
        first f (expression_sites e) (statement_sites s) (expression_called e i)
    statement_called (p.Does n at (p.If e s p.NoElse)) (inr i) =
        second f (expression_sites e) (statement_sites s) (statement_called s i)
    statement_called (p.Does n at (p.If e s (p.Else t))) (inl i) =
        first f (expression_sites e) _ (expression_called e i)
    statement_called (p.Does n at (p.If e s (p.Else t))) (inr (inl i)) =
        second f (expression_sites e) _ (first f (statement_sites s) (statement_sites t) (statement_called s i))
    statement_called (p.Does n at (p.If e s (p.Else t))) (inr (inr i)) =
        second f (expression_sites e) _ (second f (statement_sites s) (statement_sites t) (statement_called t i))
    statement_called (p.Does n at (p.While e s)) (inl i) =
        first f (expression_sites e) (statement_sites s) (expression_called e i)
    statement_called (p.Does n at (p.While e s)) (inr i) =
        second f (expression_sites e) (statement_sites s) (statement_called s i)
    statement_called (p.Does n at (p.Repeat s e)) (inl i) =
        first f (expression_sites e) (statement_sites s) (expression_called e i)
    statement_called (p.Does n at (p.Repeat s e)) (inr i) =
        second f (expression_sites e) (statement_sites s) (statement_called s i)
    statement_called (p.Does n at (p.For x name from down to s)) (inl e) = absurd (cc e)
    statement_called (p.Does n at (p.For x name from down to s)) (inr (inl i)) =
        later f _ _ (first f (expression_sites from) _ (expression_called from i))
    statement_called (p.Does n at (p.For x name from down to s)) (inr (inr (inl i))) =
        later f _ _ (second f (expression_sites from) _
        (first f (expression_sites to) (statement_sites s) (expression_called to i)))
    statement_called (p.Does n at (p.For x name from down to s)) (inr (inr (inr i))) =
        later f _ _ (second f (expression_sites from) _
        (second f (expression_sites to) (statement_sites s) (statement_called s i)))
    statement_called (p.Does n at (p.Case e arms)) (inl i) =
        first f (expression_sites e) (arms_sites arms) (expression_called e i)
    statement_called (p.Does n at (p.Case e arms)) (inr i) =
        second f (expression_sites e) (arms_sites arms) (arms_called arms i)
    statement_called (p.Does n at (p.Parallel ss)) (inl e) = absurd (cc e)
    statement_called (p.Does n at (p.Parallel ss)) (inr (inl i)) =
        later_still f (SplitsAt ss) (StopsAt at) (statements_sites ss) (statements_called ss i)
    statement_called (p.Does n at (p.Parallel ss)) (inr (inr e)) = absurd (cc e)
    statement_called (p.Does n at (p.Forall x from to s)) (inl e) = absurd (cc e)
    statement_called (p.Does n at (p.Forall x from to s)) (inr (inl i)) =
        later_still f (SpreadsAt at x s) (StopsAt at)
        (expression_sites from ++ (expression_sites to ++ statement_sites s))
        (first f (expression_sites from) _ (expression_called from i))
    statement_called (p.Does n at (p.Forall x from to s)) (inr (inr (inl i))) =
        later_still f (SpreadsAt at x s) (StopsAt at)
        (expression_sites from ++ (expression_sites to ++ statement_sites s))
        (second f (expression_sites from) _ (first f (expression_sites to) (statement_sites s)
        (expression_called to i)))
    statement_called (p.Does n at (p.Forall x from to s)) (inr (inr (inr (inl i)))) =
        later_still f (SpreadsAt at x s) (StopsAt at)
        (expression_sites from ++ (expression_sites to ++ statement_sites s))
        (second f (expression_sites from) _ (second f (expression_sites to) (statement_sites s)
        (statement_called s i.0)))
    statement_called (p.Does n at (p.Forall x from to s)) (inr (inr (inr (inr e)))) = absurd (cc e)
    statement_called (p.Does n at (p.Assume e)) i = expression_called e i
    statement_called (p.Does n at (p.ReadValue v)) (inl e) = absurd (cc e)
    statement_called (p.Does n at (p.ReadValue v)) (inr (inl i)) = later f _ _ (target_called v i)
    statement_called (p.Does n at (p.ReadValue v)) (inr (inr e)) = absurd (cc e)
    statement_called (p.Does n at p.ReadLine) (inl e) = absurd (cc e)
    statement_called (p.Does n at p.ReadLine) (inr e) = absurd (cc e)
    statement_called (p.Does n at (p.WriteValue e w)) (inl i) = absurd (cc i)
    statement_called (p.Does n at (p.WriteValue e w)) (inr (inl i)) =
        later f _ _ (first f (expression_sites e) (width_sites w) (expression_called e i))
    statement_called (p.Does n at (p.WriteValue e w)) (inr (inr (inl i))) =
        later f _ _ (second f (expression_sites e) (width_sites w) (width_called w i))
    statement_called (p.Does n at (p.WriteValue e w)) (inr (inr (inr i))) = absurd (cc i)
    statement_called (p.Does n at (p.WriteText t w)) (inl i) = absurd (cc i)
    statement_called (p.Does n at (p.WriteText t w)) (inr (inl i)) = later f _ _ (width_called w i)
    statement_called (p.Does n at (p.WriteText t w)) (inr (inr i)) = absurd (cc i)
    statement_called (p.Does n at p.WriteLine) (inl i) = absurd (cc i)
    statement_called (p.Does n at p.WriteLine) (inr i) = absurd (cc i)
    statement_called (p.Does n at (p.Open v)) (inl i) = later f _ _ (target_called v i)
    statement_called (p.Does n at (p.Open v)) (inr e) = absurd (cc e)
    statement_called (p.Does n at (p.Send c e)) (inl i) =
        later f _ _ (first f (expression_sites c) (expression_sites e) (expression_called c i))
    statement_called (p.Does n at (p.Send c e)) (inr (inl i)) =
        later f _ _ (second f (expression_sites c) (expression_sites e) (expression_called e i))
    statement_called (p.Does n at (p.Send c e)) (inr (inr i)) = absurd (cc i)
    statement_called (p.Does n at (p.Receive c v)) (inl i) =
        later f _ _ (first f (expression_sites c) (variable_sites v) (expression_called c i))
    statement_called (p.Does n at (p.Receive c v)) (inr (inl i)) =
        later f _ _ (second f (expression_sites c) (variable_sites v) (target_called v i))
    statement_called (p.Does n at (p.Receive c v)) (inr (inr e)) = absurd (cc e)

    statements_called : (ss : p.Statements) → In_stmts (bare_statements ss) (CallOf f bs)
        → HasCall f (statements_sites ss)
    statements_called p.NoStatement i = absurd i
    statements_called (p.AndThen s rest) (inl i) =
        first f (statement_sites s) (statements_sites rest) (statement_called s i)
    statements_called (p.AndThen s rest) (inr i) =
        second f (statement_sites s) (statements_sites rest) (statements_called rest i)

    arms_called : (xs : p.Arms) → In_arms (bare_arms xs) (CallOf f bs) → HasCall f (arms_sites xs)
    arms_called p.NoArm i = absurd i
    arms_called (p.Or (p.On cs s) rest) (inl i) = first f (statement_sites s) (arms_sites rest) (statement_called s i)
    arms_called (p.Or (p.On cs s) rest) (inr i) = second f (statement_sites s) (arms_sites rest) (arms_called rest i)
