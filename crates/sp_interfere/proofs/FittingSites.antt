-- What stands at the sites of a statement stands in the statement: parts of it, and calls.
use Rattle.std.proofs.Common.{inl, inr, ℕ, List, [], ◌∷◌, ◌++◌, Option, Some, None, refl, sym, subst}
use Rattle.sp_base.specs.declared.place.Place.{Place}
use Rattle.sp_tree.specs.PlainChecked as p
use Rattle.sp_tree.specs.Plain as b
use Rattle.sp_tree.specs.Bare.{bare_expression, bare_form, bare_variable, bare_selectors, bare_actuals, bare_width}
use Rattle.sp_tree.specs.Bare.{bare_statement, bare_statement_form, bare_statements, bare_arms}
use Rattle.sp_tree.specs.Uses.{CallOf, In_expr, In_form, In_read}
use Rattle.sp_tree.specs.Uses.{In_target, In_selectors, In_actuals, In_width, In_stmt, In_stmts, In_arms}
use Rattle.sp_tree.specs.Sites.{Site, SplitsAt, SpreadsAt, LoopsAt, CallsAt, StopsAt, expression_sites, form_sites}
use Rattle.sp_tree.specs.Sites.{variable_sites, selectors_sites, actuals_sites, width_sites, statement_sites}
use Rattle.sp_tree.specs.Sites.{statement_form_sites, statements_sites, arms_sites}
use Rattle.sp_tree.specs.Interferes.{IsSite}
use Rattle.sp_varsets.specs.Parts.{IsPart, IsInForm, IsInStatements, IsInArms}

pub in_first : (xs ys : List Site) (site : Site) → IsSite site xs → IsSite site (xs ++ ys)
in_first [] ys site i = absurd i
in_first (x ∷ xs) ys site (inl e) = inl e
in_first (x ∷ xs) ys site (inr i) = inr (in_first xs ys site i)

pub in_second : (xs ys : List Site) (site : Site) → IsSite site ys → IsSite site (xs ++ ys)
in_second [] ys site i = i
in_second (x ∷ xs) ys site i = inr (in_second xs ys site i)

-- the parts and the calls of what stands around
module _ (Part : p.Statement → Type 0) (Run : ℕ → b.Actuals → Type 0) where
  abbrev pub AllParts : p.Statements → Type 0
  AllParts p.NoStatement = Unit {0}
  AllParts (p.AndThen t rest) = Part t × AllParts rest

  abbrev pub SiteFits : Site → Type 0
  SiteFits (SplitsAt parts) = AllParts parts
  SiteFits (SpreadsAt at x t) = Part t
  SiteFits (LoopsAt x at t) = Part t
  SiteFits (CallsAt f at args) = Run f (bare_actuals args)
  SiteFits (StopsAt at) = Unit {0}

  abbrev pub SitesFit : List Site → Type 0
  SitesFit [] = Unit {0}
  SitesFit (x ∷ xs) = SiteFits x × SitesFit xs

  two_fit : (xs ys : List Site) → SitesFit xs → SitesFit ys → SitesFit (xs ++ ys)
  two_fit [] ys h k = k
  two_fit (x ∷ xs) ys h k = (h.0, two_fit xs ys h.1 k)

  pub one_fits : (xs : List Site) (site : Site) → SitesFit xs → IsSite site xs → SiteFits site
  one_fits [] site h i = absurd i
  one_fits (x ∷ xs) site h (inl e) = subst SiteFits (sym e) h.0
  one_fits (x ∷ xs) site h (inr i) = one_fits xs site h.1 i

  mutual
    expression_fits : (e : p.Expression) → ((f : ℕ) (bs : b.Actuals) → In_expr (bare_expression e) (CallOf f bs)
        → Run f bs) → SitesFit (expression_sites e)
    expression_fits (p.ExpressionAt at k form) run = form_fits form run

    form_fits : (e : p.ExpressionForm) → ((f : ℕ) (bs : b.Actuals) → In_form (bare_form e) (CallOf f bs) → Run f bs)
        → SitesFit (form_sites e)
    form_fits (p.Number n) run = tt
    form_fits (p.Read v) run = read_fits v run
    form_fits (p.Unary op a) run = expression_fits a run
    form_fits (p.Binary op a c) run = two_fit (expression_sites a) (expression_sites c)
        (expression_fits a (λ f bs i. run f bs (inl i))) (expression_fits c (λ f bs i. run f bs (inr i)))
    form_fits (p.Apply f at args) run = (
      run f (bare_actuals args) (inl refl),
      actuals_fit args (λ f bs i. run f bs (inr i)),
    )
    form_fits (p.Standard f p.NoExpression) run = tt
    form_fits (p.Standard f (p.AndExpression a rest)) run = expression_fits a run

    read_fits : (v : p.Variable) → ((f : ℕ) (bs : b.Actuals) → In_read (bare_variable v) (CallOf f bs) → Run f bs)
        → SitesFit (variable_sites v)
    read_fits (p.Entire x at ss) run = selectors_fit ss (λ f bs i. run f bs (inr i))

    target_fits : (v : p.Variable) → ((f : ℕ) (bs : b.Actuals) → In_target (bare_variable v) (CallOf f bs) → Run f bs)
        → SitesFit (variable_sites v)
    target_fits (p.Entire x at ss) run = selectors_fit ss (λ f bs i. run f bs (inr i))

    selectors_fit : (ss : p.Selectors) → ((f : ℕ) (bs : b.Actuals) → In_selectors (bare_selectors ss) (CallOf f bs)
        → Run f bs) → SitesFit (selectors_sites ss)
    selectors_fit p.Whole run = tt
    selectors_fit (p.Select (p.Index e) rest) run =
        two_fit (expression_sites e) (selectors_sites rest) (expression_fits e (λ f bs i. run f bs (inl i)))
        (selectors_fit rest (λ f bs i. run f bs (inr i)))
    selectors_fit (p.Select (p.Field f) rest) run = selectors_fit rest run

    actuals_fit : (args : p.Actuals) → ((f : ℕ) (bs : b.Actuals) → In_actuals (bare_actuals args) (CallOf f bs)
        → Run f bs) → SitesFit (actuals_sites args)
    actuals_fit p.Nothing run = tt
    actuals_fit (p.Pass (p.ByValue e) rest) run =
        two_fit (expression_sites e) (actuals_sites rest) (expression_fits e (λ f bs i. run f bs (inl i)))
        (actuals_fit rest (λ f bs i. run f bs (inr i)))
    actuals_fit (p.Pass (p.ByReference v) rest) run =
        two_fit (variable_sites v) (actuals_sites rest) (target_fits v (λ f bs i. run f bs (inl i)))
        (actuals_fit rest (λ f bs i. run f bs (inr i)))

  width_fits : (w : Option p.Expression) → ((f : ℕ) (bs : b.Actuals) → In_width (bare_width w) (CallOf f bs) → Run f bs)
      → SitesFit (width_sites w)
  width_fits None run = tt
  width_fits (Some e) run = expression_fits e run

  all_parts : (ss : p.Statements) → ((t : p.Statement) → IsInStatements t ss → Part t) → AllParts ss
  all_parts p.NoStatement part = tt
  all_parts (p.AndThen (p.Does n at form) rest) part =
      (part (p.Does n at form) (inl (inl refl)), all_parts rest (λ t i. part t (inr i)))

  itself : (s : p.Statement) → IsPart s s
  itself (p.Does n at form) = inl refl

  mutual
    pub statement_fits : (s : p.Statement) → ((t : p.Statement) → IsPart t s → Part t)
        → ((f : ℕ) (bs : b.Actuals) → In_stmt (bare_statement s) (CallOf f bs) → Run f bs)
        → SitesFit (statement_sites s)
    statement_fits (p.Does n at form) part run = statement_form_fits at form (λ t i. part t (inr i)) run

    statement_form_fits : (at : Place) (form : p.Form) → ((t : p.Statement) → IsInForm t form → Part t)
        → ((f : ℕ) (bs : b.Actuals) → In_stmt (bare_statement_form form) (CallOf f bs) → Run f bs)
        → SitesFit (statement_form_sites at form)
    statement_form_fits at p.Empty part run = tt
    statement_form_fits at (p.Assign v e) part run =
        two_fit (variable_sites v) (expression_sites e) (target_fits v (λ f bs i. run f bs (inl i)))
        (expression_fits e (λ f bs i. run f bs (inr i)))
    statement_form_fits at (p.Call f args) part run =
        (run f (bare_actuals args) (inl refl), actuals_fit args (λ f bs i. run f bs (inr i)))
    statement_form_fits at (p.Sequence ss) part run = statements_fit ss part run
    statement_form_fits at (p.If e s p.NoElse) part run =
        two_fit (expression_sites e) (statement_sites s) (expression_fits e (λ f bs i. run f bs (inl i)))
        (statement_fits s (λ t i. part t (inl i)) (λ f bs i. run f bs (inr i)))
    statement_form_fits at (p.If e s (p.Else t)) part run =
        two_fit (expression_sites e) (statement_sites s ++ statement_sites t)
        (expression_fits e (λ f bs i. run f bs (inl i)))
        (two_fit (statement_sites s) (statement_sites t)
        (statement_fits s (λ t i. part t (inl i)) (λ f bs i. run f bs (inr (inl i))))
        (statement_fits t (λ t i. part t (inr i)) (λ f bs i. run f bs (inr (inr i)))))
    statement_form_fits at (p.While e s) part run =
        two_fit (expression_sites e) (statement_sites s) (expression_fits e (λ f bs i. run f bs (inl i)))
        (statement_fits s part (λ f bs i. run f bs (inr i)))
    statement_form_fits at (p.Repeat s e) part run =
        two_fit (expression_sites e) (statement_sites s) (expression_fits e (λ f bs i. run f bs (inl i)))
        (statement_fits s part (λ f bs i. run f bs (inr i)))
    statement_form_fits at (p.For x name from down to s) part run = (
      part s (itself s),
      two_fit (expression_sites from) (expression_sites to ++ statement_sites s)
          (expression_fits from (λ f bs i. run f bs (inr (inl i))))
          (two_fit (expression_sites to) (statement_sites s)
          (expression_fits to (λ f bs i. run f bs (inr (inr (inl i)))))
          (statement_fits s part (λ f bs i. run f bs (inr (inr (inr i)))))),
    )
    statement_form_fits at (p.Case e arms) part run =
        two_fit (expression_sites e) (arms_sites arms) (expression_fits e (λ f bs i. run f bs (inl i)))
        (arms_fit arms part (λ f bs i. run f bs (inr i)))
    statement_form_fits at (p.Parallel ss) part run =
        (all_parts ss part, (tt, statements_fit ss part (λ f bs i. run f bs (inr (inl i)))))
    statement_form_fits at (p.Forall x from to s) part run = (
      part s (itself s),
      (
        tt,
        two_fit (expression_sites from) (expression_sites to ++ statement_sites s)
            (expression_fits from (λ f bs i. run f bs (inr (inl i))))
            (two_fit (expression_sites to) (statement_sites s)
            (expression_fits to (λ f bs i. run f bs (inr (inr (inl i)))))
            (statement_fits s part (λ f bs i. run f bs (inr (inr (inr (inl (i, tt)))))))),
      ),
    )
    statement_form_fits at (p.Assume e) part run = expression_fits e run
    statement_form_fits at (p.ReadValue v) part run = (tt, target_fits v (λ f bs i. run f bs (inr (inl i))))
    statement_form_fits at p.ReadLine part run = (tt, tt)
    statement_form_fits at (p.WriteValue e w) part run = (
      tt,
      two_fit (expression_sites e) (width_sites w) (expression_fits e (λ f bs i. run f bs (inr (inl i))))
          (width_fits w (λ f bs i. run f bs (inr (inr (inl i))))),
    )
    statement_form_fits at (p.WriteText t w) part run = (tt, width_fits w (λ f bs i. run f bs (inr (inl i))))
    statement_form_fits at p.WriteLine part run = (tt, tt)
    statement_form_fits at (p.Open v) part run = (tt, target_fits v (λ f bs i. run f bs (inl i)))
    statement_form_fits at (p.Send c e) part run = (
      tt,
      two_fit (expression_sites c) (expression_sites e) (expression_fits c (λ f bs i. run f bs (inl i)))
          (expression_fits e (λ f bs i. run f bs (inr (inl i)))),
    )
    statement_form_fits at (p.Receive c v) part run = (
      tt,
      two_fit (expression_sites c) (variable_sites v) (expression_fits c (λ f bs i. run f bs (inl i)))
          (target_fits v (λ f bs i. run f bs (inr (inl i)))),
    )

    statements_fit : (ss : p.Statements) → ((t : p.Statement) → IsInStatements t ss → Part t)
        → ((f : ℕ) (bs : b.Actuals) → In_stmts (bare_statements ss) (CallOf f bs) → Run f bs)
        → SitesFit (statements_sites ss)
    statements_fit p.NoStatement part run = tt
    statements_fit (p.AndThen s rest) part run =
        two_fit (statement_sites s) (statements_sites rest)
        (statement_fits s (λ t i. part t (inl i)) (λ f bs i. run f bs (inl i)))
        (statements_fit rest (λ t i. part t (inr i)) (λ f bs i. run f bs (inr i)))

    arms_fit : (xs : p.Arms) → ((t : p.Statement) → IsInArms t xs → Part t)
        → ((f : ℕ) (bs : b.Actuals) → In_arms (bare_arms xs) (CallOf f bs) → Run f bs) → SitesFit (arms_sites xs)
    arms_fit p.NoArm part run = tt
    arms_fit (p.Or (p.On cs s) rest) part run =
        two_fit (statement_sites s) (arms_sites rest)
        (statement_fits s (λ t i. part t (inl i)) (λ f bs i. run f bs (inl i)))
        (arms_fit rest (λ t i. part t (inr i)) (λ f bs i. run f bs (inr i)))
