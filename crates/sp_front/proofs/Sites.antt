-- The sites of a checked statement: those of calls and loops are any, those of foralls and parallel statements are what
-- is asked of them.
use Rattle.std.proofs.Common.{◌≡◌, inl, inr, refl, sym, subst, ℕ, zero, suc, ◌+◌, List, [], ◌∷◌, ◌++◌, Option, Some}
use Rattle.std.proofs.Common.{None, slice_get}
use Rattle.std.specs.Prelude.{map}
use Rattle.std.proofs.lemmas.Option.{same_Some}
use Rattle.sp_base.specs.declared.place.Place.{Place}
use Rattle.sp_tree.specs.declared.meaning.StandardProcedure.{StandardProcedure}
use Rattle.sp_tree.specs.declared.meaning.StandardProcedure.TheVariants as procedure
use Rattle.sp_tree.specs.PlainNamed as n
use Rattle.sp_tree.specs.PlainChecked as c
use Rattle.sp_tree.specs.CheckedOf as of_
use Rattle.sp_tree.specs.Sites.{Site, SplitsAt, SpreadsAt, LoopsAt, CallsAt, StopsAt, expression_sites, form_sites}
use Rattle.sp_tree.specs.Sites.{variable_sites, selectors_sites, actuals_sites, width_sites, statement_sites}
use Rattle.sp_tree.specs.Sites.{statement_form_sites, statements_sites, arms_sites}
use Rattle.sp_tree.specs.Interferes.{IsSite}
use Rattle.sp_types.specs.declared.tables.Ordinal.{Ordinal}
use Rattle.sp_types.specs.Tables.{Env, char_of, formals_of, with_next_number, with_index_type}
use Rattle.sp_types.specs.Kinds.{expression_kind}
use Rattle.sp_types.specs.TypeWalk.{statement_after, statements_after, with_first_number}
use Rattle.sp_types.specs.CheckedTree.{checked_expression, checked_variable, checked_actuals, checked_arguments}
use Rattle.sp_types.specs.CheckedTree.{argument_variable, argument_variables, checked_argument, checked_width}
use Rattle.sp_types.specs.CheckedTree.{write_value_form, write_text_form, reads, writes, opens, singles, expanded_form}
use Rattle.sp_types.specs.CheckedTree.{numbered_statements}
use Rattle.sp_types.specs.CheckedTree.{checked_statement, checked_statement_form, checked_statements, checked_arms}
use Rattle.sp_types.specs.CheckedTree.{checked_branches, checked_block, checked_blocks}
use Rattle.sp_front.specs.ForkWalk.{ForksSatisfy, FormSatisfies, AllSatisfy, ArmsSatisfy, BranchesSatisfy}
use Rattle.sp_front.specs.ForkWalk.{BlocksSatisfy}
use Rattle.sp_front.specs.ForEach.{HoldsOfEach}
use Rattle.sp_front.proofs.Variables.{each_join}

fit_join : (Fits : Site → Type 0) (xs ys : List Site) → HoldsOfEach Fits xs → HoldsOfEach Fits ys
    → HoldsOfEach Fits (xs ++ ys)
fit_join Fits xs ys h k = each_join Fits xs ys h k

pub fit_at : (Fits : Site → Type 0) (xs : List Site) (s : Site) → HoldsOfEach Fits xs → IsSite s xs → Fits s
fit_at Fits [] s h i = absurd i
fit_at Fits (x ∷ xs) s h (inl e) = subst Fits (sym e) h.0
fit_at Fits (x ∷ xs) s h (inr i) = fit_at Fits xs s h.1 i

pub fit_each : (Fits : Site → Type 0) (xs : List Site) → ((s : Site) → IsSite s xs → Fits s) → HoldsOfEach Fits xs
fit_each Fits [] h = tt
fit_each Fits (x ∷ xs) h = (h x (inl refl), fit_each Fits xs (λ s i. h s (inr i)))

module _ (Fits : Site → Type 0) (calls : (f : ℕ) (at : Place) (args : c.Actuals) → Fits (CallsAt f at args))
    (loops : (x : ℕ) (at : Place) (s : c.Statement) → Fits (LoopsAt x at s))
    (stops : (at : Place) → Fits (StopsAt at)) where
  mutual
    expression_fits : (e : c.Expression) → HoldsOfEach Fits (expression_sites e)
    expression_fits (c.ExpressionAt at k form) = form_fits form

    form_fits : (form : c.ExpressionForm) → HoldsOfEach Fits (form_sites form)
    form_fits (c.Number k) = tt
    form_fits (c.Read v) = variable_fits v
    form_fits (c.Unary op a) = expression_fits a
    form_fits (c.Binary op a b) = fit_join Fits (expression_sites a) (expression_sites b) (expression_fits a)
        (expression_fits b)
    form_fits (c.Apply f at args) = (calls f at args, actuals_fit args)
    form_fits (c.Standard f c.NoExpression) = tt
    form_fits (c.Standard f (c.AndExpression a rest)) = expression_fits a

    variable_fits : (v : c.Variable) → HoldsOfEach Fits (variable_sites v)
    variable_fits (c.Entire x at ss) = selectors_fit ss

    selectors_fit : (ss : c.Selectors) → HoldsOfEach Fits (selectors_sites ss)
    selectors_fit c.Whole = tt
    selectors_fit (c.Select (c.Index e) rest) =
        fit_join Fits (expression_sites e) (selectors_sites rest) (expression_fits e) (selectors_fit rest)
    selectors_fit (c.Select (c.Field f) rest) = selectors_fit rest

    actuals_fit : (args : c.Actuals) → HoldsOfEach Fits (actuals_sites args)
    actuals_fit c.Nothing = tt
    actuals_fit (c.Pass (c.ByValue e) rest) =
        fit_join Fits (expression_sites e) (actuals_sites rest) (expression_fits e) (actuals_fit rest)
    actuals_fit (c.Pass (c.ByReference v) rest) =
        fit_join Fits (variable_sites v) (actuals_sites rest) (variable_fits v) (actuals_fit rest)

  width_fits : (w : Option c.Expression) → HoldsOfEach Fits (width_sites w)
  width_fits None = tt
  width_fits (Some e) = expression_fits e

  -- ---- calls of standard procedures

  abbrev FormFits : c.Form → Type 0
  FormFits form = (at : Place) → HoldsOfEach Fits (statement_form_sites at form)

  abbrev FormsFit : List c.Form → Type 0
  FormsFit [] = Unit {0}
  FormsFit (f ∷ fs) = FormFits f × FormsFit fs

  forms_join : (xs ys : List c.Form) → FormsFit xs → FormsFit ys → FormsFit (xs ++ ys)
  forms_join [] ys h k = k
  forms_join (x ∷ xs) ys h k = (h.0, forms_join xs ys h.1 k)

  read_fits : (v : c.Variable) → FormFits (c.ReadValue v)
  read_fits v at = (stops at, variable_fits v)

  write_fits : (e : c.Expression) (w : Option c.Expression) → FormFits (c.WriteValue e w)
  write_fits e w at = (stops at, fit_join Fits (expression_sites e) (width_sites w) (expression_fits e) (width_fits w))

  text_fits : (at : Place) (t : List ℕ) (o : Option Ordinal) (w : Option c.Expression)
      → FormFits (write_text_form at t o w)
  text_fits at t None w here = (stops here, width_fits w)
  text_fits at t (Some o) w here = write_fits (c.ExpressionAt at o.kind (c.Number o.number)) w here

  written_fits : (env : Env) (e : n.Expression) (w : Option c.Expression) → FormFits (write_value_form env e w)
  written_fits env (n.ExpressionAt at (n.Number k)) w =
      write_fits (checked_expression env (n.ExpressionAt at (n.Number k))) w
  written_fits env (n.ExpressionAt at (n.Quoted t)) w = text_fits at t (char_of t) w
  written_fits env (n.ExpressionAt at (n.Constant k)) w =
      write_fits (checked_expression env (n.ExpressionAt at (n.Constant k))) w
  written_fits env (n.ExpressionAt at (n.Read v)) w =
      write_fits (checked_expression env (n.ExpressionAt at (n.Read v))) w
  written_fits env (n.ExpressionAt at (n.Apply f here args)) w =
      write_fits (checked_expression env (n.ExpressionAt at (n.Apply f here args))) w
  written_fits env (n.ExpressionAt at (n.Standard f args)) w =
      write_fits (checked_expression env (n.ExpressionAt at (n.Standard f args))) w
  written_fits env (n.ExpressionAt at (n.Unary op a)) w =
      write_fits (checked_expression env (n.ExpressionAt at (n.Unary op a))) w
  written_fits env (n.ExpressionAt at (n.Binary op a b)) w =
      write_fits (checked_expression env (n.ExpressionAt at (n.Binary op a b))) w

  reads_fit : (env : Env) (args : n.Arguments) → FormsFit (reads env args)
  reads_fit env n.NoArgument = tt
  reads_fit env (n.AndArgument a rest) = (read_fits (argument_variable env a), reads_fit env rest)

  writes_fit : (env : Env) (args : n.Arguments) → FormsFit (writes env args)
  writes_fit env n.NoArgument = tt
  writes_fit env (n.AndArgument (n.Pass e w) rest) = (written_fits env e (checked_width env w), writes_fit env rest)

  opens_fit : (env : Env) (args : n.Arguments) → FormsFit (opens env args)
  opens_fit env n.NoArgument = tt
  opens_fit env (n.AndArgument a rest) = (λ at. (stops at, variable_fits (argument_variable env a)), opens_fit env rest)

  sends_fit : (channel : c.Expression) (es : List c.Expression)
      → FormsFit (map (λ (e : c.Expression). c.Send channel e) es)
  sends_fit channel [] = tt
  sends_fit channel (e ∷ es) = (
    λ at. (
      stops at,
      fit_join Fits (expression_sites channel) (expression_sites e) (expression_fits channel) (expression_fits e),
    ),
    sends_fit channel es,
  )

  receives_fit : (channel : c.Expression) (vs : List c.Variable)
      → FormsFit (map (λ (v : c.Variable). c.Receive channel v) vs)
  receives_fit channel [] = tt
  receives_fit channel (v ∷ vs) = (
    λ at. (
      stops at,
      fit_join Fits (expression_sites channel) (variable_sites v) (expression_fits channel) (variable_fits v),
    ),
    receives_fit channel vs,
  )

  singles_fit : (env : Env) (p : StandardProcedure) (args : n.Arguments) → FormsFit (singles env p args)
  singles_fit env procedure.Read args = reads_fit env args
  singles_fit env procedure.Readln args = forms_join (reads env args) (c.ReadLine ∷ []) (reads_fit env args)
      (λ at. (stops at, tt), tt)
  singles_fit env procedure.Write args = writes_fit env args
  singles_fit env procedure.Writeln args = forms_join (writes env args) (c.WriteLine ∷ []) (writes_fit env args)
      (λ at. (stops at, tt), tt)
  singles_fit env procedure.Open args = opens_fit env args
  singles_fit env procedure.Send n.NoArgument = tt
  singles_fit env procedure.Send (n.AndArgument a rest) =
      sends_fit (checked_argument env a) (checked_arguments env rest)
  singles_fit env procedure.Receive n.NoArgument = tt
  singles_fit env procedure.Receive (n.AndArgument a rest) =
      receives_fit (checked_argument env a) (argument_variables env rest)

  numbered_fit : (k : ℕ) (at : Place) (fs : List c.Form) → FormsFit fs
      → HoldsOfEach Fits (statements_sites (of_.statements (numbered_statements k at fs)))
  numbered_fit k at [] h = tt
  numbered_fit k at (f ∷ fs) h = fit_join Fits (statement_form_sites at f)
      (statements_sites (of_.statements (numbered_statements (k + 1) at fs))) (h.0 at) (numbered_fit (k + 1) at fs h.1)

  expanded_fits : (k : ℕ) (at : Place) (fs : List c.Form) → FormsFit fs
      → HoldsOfEach Fits (statement_form_sites at (expanded_form k at fs))
  expanded_fits k at [] h = tt
  expanded_fits k at (f ∷ []) h = h.0 at
  expanded_fits k at (f ∷ g ∷ fs) h = numbered_fit k at (f ∷ g ∷ fs) h

  -- ---- statements

  module _ (OnIndex : ℕ → Type 0) (OnBranches : n.Branches → Type 0)
      (spreads : (at : Place) (x : ℕ) (s : c.Statement) → OnIndex x → Fits (SpreadsAt at x s))
      (splits : (env : Env) (at : Place) (bs : n.Branches) → OnBranches bs
      → Fits (SplitsAt (of_.statements (checked_branches env at bs)))) where
    mutual
      statement_fits : (env : Env) (s : n.Statement) → ForksSatisfy OnIndex OnBranches s
          → HoldsOfEach Fits (statement_sites (checked_statement env s))
      statement_fits env (n.Does at form) h = statement_form_fits (with_next_number env) at form h

      statement_form_fits : (env : Env) (at : Place) (form : n.Form) → FormSatisfies OnIndex OnBranches form
          → HoldsOfEach Fits (statement_form_sites at (checked_statement_form env at form))
      statement_form_fits env at n.Empty h = tt
      statement_form_fits env at (n.Assign v e) h =
          fit_join Fits (variable_sites (checked_variable env v)) (expression_sites (checked_expression env e))
          (variable_fits (checked_variable env v)) (expression_fits (checked_expression env e))
      statement_form_fits env at (n.Call f args) h = (
        calls f at (of_.actuals (checked_actuals env (formals_of env f) args)),
        actuals_fit (of_.actuals (checked_actuals env (formals_of env f) args)),
      )
      statement_form_fits env at (n.Perform f args) h =
          expanded_fits env.next at (singles env f args) (singles_fit env f args)
      statement_form_fits env at (n.Sequence ss) h = all_fit env ss h
      statement_form_fits env at (n.If e a n.NoElse) h =
          fit_join Fits (expression_sites (checked_expression env e)) (statement_sites (checked_statement env a))
          (expression_fits (checked_expression env e)) (statement_fits env a h.0)
      statement_form_fits env at (n.If e a (n.Else b)) h =
          let one = checked_statement env a in
          let two = checked_statement (statement_after env a) b in
          fit_join Fits (expression_sites (checked_expression env e)) (statement_sites one ++ statement_sites two)
          (expression_fits (checked_expression env e))
          (fit_join Fits (statement_sites one) (statement_sites two) (statement_fits env a h.0)
          (statement_fits (statement_after env a) b h.1))
      statement_form_fits env at (n.While e a) h =
          fit_join Fits (expression_sites (checked_expression env e)) (statement_sites (checked_statement env a))
          (expression_fits (checked_expression env e)) (statement_fits env a h)
      statement_form_fits env at (n.Repeat ss e) h =
          let last = checked_expression (statements_after (with_next_number env) ss) e in
          fit_join Fits (expression_sites last)
          (statements_sites (of_.statements (checked_statements (with_next_number env) ss))) (expression_fits last)
          (all_fit (with_next_number env) ss h)
      statement_form_fits env at (n.Case e choices) h =
          fit_join Fits (expression_sites (checked_expression env e)) (arms_sites (of_.arms (checked_arms env choices)))
          (expression_fits (checked_expression env e)) (arms_fit env choices h)
      statement_form_fits env at (n.For x name from down to a) h =
          let one = checked_expression env from in
          let two = checked_expression env to in
          let body = checked_statement env a in (
            loops x name body,
            fit_join Fits (expression_sites one) (expression_sites two ++ statement_sites body)
                (expression_fits one) (fit_join Fits (expression_sites two) (statement_sites body) (expression_fits two)
                (statement_fits env a h)),
          )
      statement_form_fits env at (n.Parallel bs) h = (splits env at bs h.0, (stops at, branches_fit env at bs h.1))
      statement_form_fits env at (n.Forall x from to a) h =
          let one = checked_expression env from in
          let two = checked_expression env to in
          let next = with_index_type env x (expression_kind env from) in
          let body = checked_statement next a in (
            spreads at x body h.0,
            (
              stops at,
              fit_join Fits (expression_sites one) (expression_sites two ++ statement_sites body) (expression_fits one)
                  (fit_join Fits (expression_sites two) (statement_sites body) (expression_fits two)
                  (statement_fits next a h.1)),
            ),
          )
      statement_form_fits env at (n.Assume e) h = expression_fits (checked_expression env e)

      all_fit : (env : Env) (ss : n.Statements) → AllSatisfy OnIndex OnBranches ss
          → HoldsOfEach Fits (statements_sites (of_.statements (checked_statements env ss)))
      all_fit env n.NoStatement h = tt
      all_fit env (n.AndThen a rest) h = fit_join Fits (statement_sites (checked_statement env a))
          (statements_sites (of_.statements (checked_statements (statement_after env a) rest)))
          (statement_fits env a h.0) (all_fit (statement_after env a) rest h.1)

      arms_fit : (env : Env) (arms : n.Arms) → ArmsSatisfy OnIndex OnBranches arms
          → HoldsOfEach Fits (arms_sites (of_.arms (checked_arms env arms)))
      arms_fit env n.NoArm h = tt
      arms_fit env (n.Or (n.On cs a) rest) h =
          fit_join Fits (statement_sites (checked_statement env a))
          (arms_sites (of_.arms (checked_arms (statement_after env a) rest))) (statement_fits env a h.0)
          (arms_fit (statement_after env a) rest h.1)

      branches_fit : (env : Env) (at : Place) (bs : n.Branches) → BranchesSatisfy OnIndex OnBranches bs
          → HoldsOfEach Fits (statements_sites (of_.statements (checked_branches env at bs)))
      branches_fit env at n.NoBranch h = tt
      branches_fit env at (n.Beside ss rest) h =
          fit_join Fits (statements_sites (of_.statements (checked_statements (with_next_number env) ss)))
          (statements_sites (of_.statements (checked_branches (statements_after (with_next_number env) ss) at rest)))
          (all_fit (with_next_number env) ss h.0) (branches_fit (statements_after (with_next_number env) ss) at
          rest h.1)

    -- the sites in each block
    pub blocks_fit : (env : Env) (starts : List ℕ) (bs : List n.Block) → BlocksSatisfy OnIndex OnBranches bs
        → (f : ℕ) (b : c.Block) → slice_get (checked_blocks env starts bs) f ≡ Some b
        → HoldsOfEach Fits (statement_sites b.body)
    blocks_fit env starts [] h f b e = absurd (cc e)
    blocks_fit env [] (a ∷ bs) h f b e = absurd (cc e)
    blocks_fit env (k ∷ starts) (a ∷ bs) h zero b e =
        subst (λ (z : c.Block). HoldsOfEach Fits (statement_sites z.body))
        (same_Some (checked_block (with_first_number env k) a) b e)
        (statement_fits (with_first_number env k) a.body h.0)
    blocks_fit env (k ∷ starts) (a ∷ bs) h (suc f) b e =
        blocks_fit (statement_after (with_first_number env k) a.body) starts bs h.1 f b e
