-- The walk through a tree goes from site to site.
use Rattle.std.proofs.Common.{◌≡◌, List, [], ◌∷◌, ◌++◌, Option, Some, None, refl, ap, ◌∙◌}
use Rattle.sp_base.specs.declared.place.Place.{Place}
use Rattle.sp_tree.specs.PhaseResults.{FirstRefusal}
use Rattle.sp_tree.specs.PlainChecked.{Expression, ExpressionAt, ExpressionForm, Number, Read, Unary, Binary, Apply}
use Rattle.sp_tree.specs.PlainChecked.{Standard}
use Rattle.sp_tree.specs.PlainChecked.{Variable, Entire, Selectors, Whole, Select, Index, Field, Actuals, Nothing, Pass}
use Rattle.sp_tree.specs.PlainChecked.{ByValue, ByReference, NoExpression, AndExpression, Statement, Does}
use Rattle.sp_tree.specs.PlainChecked.{Form, Empty, Assign, Call, Sequence, If, While, Repeat, For, Case, Parallel}
use Rattle.sp_tree.specs.PlainChecked.{Forall, Assume, ReadValue, ReadLine, WriteValue, WriteText, WriteLine, Open}
use Rattle.sp_tree.specs.PlainChecked.{Send, Receive, NoElse, Else, Statements, NoStatement, AndThen, On, Arms}
use Rattle.sp_tree.specs.PlainChecked.{NoArm, Or}
use Rattle.sp_tree.specs.Sites as at
use Rattle.sp_interfere.specs.Walk as w

-- what is found at sites one after the other
abbrev pub along : (at.Site → FirstRefusal → FirstRefusal) → List at.Site → FirstRefusal → FirstRefusal
along f [] given = given
along f (x ∷ xs) given = along f xs (f x given)

module _ (f : at.Site → FirstRefusal → FirstRefusal) where
  pub both : (xs ys : List at.Site) (g a b : FirstRefusal) → a ≡ along f xs g → b ≡ along f ys a
      → b ≡ along f (xs ++ ys) g
  both [] ys g a b p q = q ∙ ap (along f ys) p
  both (x ∷ xs) ys g a b p q = both xs ys (f x g) a b p q

  mutual
    pub expression_along : (e : Expression) (g : FirstRefusal) → w.expression_first f e g
        ≡ along f (at.expression_sites e) g
    expression_along (ExpressionAt p k form) g = form_along form g

    form_along : (e : ExpressionForm) (g : FirstRefusal) → w.form_first f e g ≡ along f (at.form_sites e) g
    form_along (Number n) g = refl
    form_along (Read v) g = variable_along v g
    form_along (Unary op a) g = expression_along a g
    form_along (Binary op a b) g = both (at.expression_sites a) (at.expression_sites b) g _ _ (expression_along a g)
        (expression_along b _)
    form_along (Apply h p args) g = actuals_along args _
    form_along (Standard h NoExpression) g = refl
    form_along (Standard h (AndExpression a rest)) g = expression_along a g

    pub variable_along : (v : Variable) (g : FirstRefusal) → w.variable_first f v g ≡ along f (at.variable_sites v) g
    variable_along (Entire x p ss) g = selectors_along ss g

    selectors_along : (ss : Selectors) (g : FirstRefusal) → w.selectors_first f ss g ≡ along f (at.selectors_sites ss) g
    selectors_along Whole g = refl
    selectors_along (Select (Index e) rest) g =
        both (at.expression_sites e) (at.selectors_sites rest) g _ _ (expression_along e g) (selectors_along rest _)
    selectors_along (Select (Field x) rest) g = selectors_along rest g

    actuals_along : (args : Actuals) (g : FirstRefusal) → w.actuals_first f args g ≡ along f (at.actuals_sites args) g
    actuals_along Nothing g = refl
    actuals_along (Pass (ByValue e) rest) g =
        both (at.expression_sites e) (at.actuals_sites rest) g _ _ (expression_along e g) (actuals_along rest _)
    actuals_along (Pass (ByReference v) rest) g =
        both (at.variable_sites v) (at.actuals_sites rest) g _ _ (variable_along v g) (actuals_along rest _)

  width_along : (o : Option Expression) (g : FirstRefusal) → w.width_first f o g ≡ along f (at.width_sites o) g
  width_along None g = refl
  width_along (Some e) g = expression_along e g

  mutual
    pub statement_along : (s : Statement) (g : FirstRefusal)
        → w.statement_first f s g ≡ along f (at.statement_sites s) g
    statement_along (Does n p form) g = statement_form_along p form g

    statement_form_along : (p : Place) (s : Form) (g : FirstRefusal)
        → w.statement_form_first f p s g ≡ along f (at.statement_form_sites p s) g
    statement_form_along p Empty g = refl
    statement_form_along p (Assign v e) g = both (at.variable_sites v) (at.expression_sites e) g _ _
        (variable_along v g) (expression_along e _)
    statement_form_along p (Call h args) g = actuals_along args _
    statement_form_along p (Sequence ss) g = statements_along ss g
    statement_form_along p (If e s NoElse) g =
        both (at.expression_sites e) (at.statement_sites s) g _ _ (expression_along e g) (statement_along s _)
    statement_form_along p (If e s (Else t)) g =
        both (at.expression_sites e) _ g _ _ (expression_along e g)
        (both (at.statement_sites s) (at.statement_sites t) _ _ _ (statement_along s _) (statement_along t _))
    statement_form_along p (While e s) g = both (at.expression_sites e) (at.statement_sites s) g _ _
        (expression_along e g) (statement_along s _)
    statement_form_along p (Repeat s e) g = both (at.expression_sites e) (at.statement_sites s) g _ _
        (expression_along e g) (statement_along s _)
    statement_form_along p (For x name from down to s) g =
        both (at.expression_sites from) _ _ _ _ (expression_along from _)
        (both (at.expression_sites to) (at.statement_sites s) _ _ _ (expression_along to _) (statement_along s _))
    statement_form_along p (Case e arms) g =
        both (at.expression_sites e) (at.arms_sites arms) g _ _ (expression_along e g) (arms_along arms _)
    statement_form_along p (Parallel ss) g = statements_along ss _
    statement_form_along p (Forall x from to s) g =
        both (at.expression_sites from) _ _ _ _ (expression_along from _)
        (both (at.expression_sites to) (at.statement_sites s) _ _ _ (expression_along to _) (statement_along s _))
    statement_form_along p (Assume e) g = expression_along e g
    statement_form_along p (ReadValue v) g = variable_along v _
    statement_form_along p ReadLine g = refl
    statement_form_along p (WriteValue e o) g =
        both (at.expression_sites e) (at.width_sites o) _ _ _ (expression_along e _) (width_along o _)
    statement_form_along p (WriteText t o) g = width_along o _
    statement_form_along p WriteLine g = refl
    statement_form_along p (Open v) g = variable_along v _
    statement_form_along p (Send c e) g = both (at.expression_sites c) (at.expression_sites e) _ _ _
        (expression_along c _) (expression_along e _)
    statement_form_along p (Receive c v) g =
        both (at.expression_sites c) (at.variable_sites v) _ _ _ (expression_along c _) (variable_along v _)

    statements_along : (ss : Statements) (g : FirstRefusal) → w.statements_first f ss g
        ≡ along f (at.statements_sites ss) g
    statements_along NoStatement g = refl
    statements_along (AndThen s rest) g = both (at.statement_sites s) (at.statements_sites rest) g _ _
        (statement_along s g) (statements_along rest _)

    arms_along : (xs : Arms) (g : FirstRefusal) → w.arms_first f xs g ≡ along f (at.arms_sites xs) g
    arms_along NoArm g = refl
    arms_along (Or (On cs s) rest) g = both (at.statement_sites s) (at.arms_sites rest) g _ _ (statement_along s g)
        (arms_along rest _)
