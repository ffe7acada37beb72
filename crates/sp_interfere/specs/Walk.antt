-- None of this belongs to what the program promises: it is for contracts between crates.
-- The way through a tree, site by site, in the order of the text: what is found from what was found before. The
-- contracts of the walks cite it; what is done at a site is left open.
use Rattle.std.specs.Prelude.{List, [], ◌∷◌, Option, Some, None}
use Rattle.sp_base.specs.declared.place.Place.{Place}
use Rattle.sp_tree.specs.PhaseResults.{FirstRefusal}
use Rattle.sp_tree.specs.PlainChecked.{Expression, ExpressionAt, ExpressionForm, Number, Read, Unary, Binary, Apply}
use Rattle.sp_tree.specs.PlainChecked.{Standard}
use Rattle.sp_tree.specs.PlainChecked.{Variable, Entire, Selectors, Whole, Select, Index, Field, Actuals, Nothing, Pass}
use Rattle.sp_tree.specs.PlainChecked.{ByValue, ByReference, Expressions, NoExpression, AndExpression, Statement, Does}
use Rattle.sp_tree.specs.PlainChecked.{Form, Empty, Assign, Call, Sequence, If, While, Repeat, For, Case, Parallel}
use Rattle.sp_tree.specs.PlainChecked.{Forall, Assume, ReadValue, ReadLine, WriteValue, WriteText, WriteLine, Open}
use Rattle.sp_tree.specs.PlainChecked.{Send, Receive, ElsePart, NoElse, Else, Statements, NoStatement, AndThen, On}
use Rattle.sp_tree.specs.PlainChecked.{Arms}
use Rattle.sp_tree.specs.PlainChecked.{NoArm, Or}
use Rattle.sp_tree.specs.Sites.{Site, SplitsAt, SpreadsAt, LoopsAt, CallsAt, StopsAt}

-- from one item to the next
abbrev pub each_first : {A : Type 0} → (A → FirstRefusal → FirstRefusal) → List A → FirstRefusal → FirstRefusal
each_first one [] given = given
each_first one (x ∷ xs) given = each_first one xs (one x given)

module _ (site : Site → FirstRefusal → FirstRefusal) where
  abbrev mutual
    pub expression_first : Expression → FirstRefusal → FirstRefusal
    expression_first (ExpressionAt at k form) given = form_first form given

    pub form_first : ExpressionForm → FirstRefusal → FirstRefusal
    form_first (Number n) given = given
    form_first (Read v) given = variable_first v given
    form_first (Unary op a) given = expression_first a given
    form_first (Binary op a b) given = expression_first b (expression_first a given)
    form_first (Apply f at args) given = actuals_first args (site (CallsAt f at args) given)
    form_first (Standard f args) given = parameter_first args given

    pub parameter_first : Expressions → FirstRefusal → FirstRefusal
    parameter_first NoExpression given = given
    parameter_first (AndExpression a rest) given = expression_first a given

    pub variable_first : Variable → FirstRefusal → FirstRefusal
    variable_first (Entire x at ss) given = selectors_first ss given

    pub selectors_first : Selectors → FirstRefusal → FirstRefusal
    selectors_first Whole given = given
    selectors_first (Select (Index e) rest) given = selectors_first rest (expression_first e given)
    selectors_first (Select (Field f) rest) given = selectors_first rest given

    pub actuals_first : Actuals → FirstRefusal → FirstRefusal
    actuals_first Nothing given = given
    actuals_first (Pass (ByValue e) rest) given = actuals_first rest (expression_first e given)
    actuals_first (Pass (ByReference v) rest) given = actuals_first rest (variable_first v given)

  abbrev pub width_first : Option Expression → FirstRefusal → FirstRefusal
  width_first None given = given
  width_first (Some e) given = expression_first e given

  abbrev mutual
    pub statement_first : Statement → FirstRefusal → FirstRefusal
    statement_first (Does n at form) given = statement_form_first at form given

    pub statement_form_first : Place → Form → FirstRefusal → FirstRefusal
    statement_form_first at Empty given = given
    statement_form_first at (Assign v e) given = expression_first e (variable_first v given)
    statement_form_first at (Call f args) given = actuals_first args (site (CallsAt f at args) given)
    statement_form_first at (Sequence ss) given = statements_first ss given
    statement_form_first at (If e s o) given = other_first o (statement_first s (expression_first e given))
    statement_form_first at (While e s) given = statement_first s (expression_first e given)
    statement_form_first at (Repeat s e) given = statement_first s (expression_first e given)
    statement_form_first at (For x name from down to s) given =
        statement_first s (expression_first to (expression_first from (site (LoopsAt x name s) given)))
    statement_form_first at (Case e arms) given = arms_first arms (expression_first e given)
    statement_form_first at (Parallel ss) given = statements_first ss (site (StopsAt at) (site (SplitsAt ss) given))
    statement_form_first at (Forall x from to s) given =
        statement_first s (expression_first to
        (expression_first from (site (StopsAt at) (site (SpreadsAt at x s) given))))
    statement_form_first at (Assume e) given = expression_first e given
    statement_form_first at (ReadValue v) given = variable_first v (site (StopsAt at) given)
    statement_form_first at ReadLine given = site (StopsAt at) given
    statement_form_first at (WriteValue e w) given = width_first w (expression_first e (site (StopsAt at) given))
    statement_form_first at (WriteText t w) given = width_first w (site (StopsAt at) given)
    statement_form_first at WriteLine given = site (StopsAt at) given
    statement_form_first at (Open v) given = variable_first v (site (StopsAt at) given)
    statement_form_first at (Send c e) given = expression_first e (expression_first c (site (StopsAt at) given))
    statement_form_first at (Receive c v) given = variable_first v (expression_first c (site (StopsAt at) given))

    pub other_first : ElsePart → FirstRefusal → FirstRefusal
    other_first NoElse given = given
    other_first (Else s) given = statement_first s given

    pub statements_first : Statements → FirstRefusal → FirstRefusal
    statements_first NoStatement given = given
    statements_first (AndThen s rest) given = statements_first rest (statement_first s given)

    pub arms_first : Arms → FirstRefusal → FirstRefusal
    arms_first NoArm given = given
    arms_first (Or (On cs s) rest) given = arms_first rest (statement_first s given)
