-- All of this belongs to what the program promises (docs/promise.txt).
-- Where the rules of interference look, by clauses on the tree with places: forks, loops, calls and what a function
-- may not have. `Interferes.antt` tells the breaches at each site, and `sp_interfere` looks at the same ones.
use Rattle.std.specs.Option.{option_map_or}
use Rattle.std.specs.Prelude.{ℕ, List, [], ◌∷◌, ◌++◌, Option}
use Rattle.sp_base.specs.declared.place.Place.{Place}
use Rattle.sp_tree.specs.PlainChecked.{Expression, ExpressionAt, ExpressionForm, Number, Read, Unary, Binary, Apply}
use Rattle.sp_tree.specs.PlainChecked.{Standard}
use Rattle.sp_tree.specs.PlainChecked.{Variable, Entire, Selectors, Whole, Select, Index, Field, Actuals, Nothing, Pass}
use Rattle.sp_tree.specs.PlainChecked.{ByValue, ByReference, NoExpression, AndExpression, Statement, Does, Form, Empty}
use Rattle.sp_tree.specs.PlainChecked.{Assign, Call, Sequence, If, While, Repeat, For, Case, Parallel, Forall, Assume}
use Rattle.sp_tree.specs.PlainChecked.{ReadValue, ReadLine, WriteValue, WriteText, WriteLine, Open, Send, Receive}
use Rattle.sp_tree.specs.PlainChecked.{NoElse, Else, Statements, NoStatement, AndThen, On, Arms, NoArm, Or}

pub data Site : Type 0 where
  -- a parallel statement
  SplitsAt : (parts : Statements) → Site
  -- a forall statement, its index and its element statement
  SpreadsAt : (at : Place) (x : ℕ) (s : Statement) → Site
  -- a for variable, the place of its name, and the body
  LoopsAt : (x : ℕ) (at : Place) (s : Statement) → Site
  -- a call: the block, the place of its name, the actual parameters
  CallsAt : (f : ℕ) (at : Place) (args : Actuals) → Site
  -- a statement that a function may not have
  StopsAt : (at : Place) → Site

abbrev mutual
  pub expression_sites : Expression → List Site
  expression_sites (ExpressionAt at k form) = form_sites form

  pub form_sites : ExpressionForm → List Site
  form_sites (Number n) = []
  form_sites (Read v) = variable_sites v
  form_sites (Unary op a) = expression_sites a
  form_sites (Binary op a b) = expression_sites a ++ expression_sites b
  form_sites (Apply f at args) = CallsAt f at args ∷ actuals_sites args
  form_sites (Standard f NoExpression) = []
  form_sites (Standard f (AndExpression a rest)) = expression_sites a

  pub variable_sites : Variable → List Site
  variable_sites (Entire x at ss) = selectors_sites ss

  pub selectors_sites : Selectors → List Site
  selectors_sites Whole = []
  selectors_sites (Select (Index e) rest) = expression_sites e ++ selectors_sites rest
  selectors_sites (Select (Field f) rest) = selectors_sites rest

  pub actuals_sites : Actuals → List Site
  actuals_sites Nothing = []
  actuals_sites (Pass (ByValue e) rest) = expression_sites e ++ actuals_sites rest
  actuals_sites (Pass (ByReference v) rest) = variable_sites v ++ actuals_sites rest

abbrev pub width_sites : Option Expression → List Site
width_sites e = option_map_or expression_sites e []

abbrev mutual
  pub statement_sites : Statement → List Site
  statement_sites (Does n at form) = statement_form_sites at form

  pub statement_form_sites : Place → Form → List Site
  statement_form_sites at Empty = []
  statement_form_sites at (Assign v e) = variable_sites v ++ expression_sites e
  statement_form_sites at (Call f args) = CallsAt f at args ∷ actuals_sites args
  statement_form_sites at (Sequence ss) = statements_sites ss
  statement_form_sites at (If e s NoElse) = expression_sites e ++ statement_sites s
  statement_form_sites at (If e s (Else t)) = expression_sites e ++ (statement_sites s ++ statement_sites t)
  statement_form_sites at (While e s) = expression_sites e ++ statement_sites s
  statement_form_sites at (Repeat s e) = expression_sites e ++ statement_sites s
  statement_form_sites at (For x name from down to s) = LoopsAt x name s
      ∷ (expression_sites from ++ (expression_sites to ++ statement_sites s))
  statement_form_sites at (Case e arms) = expression_sites e ++ arms_sites arms
  statement_form_sites at (Parallel ss) = SplitsAt ss ∷ StopsAt at ∷ statements_sites ss
  statement_form_sites at (Forall x from to s) = SpreadsAt at x s ∷ StopsAt at
      ∷ (expression_sites from ++ (expression_sites to ++ statement_sites s))
  statement_form_sites at (Assume e) = expression_sites e
  statement_form_sites at (ReadValue v) = StopsAt at ∷ variable_sites v
  statement_form_sites at ReadLine = StopsAt at ∷ []
  statement_form_sites at (WriteValue e w) = StopsAt at ∷ (expression_sites e ++ width_sites w)
  statement_form_sites at (WriteText t w) = StopsAt at ∷ width_sites w
  statement_form_sites at WriteLine = StopsAt at ∷ []
  statement_form_sites at (Open v) = StopsAt at ∷ variable_sites v
  statement_form_sites at (Send c e) = StopsAt at ∷ (expression_sites c ++ expression_sites e)
  statement_form_sites at (Receive c v) = StopsAt at ∷ (expression_sites c ++ variable_sites v)

  pub statements_sites : Statements → List Site
  statements_sites NoStatement = []
  statements_sites (AndThen s rest) = statement_sites s ++ statements_sites rest

  pub arms_sites : Arms → List Site
  arms_sites NoArm = []
  arms_sites (Or (On cs s) rest) = statement_sites s ++ arms_sites rest
