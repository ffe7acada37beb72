-- Some of this belongs to what the program promises (docs/promise.txt).
-- The plain tree, with its places, of a checked one in memory: the one fold to it. Contracts of the walks over the
-- tree in memory speak of plain trees by it. It is a fold on what memory holds, and definitions go by clauses on what
-- it gives.
use Rattle.std.specs.Prelude.{ℕ, ◌+◌, List, [], ◌∷◌, map, Option, Some, None}
use Rattle.sp_base.specs.declared.place.Place.{Place}
use Rattle.sp_tree.specs.declared.checked.Actual.TheOpen as e
use Rattle.sp_tree.specs.declared.checked.Form.TheOpen as s
use Rattle.sp_tree.specs.declared.checked.Expr as checked_expr
use Rattle.sp_tree.specs.declared.checked.ExprForm as checked_form
use Rattle.sp_tree.specs.declared.checked.Var as checked_var
use Rattle.sp_tree.specs.declared.checked.Selector as checked_selector
use Rattle.sp_tree.specs.declared.checked.Actual as checked_actual
use Rattle.sp_tree.specs.declared.checked.Stmt as checked_stmt
use Rattle.sp_tree.specs.declared.checked.Form as checked_stmt_form
use Rattle.sp_tree.specs.declared.checked.Arm as checked_arm
use Rattle.sp_tree.specs.declared.checked.Block as checked_block
use Rattle.sp_tree.specs.declared.checked.Checked as checked
use Rattle.sp_tree.specs.PlainChecked.{Expression, ExpressionAt, ExpressionForm, Number, Read, Unary, Binary, Apply}
use Rattle.sp_tree.specs.PlainChecked.{Standard}
use Rattle.sp_tree.specs.PlainChecked.{Variable, Entire, Selector, Index, Field, Selectors, Whole, Select, Actual}
use Rattle.sp_tree.specs.PlainChecked.{ByValue, ByReference, Actuals, Nothing, Pass, Expressions, NoExpression}
use Rattle.sp_tree.specs.PlainChecked.{AndExpression, Statement, Does, Form, Empty, Assign, Call, Sequence, If, While}
use Rattle.sp_tree.specs.PlainChecked.{Repeat, For, Case, Parallel, Forall, Assume, ReadValue, ReadLine, WriteValue}
use Rattle.sp_tree.specs.PlainChecked.{WriteText, WriteLine, Open, Send, Receive, ElsePart, NoElse, Else, Statements}
use Rattle.sp_tree.specs.PlainChecked.{NoStatement, AndThen, Arm, On, Arms, NoArm, Or, Block, Program}

-- lists of the plain tree
abbrev pub selectors : List Selector → Selectors
selectors [] = Whole
selectors (a ∷ rest) = Select a (selectors rest)

abbrev pub actuals : List Actual → Actuals
actuals [] = Nothing
actuals (a ∷ rest) = Pass a (actuals rest)

abbrev pub expressions : List Expression → Expressions
expressions [] = NoExpression
expressions (a ∷ rest) = AndExpression a (expressions rest)

-- one level of an expression
abbrev pub actual_step : e.Actual-F Actual ExpressionForm Selector Expression Variable → Actual
actual_step (e.Value a) = ByValue a
actual_step (e.Reference v) = ByReference v

abbrev pub selector_step : e.Selector-F Actual ExpressionForm Selector Expression Variable → Selector
selector_step (e.Index a) = Index a
selector_step (e.Field f) = Field f

abbrev pub form_step : e.ExprForm-F Actual ExpressionForm Selector Expression Variable → ExpressionForm
form_step (e.Number n) = Number n
form_step (e.Read v) = Read v
form_step (e.Unary op a) = Unary op a
form_step (e.Binary op a b) = Binary op a b
form_step (e.Call f at args) = Apply f at (actuals args)
form_step (e.Standard f args) = Standard f (expressions args)

abbrev pub expression_step : e.Expr-F Actual ExpressionForm Selector Expression Variable → Expression
expression_step x = ExpressionAt x.at x.kind x.form

abbrev pub variable_step : e.Var-F Actual ExpressionForm Selector Expression Variable → Variable
variable_step v = Entire v.variable v.at (selectors v.selectors)

abbrev pub expression_of : checked_expr.Expr → Expression
expression_of = checked_expr.fold-Expr Actual ExpressionForm Selector Expression Variable actual_step form_step
    selector_step expression_step variable_step

abbrev pub expression_form_of : checked_form.ExprForm → ExpressionForm
expression_form_of = checked_form.fold-ExprForm Actual ExpressionForm Selector Expression Variable actual_step form_step
    selector_step expression_step variable_step

abbrev pub variable_of : checked_var.Var → Variable
variable_of = checked_var.fold-Var Actual ExpressionForm Selector Expression Variable actual_step form_step
    selector_step expression_step variable_step

abbrev pub selector_of : checked_selector.Selector → Selector
selector_of = checked_selector.fold-Selector Actual ExpressionForm Selector Expression Variable actual_step form_step
    selector_step expression_step variable_step

abbrev pub actual_of : checked_actual.Actual → Actual
actual_of = checked_actual.fold-Actual Actual ExpressionForm Selector Expression Variable actual_step form_step
    selector_step expression_step variable_step

abbrev pub width_of : Option checked_expr.Expr → Option Expression
width_of None = None
width_of (Some a) = Some (expression_of a)

-- lists of statements
abbrev pub statements : List Statement → Statements
statements [] = NoStatement
statements (a ∷ rest) = AndThen a (statements rest)

abbrev pub arms : List Arm → Arms
arms [] = NoArm
arms (a ∷ rest) = Or a (arms rest)

abbrev pub else_part : Option Statement → ElsePart
else_part None = NoElse
else_part (Some b) = Else b

-- the single statements for several values, or variables, on one channel: at one place, numbered from a number on
abbrev pub sends : ℕ → Place → Expression → List Expression → Statements
sends n at c [] = NoStatement
sends n at c (e ∷ rest) = AndThen (Does n at (Send c e)) (sends (n + 1) at c rest)

abbrev pub receives : ℕ → Place → Expression → List Variable → Statements
receives n at c [] = NoStatement
receives n at c (v ∷ rest) = AndThen (Does n at (Receive c v)) (receives (n + 1) at c rest)

-- one level of a statement
abbrev pub statement_form_step : s.Form-F Form Arm Statement → Form
statement_form_step s.Empty = Empty
statement_form_step (s.Assign v a) = Assign (variable_of v) (expression_of a)
statement_form_step (s.Call f args) = Call f (actuals (map actual_of args))
statement_form_step (s.Sequence ss) = Sequence (statements ss)
statement_form_step (s.If c a b) = If (expression_of c) a (else_part b)
statement_form_step (s.While c a) = While (expression_of c) a
statement_form_step (s.Repeat a c) = Repeat a (expression_of c)
statement_form_step (s.For x at from down to a) = For x at (expression_of from) down (expression_of to) a
statement_form_step (s.Case c choices) = Case (expression_of c) (arms choices)
statement_form_step (s.Parallel ss) = Parallel (statements ss)
statement_form_step (s.Forall x from to a) = Forall x (expression_of from) (expression_of to) a
statement_form_step (s.Assume c) = Assume (expression_of c)
statement_form_step (s.ReadValue v) = ReadValue (variable_of v)
statement_form_step s.ReadLine = ReadLine
statement_form_step (s.WriteValue a w) = WriteValue (expression_of a) (width_of w)
statement_form_step (s.WriteText t w) = WriteText t (width_of w)
statement_form_step s.WriteLine = WriteLine
statement_form_step (s.Open v) = Open (variable_of v)
statement_form_step (s.Send c a) = Send (expression_of c) (expression_of a)
statement_form_step (s.Receive c v) = Receive (expression_of c) (variable_of v)
statement_form_step (s.SendEach at n c es) = Sequence (sends n at (expression_of c) (map expression_of es))
statement_form_step (s.ReceiveEach at n c vs) = Sequence (receives n at (expression_of c) (map variable_of vs))

abbrev pub arm_step : s.Arm-F Form Arm Statement → Arm
arm_step a = On a.constants a.body

abbrev pub statement_step : s.Stmt-F Form Arm Statement → Statement
statement_step a = Does a.number a.at a.form

abbrev pub statement_of : checked_stmt.Stmt → Statement
statement_of = checked_stmt.fold-Stmt Form Arm Statement statement_form_step arm_step statement_step

abbrev pub statement_form_of : checked_stmt_form.Form → Form
statement_form_of = checked_stmt_form.fold-Form Form Arm Statement statement_form_step arm_step statement_step

abbrev pub arm_of : checked_arm.Arm → Arm
arm_of = checked_arm.fold-Arm Form Arm Statement statement_form_step arm_step statement_step

abbrev pub block_of : checked_block.Block → Block
block_of b = record {
  name = b.name;
  parent = b.parent;
  formals = b.formals;
  answer = b.answer;
  body = statement_of b.body;
  at = b.at;
}

-- the plain tree of a program
abbrev pub program_of : checked.Checked → Program
program_of p = record { kinds = p.kinds; variables = p.variables; blocks = map block_of p.blocks }
