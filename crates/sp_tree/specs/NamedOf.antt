-- Some of this belongs to what the program promises (docs/promise.txt).
-- The plain tree of a named one in memory. The contracts of the resolution, which makes such a tree, and of the checks
-- of types, which take it, speak of plain trees by it.
use Rattle.std.specs.Prelude.{List, [], ◌∷◌, map, Option, Some, None}
use Rattle.sp_tree.specs.declared.named.NamedExprForm.TheOpen as e
use Rattle.sp_tree.specs.declared.named.NamedForm.TheOpen as s
use Rattle.sp_tree.specs.declared.named.NamedExpr as named_expr
use Rattle.sp_tree.specs.declared.named.NamedExprForm as named_form
use Rattle.sp_tree.specs.declared.named.NamedVar as named_var
use Rattle.sp_tree.specs.declared.named.NamedSelector as named_selector
use Rattle.sp_tree.specs.declared.named.NamedArg as named_arg
use Rattle.sp_tree.specs.declared.named.NamedStmt as named_stmt
use Rattle.sp_tree.specs.declared.named.NamedForm as named_stmt_form
use Rattle.sp_tree.specs.declared.named.NamedArm as named_arm
use Rattle.sp_tree.specs.declared.named.NamedBranch as named_branch
use Rattle.sp_tree.specs.declared.named.NamedBlock as named_block
use Rattle.sp_tree.specs.declared.named.Named as named
use Rattle.sp_tree.specs.PlainNamed.{Expression, ExpressionAt, ExpressionForm, Number, Quoted, Constant, Read, Apply}
use Rattle.sp_tree.specs.PlainNamed.{Standard}
use Rattle.sp_tree.specs.PlainNamed.{Unary, Binary, Variable, Entire, Selector, Index, Field, Selectors, Whole, Select}
use Rattle.sp_tree.specs.PlainNamed.{Argument, Pass, Width, NoWidth, WithWidth, Arguments, NoArgument, AndArgument}
use Rattle.sp_tree.specs.PlainNamed.{Statement, Does, Form, Empty, Assign, Call, Perform, Sequence, If, While, Repeat}
use Rattle.sp_tree.specs.PlainNamed.{Case, For, Parallel, Forall, Assume, ElsePart, NoElse, Else, Statements}
use Rattle.sp_tree.specs.PlainNamed.{NoStatement}
use Rattle.sp_tree.specs.PlainNamed.{AndThen, Arm, On, Arms, NoArm, Or, Branches, NoBranch, Beside, Block, Program}

-- lists of the plain tree
abbrev pub selectors : List Selector → Selectors
selectors [] = Whole
selectors (a ∷ rest) = Select a (selectors rest)

abbrev pub arguments : List Argument → Arguments
arguments [] = NoArgument
arguments (a ∷ rest) = AndArgument a (arguments rest)

abbrev pub width : Option Expression → Width
width None = NoWidth
width (Some e) = WithWidth e

-- one level of an expression
abbrev pub selector_step : e.NamedSelector-F ExpressionForm Selector Argument Expression Variable → Selector
selector_step (e.Index a) = Index a
selector_step (e.Field name) = Field name

abbrev pub form_step : e.NamedExprForm-F ExpressionForm Selector Argument Expression Variable → ExpressionForm
form_step (e.Number n) = Number n
form_step (e.Quoted text) = Quoted text
form_step (e.Constant k) = Constant k
form_step (e.Read v) = Read v
form_step (e.Call f at args) = Apply f at (arguments args)
form_step (e.Standard f args) = Standard f (arguments args)
form_step (e.Unary op a) = Unary op a
form_step (e.Binary op a b) = Binary op a b

abbrev pub argument_step : e.NamedArg-F ExpressionForm Selector Argument Expression Variable → Argument
argument_step a = Pass a.value (width a.width)

abbrev pub expression_step : e.NamedExpr-F ExpressionForm Selector Argument Expression Variable → Expression
expression_step x = ExpressionAt x.at x.form

abbrev pub variable_step : e.NamedVar-F ExpressionForm Selector Argument Expression Variable → Variable
variable_step v = Entire v.variable v.at (selectors v.selectors)

abbrev pub expression_of : named_expr.NamedExpr → Expression
expression_of = named_expr.fold-NamedExpr ExpressionForm Selector Argument Expression Variable form_step selector_step
    argument_step expression_step variable_step

abbrev pub expression_form_of : named_form.NamedExprForm → ExpressionForm
expression_form_of = named_form.fold-NamedExprForm ExpressionForm Selector Argument Expression Variable form_step
    selector_step argument_step expression_step variable_step

abbrev pub variable_of : named_var.NamedVar → Variable
variable_of = named_var.fold-NamedVar ExpressionForm Selector Argument Expression Variable form_step selector_step
    argument_step expression_step variable_step

abbrev pub selector_of : named_selector.NamedSelector → Selector
selector_of = named_selector.fold-NamedSelector ExpressionForm Selector Argument Expression Variable form_step
    selector_step argument_step expression_step variable_step

abbrev pub argument_of : named_arg.NamedArg → Argument
argument_of = named_arg.fold-NamedArg ExpressionForm Selector Argument Expression Variable form_step selector_step
    argument_step expression_step variable_step

abbrev pub arguments_of : List named_arg.NamedArg → Arguments
arguments_of args = arguments (map argument_of args)

-- lists of statements
abbrev pub statements : List Statement → Statements
statements [] = NoStatement
statements (a ∷ rest) = AndThen a (statements rest)

abbrev pub arms : List Arm → Arms
arms [] = NoArm
arms (a ∷ rest) = Or a (arms rest)

abbrev pub branches : List Statements → Branches
branches [] = NoBranch
branches (a ∷ rest) = Beside a (branches rest)

abbrev pub else_part : Option Statement → ElsePart
else_part None = NoElse
else_part (Some b) = Else b

-- one level of a statement
abbrev pub statement_form_step : s.NamedForm-F Form Arm Statements Statement → Form
statement_form_step s.Empty = Empty
statement_form_step (s.Assign v a) = Assign (variable_of v) (expression_of a)
statement_form_step (s.Call f args) = Call f (arguments_of args)
statement_form_step (s.Standard p args) = Perform p (arguments_of args)
statement_form_step (s.Sequence ss) = Sequence (statements ss)
statement_form_step (s.If c a b) = If (expression_of c) a (else_part b)
statement_form_step (s.While c a) = While (expression_of c) a
statement_form_step (s.Repeat ss c) = Repeat (statements ss) (expression_of c)
statement_form_step (s.Case c choices) = Case (expression_of c) (arms choices)
statement_form_step (s.For x at from down to a) = For x at (expression_of from) down (expression_of to) a
statement_form_step (s.Parallel ss) = Parallel (branches ss)
statement_form_step (s.Forall x from to a) = Forall x (expression_of from) (expression_of to) a
statement_form_step (s.Assume c) = Assume (expression_of c)

abbrev pub arm_step : s.NamedArm-F Form Arm Statements Statement → Arm
arm_step a = On a.constants a.body

abbrev pub branch_step : s.NamedBranch-F Form Arm Statements Statement → Statements
branch_step b = statements b.statements

abbrev pub statement_step : s.NamedStmt-F Form Arm Statements Statement → Statement
statement_step a = Does a.at a.form

abbrev pub statement_of : named_stmt.NamedStmt → Statement
statement_of = named_stmt.fold-NamedStmt Form Arm Statements Statement statement_form_step arm_step branch_step
    statement_step

abbrev pub statement_form_of : named_stmt_form.NamedForm → Form
statement_form_of = named_stmt_form.fold-NamedForm Form Arm Statements Statement statement_form_step arm_step
    branch_step statement_step

abbrev pub arm_of : named_arm.NamedArm → Arm
arm_of = named_arm.fold-NamedArm Form Arm Statements Statement statement_form_step arm_step branch_step statement_step

abbrev pub branch_of : named_branch.NamedBranch → Statements
branch_of = named_branch.fold-NamedBranch Form Arm Statements Statement statement_form_step arm_step branch_step
    statement_step

abbrev pub statements_of : List named_stmt.NamedStmt → Statements
statements_of ss = statements (map statement_of ss)

abbrev pub block_of : named_block.NamedBlock → Block
block_of b = record {
  name = b.name;
  parent = b.parent;
  formals = b.formals;
  answer = b.answer;
  body = statement_of b.body;
  at = b.at;
}

-- the plain tree of a program
abbrev pub program_of : named.Named → Program
program_of p =
    record { constants = p.constants; kinds = p.kinds; variables = p.variables; blocks = map block_of p.blocks }
