-- None of this belongs to what the program promises: it is for contracts between crates.
-- The plain tree of a syntax tree in memory. The contracts of the parser, which makes such a tree, and of the
-- resolution, which takes it, speak of plain trees by it.
use Rattle.std.specs.Prelude.{List, [], ◌∷◌, map, Option, Some, None}
use Rattle.sp_tree.specs.declared.syntax.SynExprForm.TheOpen as e
use Rattle.sp_tree.specs.declared.syntax.SynForm.TheOpen as s
use Rattle.sp_tree.specs.declared.syntax.SynPart.TheOpen as p
use Rattle.sp_tree.specs.declared.syntax.SynExpr as syn_expr
use Rattle.sp_tree.specs.declared.syntax.SynExprForm as syn_form
use Rattle.sp_tree.specs.declared.syntax.SynVar as syn_var
use Rattle.sp_tree.specs.declared.syntax.SynSelector as syn_selector
use Rattle.sp_tree.specs.declared.syntax.SynArg as syn_arg
use Rattle.sp_tree.specs.declared.syntax.SynStmt as syn_stmt
use Rattle.sp_tree.specs.declared.syntax.SynForm as syn_stmt_form
use Rattle.sp_tree.specs.declared.syntax.SynArm as syn_arm
use Rattle.sp_tree.specs.declared.syntax.SynBranch as syn_branch
use Rattle.sp_tree.specs.declared.syntax.SynBlock as syn_block
use Rattle.sp_tree.specs.declared.syntax.SynPart as syn_part
use Rattle.sp_tree.specs.declared.syntax.Syntax as syn
use Rattle.sp_tree.specs.PlainSyntax.{Expression, ExpressionAt, ExpressionForm, Number, Quoted, Read, Apply, Unary}
use Rattle.sp_tree.specs.PlainSyntax.{Binary}
use Rattle.sp_tree.specs.PlainSyntax.{Variable, Entire, Selector, Index, Field, Selectors, Whole, Select, Argument}
use Rattle.sp_tree.specs.PlainSyntax.{Pass, Width, NoWidth, WithWidth, Arguments, NoArgument, AndArgument, Statement}
use Rattle.sp_tree.specs.PlainSyntax.{Does}
use Rattle.sp_tree.specs.PlainSyntax.{Form, Empty, Assign, Call, Sequence, If, While, Repeat, Case, For, Parallel}
use Rattle.sp_tree.specs.PlainSyntax.{Forall, Assume, ElsePart, NoElse, Else, Statements, NoStatement, AndThen, Arm, On}
use Rattle.sp_tree.specs.PlainSyntax.{Arms, NoArm, Or, Branches, NoBranch, Beside, Part, Const, Kind, Var, Proc, Parts}
use Rattle.sp_tree.specs.PlainSyntax.{NoPart, Declare, Block, Program}

-- lists of the plain tree
abbrev pub selectors : List Selector → Selectors
selectors [] = Whole
selectors (a ∷ rest) = Select a (selectors rest)

abbrev pub arguments : List Argument → Arguments
arguments [] = NoArgument
arguments (a ∷ rest) = AndArgument a (arguments rest)

abbrev pub width : Option Expression → Width
width None = NoWidth
width (Some e) = WithWidth e

-- one level of an expression
abbrev pub selector_step : e.SynSelector-F ExpressionForm Selector Argument Expression Variable → Selector
selector_step (e.Index a) = Index a
selector_step (e.Field name) = Field name

abbrev pub form_step : e.SynExprForm-F ExpressionForm Selector Argument Expression Variable → ExpressionForm
form_step (e.Number n) = Number n
form_step (e.Quoted text) = Quoted text
form_step (e.Read v) = Read v
form_step (e.Call name args) = Apply name (arguments args)
form_step (e.Unary op a) = Unary op a
form_step (e.Binary op a b) = Binary op a b

abbrev pub argument_step : e.SynArg-F ExpressionForm Selector Argument Expression Variable → Argument
argument_step a = Pass a.value (width a.width)

abbrev pub expression_step : e.SynExpr-F ExpressionForm Selector Argument Expression Variable → Expression
expression_step x = ExpressionAt x.at x.form

abbrev pub variable_step : e.SynVar-F ExpressionForm Selector Argument Expression Variable → Variable
variable_step v = Entire v.name (selectors v.selectors)

abbrev pub expression_of : syn_expr.SynExpr → Expression
expression_of = syn_expr.fold-SynExpr ExpressionForm Selector Argument Expression Variable form_step selector_step
    argument_step expression_step variable_step

abbrev pub expression_form_of : syn_form.SynExprForm → ExpressionForm
expression_form_of = syn_form.fold-SynExprForm ExpressionForm Selector Argument Expression Variable form_step
    selector_step argument_step expression_step variable_step

abbrev pub variable_of : syn_var.SynVar → Variable
variable_of = syn_var.fold-SynVar ExpressionForm Selector Argument Expression Variable form_step selector_step
    argument_step expression_step variable_step

abbrev pub selector_of : syn_selector.SynSelector → Selector
selector_of = syn_selector.fold-SynSelector ExpressionForm Selector Argument Expression Variable form_step selector_step
    argument_step expression_step variable_step

abbrev pub argument_of : syn_arg.SynArg → Argument
argument_of = syn_arg.fold-SynArg ExpressionForm Selector Argument Expression Variable form_step selector_step
    argument_step expression_step variable_step

abbrev pub arguments_of : List syn_arg.SynArg → Arguments
arguments_of args = arguments (map argument_of args)

-- lists of statements
abbrev pub statements : List Statement → Statements
statements [] = NoStatement
statements (a ∷ rest) = AndThen a (statements rest)

abbrev pub arms : List Arm → Arms
arms [] = NoArm
arms (a ∷ rest) = Or a (arms rest)

abbrev pub branches : List Statements → Branches
branches [] = NoBranch
branches (a ∷ rest) = Beside a (branches rest)

abbrev pub else_part : Option Statement → ElsePart
else_part None = NoElse
else_part (Some b) = Else b

-- one level of a statement
abbrev pub statement_form_step : s.SynForm-F Form Arm Statements Statement → Form
statement_form_step s.Empty = Empty
statement_form_step (s.Assign v a) = Assign (variable_of v) (expression_of a)
statement_form_step (s.Call name args) = Call name (arguments_of args)
statement_form_step (s.Sequence ss) = Sequence (statements ss)
statement_form_step (s.If c a b) = If (expression_of c) a (else_part b)
statement_form_step (s.While c a) = While (expression_of c) a
statement_form_step (s.Repeat ss c) = Repeat (statements ss) (expression_of c)
statement_form_step (s.Case c choices) = Case (expression_of c) (arms choices)
statement_form_step (s.For name from down to a) = For name (expression_of from) down (expression_of to) a
statement_form_step (s.Parallel ss) = Parallel (branches ss)
statement_form_step (s.Forall name from to a) = Forall name (expression_of from) (expression_of to) a
statement_form_step (s.Assume c) = Assume (expression_of c)

abbrev pub arm_step : s.SynArm-F Form Arm Statements Statement → Arm
arm_step a = On a.constants a.body

abbrev pub branch_step : s.SynBranch-F Form Arm Statements Statement → Statements
branch_step b = statements b.statements

abbrev pub statement_step : s.SynStmt-F Form Arm Statements Statement → Statement
statement_step a = Does a.at a.form

abbrev pub statement_of : syn_stmt.SynStmt → Statement
statement_of = syn_stmt.fold-SynStmt Form Arm Statements Statement statement_form_step arm_step branch_step
    statement_step

abbrev pub statement_form_of : syn_stmt_form.SynForm → Form
statement_form_of = syn_stmt_form.fold-SynForm Form Arm Statements Statement statement_form_step arm_step branch_step
    statement_step

abbrev pub arm_of : syn_arm.SynArm → Arm
arm_of = syn_arm.fold-SynArm Form Arm Statements Statement statement_form_step arm_step branch_step statement_step

abbrev pub branch_of : syn_branch.SynBranch → Statements
branch_of = syn_branch.fold-SynBranch Form Arm Statements Statement statement_form_step arm_step branch_step
    statement_step

abbrev pub statements_of : List syn_stmt.SynStmt → Statements
statements_of ss = statements (map statement_of ss)

-- one level of a block
abbrev pub parts : List Part → Parts
parts [] = NoPart
parts (a ∷ rest) = Declare a (parts rest)

abbrev pub part_step : p.SynPart-F Part Block → Part
part_step (p.Const name value) = Const name value
part_step (p.Kind name kind) = Kind name kind
part_step (p.Var names kind) = Var names kind
part_step (p.Proc name formals answer block) = Proc name formals answer block.parts block.body

abbrev pub block_step : p.SynBlock-F Part Block → Block
block_step b = record { parts = parts b.parts; body = statement_of b.body }

abbrev pub block_of : syn_block.SynBlock → Block
block_of = syn_block.fold-SynBlock Part Block part_step block_step

abbrev pub part_of : syn_part.SynPart → Part
part_of = syn_part.fold-SynPart Part Block part_step block_step

abbrev pub parts_of : List syn_part.SynPart → Parts
parts_of ps = parts (map part_of ps)

-- the plain tree of a program
abbrev pub program_of : syn.Syntax → Program
program_of t = record { name = t.name; heading = t.heading; block = block_of t.block }
