-- None of this belongs to what the program promises: it is for contracts between crates.
-- The plain tree of a checked one in memory, for each part of a tree. It is `CheckedOf`, the tree with its places,
-- and then `Bare`, which leaves the places out.
use Rattle.std.specs.Prelude.{List, [], ◌∷◌, map, Option}
use Rattle.sp_tree.specs.declared.operators.StandardFn.{StandardFn}
use Rattle.sp_tree.specs.declared.checked.Expr as ast_e
use Rattle.sp_tree.specs.declared.checked.Var as ast_v
use Rattle.sp_tree.specs.declared.checked.ExprForm as ast_f
use Rattle.sp_tree.specs.declared.checked.Selector as ast_t
use Rattle.sp_tree.specs.declared.checked.Actual as ast_a
use Rattle.sp_tree.specs.declared.checked.Stmt as ast_s
use Rattle.sp_tree.specs.declared.checked.Form as ast_form
use Rattle.sp_tree.specs.declared.checked.Arm as ast_arm
use Rattle.sp_tree.specs.declared.checked.Block as ast_b
use Rattle.sp_tree.specs.declared.checked.Checked as ast_c
use Rattle.sp_tree.specs.PlainChecked as p
use Rattle.sp_tree.specs.CheckedOf as placed
use Rattle.sp_tree.specs.Bare.{bare_expression, bare_form, bare_variable, bare_selector, bare_selectors, bare_actual}
use Rattle.sp_tree.specs.Bare.{bare_actuals, bare_width, bare_statement, bare_statement_form, bare_statements, bare_arm}
use Rattle.sp_tree.specs.Bare.{bare_arms, bare_block, without_places}
use Rattle.sp_tree.specs.Plain.{Expr, ExprForm, Var, Selector, Selectors, Actual, Actuals, Stmt, Send, Receive, Stmts}
use Rattle.sp_tree.specs.Plain.{No, And, Arm, Arms, Block, Program}

abbrev pub expr_of : ast_e.Expr → Expr
expr_of e = bare_expression (placed.expression_of e)

abbrev pub form_of : ast_f.ExprForm → ExprForm
form_of form = bare_form (placed.expression_form_of form)

abbrev pub standard_of : StandardFn → List ast_e.Expr → ExprForm
standard_of f args = bare_form (p.Standard f (placed.expressions (map placed.expression_of args)))

abbrev pub var_of : ast_v.Var → Var
var_of v = bare_variable (placed.variable_of v)

abbrev pub selector_of : ast_t.Selector → Selector
selector_of s = bare_selector (placed.selector_of s)

abbrev pub selectors_of : List ast_t.Selector → Selectors
selectors_of ss = bare_selectors (placed.selectors (map placed.selector_of ss))

abbrev pub actual_of : ast_a.Actual → Actual
actual_of a = bare_actual (placed.actual_of a)

abbrev pub actuals_of : List ast_a.Actual → Actuals
actuals_of args = bare_actuals (placed.actuals (map placed.actual_of args))

abbrev pub width_of : Option ast_e.Expr → Option Expr
width_of w = bare_width (placed.width_of w)

abbrev pub stmt_of : ast_s.Stmt → Stmt
stmt_of s = bare_statement (placed.statement_of s)

abbrev pub stmt_form_of : ast_form.Form → Stmt
stmt_form_of form = bare_statement_form (placed.statement_form_of form)

abbrev pub stmts_of : List ast_s.Stmt → Stmts
stmts_of ss = bare_statements (placed.statements (map placed.statement_of ss))

abbrev pub arm_of : ast_arm.Arm → Arm
arm_of a = bare_arm (placed.arm_of a)

abbrev pub arms_of : List ast_arm.Arm → Arms
arms_of choices = bare_arms (placed.arms (map placed.arm_of choices))

abbrev pub stmts : List Stmt → Stmts
stmts [] = No
stmts (a ∷ rest) = And a (stmts rest)

-- the single statements for several values, or variables, on one channel
abbrev pub sends : Expr → List Expr → Stmts
sends c [] = No
sends c (e ∷ rest) = And (Send c e) (sends c rest)

abbrev pub receives : Expr → List Var → Stmts
receives c [] = No
receives c (v ∷ rest) = And (Receive c v) (receives c rest)

abbrev pub block_of : ast_b.Block → Block
block_of b = bare_block (placed.block_of b)

abbrev pub blocks_of : List ast_b.Block → List Block
blocks_of bs = map bare_block (map placed.block_of bs)

abbrev pub program_of : ast_c.Checked → Program
program_of c = without_places (placed.program_of c)
