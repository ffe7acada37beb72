-- All of this belongs to what the program promises (docs/promise.txt).
-- How places are left out of a plain checked tree, which gives the plain tree that the meaning runs. Contracts on a
-- checked tree in memory say by it what the tree means; places serve reports alone, so the meaning knows none.
use Rattle.std.specs.Prelude.{option_map}
use Rattle.std.specs.Prelude.{map, Option}
use Rattle.sp_tree.specs.declared.checked.Variable as memory
use Rattle.sp_tree.specs.PlainChecked as p
use Rattle.sp_tree.specs.Plain.{Expr, Typed, ExprForm, Number, Read, Unary, Binary, Apply, Standard, AtInput, Var}
use Rattle.sp_tree.specs.Plain.{Entire, Selector, Selectors, Whole, Select, Index, Field, Actual, Actuals, Nothing}
use Rattle.sp_tree.specs.Plain.{Pass, ByValue, ByReference, Stmt, Empty, Assign, Call, Sequence, If, IfElse, While}
use Rattle.sp_tree.specs.Plain.{Repeat, For, Case, Parallel, Forall, Assume, ReadValue, ReadLine, WriteValue, WriteText}
use Rattle.sp_tree.specs.Plain.{WriteLine, Open, Send, Receive, Stmts, No, And, Arm, On, Arms, NoArm, Or, Variable}
use Rattle.sp_tree.specs.Plain.{Block, Program}

abbrev mutual
  pub bare_expression : p.Expression → Expr
  bare_expression (p.ExpressionAt at k form) = Typed k (bare_form form)

  pub bare_form : p.ExpressionForm → ExprForm
  bare_form (p.Number n) = Number n
  bare_form (p.Read v) = Read (bare_variable v)
  bare_form (p.Unary op a) = Unary op (bare_expression a)
  bare_form (p.Binary op a b) = Binary op (bare_expression a) (bare_expression b)
  bare_form (p.Apply f at args) = Apply f (bare_actuals args)
  bare_form (p.Standard f p.NoExpression) = AtInput f
  bare_form (p.Standard f (p.AndExpression a rest)) = Standard f (bare_expression a)

  pub bare_variable : p.Variable → Var
  bare_variable (p.Entire x at ss) = Entire x (bare_selectors ss)

  pub bare_selectors : p.Selectors → Selectors
  bare_selectors p.Whole = Whole
  bare_selectors (p.Select s rest) = Select (bare_selector s) (bare_selectors rest)

  pub bare_selector : p.Selector → Selector
  bare_selector (p.Index e) = Index (bare_expression e)
  bare_selector (p.Field f) = Field f

  pub bare_actuals : p.Actuals → Actuals
  bare_actuals p.Nothing = Nothing
  bare_actuals (p.Pass a rest) = Pass (bare_actual a) (bare_actuals rest)

  pub bare_actual : p.Actual → Actual
  bare_actual (p.ByValue e) = ByValue (bare_expression e)
  bare_actual (p.ByReference v) = ByReference (bare_variable v)

abbrev pub bare_width : Option p.Expression → Option Expr
bare_width e = option_map bare_expression e

abbrev mutual
  pub bare_statement : p.Statement → Stmt
  bare_statement (p.Does n at form) = bare_statement_form form

  pub bare_statement_form : p.Form → Stmt
  bare_statement_form p.Empty = Empty
  bare_statement_form (p.Assign v e) = Assign (bare_variable v) (bare_expression e)
  bare_statement_form (p.Call f args) = Call f (bare_actuals args)
  bare_statement_form (p.Sequence ss) = Sequence (bare_statements ss)
  bare_statement_form (p.If e s p.NoElse) = If (bare_expression e) (bare_statement s)
  bare_statement_form (p.If e s (p.Else t)) = IfElse (bare_expression e) (bare_statement s) (bare_statement t)
  bare_statement_form (p.While e s) = While (bare_expression e) (bare_statement s)
  bare_statement_form (p.Repeat s e) = Repeat (bare_statement s) (bare_expression e)
  bare_statement_form (p.For x at from down to s) =
      For x (bare_expression from) down (bare_expression to) (bare_statement s)
  bare_statement_form (p.Case e arms) = Case (bare_expression e) (bare_arms arms)
  bare_statement_form (p.Parallel ss) = Parallel (bare_statements ss)
  bare_statement_form (p.Forall x from to s) = Forall x (bare_expression from) (bare_expression to) (bare_statement s)
  bare_statement_form (p.Assume e) = Assume (bare_expression e)
  bare_statement_form (p.ReadValue v) = ReadValue (bare_variable v)
  bare_statement_form p.ReadLine = ReadLine
  bare_statement_form (p.WriteValue e w) = WriteValue (bare_expression e) (bare_width w)
  bare_statement_form (p.WriteText t w) = WriteText t (bare_width w)
  bare_statement_form p.WriteLine = WriteLine
  bare_statement_form (p.Open v) = Open (bare_variable v)
  bare_statement_form (p.Send c e) = Send (bare_expression c) (bare_expression e)
  bare_statement_form (p.Receive c v) = Receive (bare_expression c) (bare_variable v)

  pub bare_statements : p.Statements → Stmts
  bare_statements p.NoStatement = No
  bare_statements (p.AndThen s rest) = And (bare_statement s) (bare_statements rest)

  pub bare_arms : p.Arms → Arms
  bare_arms p.NoArm = NoArm
  bare_arms (p.Or a rest) = Or (bare_arm a) (bare_arms rest)

  pub bare_arm : p.Arm → Arm
  bare_arm (p.On cs s) = On cs (bare_statement s)

abbrev pub bare_block : p.Block → Block
bare_block b = record { parent = b.parent; formals = b.formals; answer = b.answer; body = bare_statement b.body }

-- a variable without its name and its place
abbrev pub variable_of : memory.Variable → Variable
variable_of x = record { kind = x.kind; block = x.block; role = x.role }

abbrev pub without_places : p.Program → Program
without_places c = record { kinds = c.kinds; variables = map variable_of c.variables; blocks = map bare_block c.blocks }
