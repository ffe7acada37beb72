-- All of this belongs to what the program promises (docs/promise.txt).
-- The checked tree of a program. It is there for every tree with numbers for names; where no rule of types is broken,
-- each part has its type. The contract of the phase of types promises it, and its walks follow it part by part.
use Rattle.std.specs.Option.{option_map_or}
use Rattle.std.specs.Prelude.{unwrap_or}
use Rattle.std.specs.Prelude.{ℕ, ◌+◌, ℤ, pos, List, [], ◌∷◌, ◌++◌, Option, Some, None, slice_get, map}
use Rattle.sp_base.specs.declared.place.Place.{Place}
use Rattle.sp_tree.specs.declared.checked.Role.{Role}
use Rattle.sp_tree.specs.declared.checked.Role.TheVariants as role
use Rattle.sp_tree.specs.declared.checked.Variable as checked
use Rattle.sp_tree.specs.declared.meaning.StandardProcedure.{StandardProcedure}
use Rattle.sp_tree.specs.declared.meaning.StandardProcedure.TheVariants as procedure
use Rattle.sp_tree.specs.declared.named.NamedConst.{NamedConst}
use Rattle.sp_tree.specs.PlainNamed as n
use Rattle.sp_tree.specs.PlainNamed.{Expression, ExpressionAt, ExpressionForm, Number, Quoted, Constant, Read, Apply}
use Rattle.sp_tree.specs.PlainNamed.{Standard}
use Rattle.sp_tree.specs.PlainNamed.{Unary, Binary, Variable, Entire, Selector, Index, Field, Selectors, Whole, Select}
use Rattle.sp_tree.specs.PlainNamed.{Argument, Pass, Width, NoWidth, WithWidth, Arguments, NoArgument, AndArgument}
use Rattle.sp_tree.specs.PlainNamed.{Statement, Does, Form, Empty, Assign, Call, Perform, Sequence, If, While, Repeat}
use Rattle.sp_tree.specs.PlainNamed.{Case, For, Parallel, Forall, Assume, ElsePart, NoElse, Else, Statements}
use Rattle.sp_tree.specs.PlainNamed.{NoStatement}
use Rattle.sp_tree.specs.PlainNamed.{AndThen, Arm, On, Arms, NoArm, Or, Branches, NoBranch, Beside}
use Rattle.sp_types.specs.declared.tables.Ordinal.{Ordinal}
use Rattle.sp_tree.specs.PlainChecked as c
use Rattle.sp_tree.specs.CheckedOf as of_
use Rattle.sp_types.specs.Tables.{Env, table_entry, kind_at, const_value, char_of, number_or, variable_kind, formals_of}
use Rattle.sp_types.specs.Tables.{with_next_number, with_index_type, env_of, answer_variable}
use Rattle.sp_types.specs.TypeRules.{field_in}
use Rattle.sp_types.specs.Kinds.{form_kind, expression_kind, selection}
use Rattle.sp_types.specs.TypeWalk.{formal, formals_behind, formal_role, statement_after, statements_after, arm_after}
use Rattle.sp_types.specs.TypeWalk.{with_first_number}
use Rattle.sp_types.specs.TypeWalk.{starts_of, blocks_after}

-- a type, 0 where it is missing
abbrev pub or_zero : Option ℕ → ℕ
or_zero k = unwrap_or k 0

abbrev pub field_number : Option (ℕ × ℕ) → ℕ
field_number f = option_map_or (λ f. f.0) f 0

abbrev pub numbered_field : Env → Option ℕ → List ℕ → ℕ
numbered_field env k name = option_map_or (λ k. field_number (field_in name (kind_at env k))) k 0

-- an expression as a variable parameter, which has to be a variable
abbrev pub variable_actual : c.Expression → c.Actual
variable_actual (c.ExpressionAt at k (c.Read v)) = c.ByReference v
variable_actual e = c.ByValue e

-- an actual parameter, by the role of the formal
abbrev pub actual_for_role : Option Role → c.Expression → c.Actual
actual_for_role (Some role.Reference) e = variable_actual e
actual_for_role r e = c.ByValue e

-- the variable that an argument is; what is none cannot stand there
abbrev pub target : c.Expression → c.Variable
target (c.ExpressionAt at k (c.Read v)) = v
target (c.ExpressionAt at k form) = c.Entire 0 at c.Whole

-- a text of length 1 is a char, and any other is written as it is
abbrev pub write_text_form : Place → List ℕ → Option Ordinal → Option c.Expression → c.Form
write_text_form at t None w = c.WriteText t w
write_text_form at t (Some o) w = c.WriteValue (c.ExpressionAt at o.kind (c.Number o.number)) w

-- a single statement for each value, all on one channel
abbrev pub send_forms : c.Expression → List c.Expression → List c.Form
send_forms channel values = map (λ (e : c.Expression). c.Send channel e) values

-- a single statement for each variable, all on one channel
abbrev pub receive_forms : c.Expression → List c.Variable → List c.Form
receive_forms channel variables = map (λ (v : c.Variable). c.Receive channel v) variables

module _ (env : Env) where
  abbrev mutual
    pub checked_expression : Expression → c.Expression
    checked_expression (ExpressionAt at form) = c.ExpressionAt at (or_zero (form_kind env form)) (checked_form form)

    -- constants and chars are numbers
    pub checked_form : ExpressionForm → c.ExpressionForm
    checked_form (Number k) = c.Number (pos k)
    checked_form (Quoted t) = c.Number (number_or (pos 0) (char_of t))
    checked_form (Constant k) = c.Number (number_or (pos 0) (table_entry (slice_get env.constants k)))
    checked_form (Read v) = c.Read (checked_variable v)
    checked_form (Apply f at args) = c.Apply f at (of_.actuals (checked_actuals (formals_of env f) args))
    checked_form (Standard f args) = c.Standard f (of_.expressions (checked_arguments args))
    checked_form (Unary op a) = c.Unary op (checked_expression a)
    checked_form (Binary op a b) = c.Binary op (checked_expression a) (checked_expression b)

    pub checked_variable : Variable → c.Variable
    checked_variable (Entire x at ss) = c.Entire x at (of_.selectors (checked_selectors (variable_kind env x) ss))

    pub checked_selectors : Option ℕ → Selectors → List c.Selector
    checked_selectors k Whole = []
    checked_selectors k (Select s rest) = checked_selector k s ∷ checked_selectors (selection env k s) rest

    pub checked_selector : Option ℕ → Selector → c.Selector
    checked_selector k (Index e) = c.Index (checked_expression e)
    checked_selector k (Field name) = c.Field (numbered_field env k name)

    pub checked_actuals : List ℕ → Arguments → List c.Actual
    checked_actuals xs NoArgument = []
    checked_actuals xs (AndArgument a rest) = checked_actual (formal_role env (formal xs)) a
        ∷ checked_actuals (formals_behind xs) rest

    pub checked_actual : Option Role → Argument → c.Actual
    checked_actual r (Pass e w) = actual_for_role r (checked_expression e)

    pub checked_arguments : Arguments → List c.Expression
    checked_arguments NoArgument = []
    checked_arguments (AndArgument a rest) = checked_argument a ∷ checked_arguments rest

    pub checked_argument : Argument → c.Expression
    checked_argument (Pass e w) = checked_expression e

  abbrev pub argument_variable : Argument → c.Variable
  argument_variable a = target (checked_argument a)

  abbrev pub checked_width : Width → Option c.Expression
  checked_width NoWidth = None
  checked_width (WithWidth e) = Some (checked_expression e)

  abbrev pub write_value_form : Expression → Option c.Expression → c.Form
  write_value_form (ExpressionAt at (Quoted t)) w = write_text_form at t (char_of t) w
  write_value_form e w = c.WriteValue (checked_expression e) w

  abbrev pub write_form : Argument → c.Form
  write_form (Pass e w) = write_value_form e (checked_width w)

  -- the single statements that a call with several arguments stands for
  abbrev pub reads : Arguments → List c.Form
  reads NoArgument = []
  reads (AndArgument a rest) = c.ReadValue (argument_variable a) ∷ reads rest

  abbrev pub writes : Arguments → List c.Form
  writes NoArgument = []
  writes (AndArgument a rest) = write_form a ∷ writes rest

  abbrev pub opens : Arguments → List c.Form
  opens NoArgument = []
  opens (AndArgument a rest) = c.Open (argument_variable a) ∷ opens rest

  -- the variables of several arguments
  abbrev pub argument_variables : Arguments → List c.Variable
  argument_variables NoArgument = []
  argument_variables (AndArgument a rest) = argument_variable a ∷ argument_variables rest

  -- the channel is evaluated in each
  abbrev pub sends : c.Expression → Arguments → List c.Form
  sends channel args = send_forms channel (checked_arguments args)

  abbrev pub receives : c.Expression → Arguments → List c.Form
  receives channel args = receive_forms channel (argument_variables args)

  abbrev pub singles : StandardProcedure → Arguments → List c.Form
  singles procedure.Read args = reads args
  singles procedure.Readln args = reads args ++ c.ReadLine ∷ []
  singles procedure.Write args = writes args
  singles procedure.Writeln args = writes args ++ c.WriteLine ∷ []
  singles procedure.Open args = opens args
  singles procedure.Send NoArgument = []
  singles procedure.Send (AndArgument a rest) = sends (checked_argument a) rest
  singles procedure.Receive NoArgument = []
  singles procedure.Receive (AndArgument a rest) = receives (checked_argument a) rest

  abbrev pub constant_numbers : List NamedConst → List ℤ
  constant_numbers [] = []
  constant_numbers (k ∷ ks) = number_or (pos 0) (const_value env.constants k) ∷ constant_numbers ks

-- statements at one place, numbered from a number on
abbrev pub numbered_statements : ℕ → Place → List c.Form → List c.Statement
numbered_statements n at [] = []
numbered_statements n at (f ∷ fs) = c.Does n at f ∷ numbered_statements (n + 1) at fs

-- One statement is the call itself; several stand in a sequence.
abbrev pub expanded_form : ℕ → Place → List c.Form → c.Form
expanded_form n at (f ∷ []) = f
expanded_form n at fs = c.Sequence (of_.statements (numbered_statements n at fs))

-- the place of the first of some statements
abbrev pub first_place : Place → Statements → Place
first_place at NoStatement = at
first_place at (AndThen (Does first form) rest) = first

-- the statements in one, which has the number before theirs
abbrev pub in_sequence : ℕ → Place → List c.Statement → c.Statement
in_sequence n at ss = c.Does n at (c.Sequence (of_.statements ss))

abbrev mutual
  pub checked_statement : Env → Statement → c.Statement
  checked_statement env (Does at form) = c.Does env.next at (checked_statement_form (with_next_number env) at form)

  pub checked_statement_form : Env → Place → Form → c.Form
  checked_statement_form env at Empty = c.Empty
  checked_statement_form env at (Assign v e) = c.Assign (checked_variable env v) (checked_expression env e)
  checked_statement_form env at (Call f args) = c.Call f (of_.actuals (checked_actuals env (formals_of env f) args))
  checked_statement_form env at (Perform p args) = expanded_form env.next at (singles env p args)
  checked_statement_form env at (Sequence ss) = c.Sequence (of_.statements (checked_statements env ss))
  checked_statement_form env at (If e s o) =
      c.If (checked_expression env e) (checked_statement env s) (checked_other (statement_after env s) o)
  checked_statement_form env at (While e s) = c.While (checked_expression env e) (checked_statement env s)
  checked_statement_form env at (Repeat ss e) =
      c.Repeat (in_sequence env.next (first_place at ss) (checked_statements (with_next_number env) ss))
      (checked_expression (statements_after (with_next_number env) ss) e)
  checked_statement_form env at (Case e choices) =
      c.Case (checked_expression env e) (of_.arms (checked_arms env choices))
  checked_statement_form env at (For x name from down to s) =
      c.For x name (checked_expression env from) down (checked_expression env to) (checked_statement env s)
  checked_statement_form env at (Parallel bs) = c.Parallel (of_.statements (checked_branches env at bs))
  checked_statement_form env at (Forall x from to s) =
      c.Forall x (checked_expression env from) (checked_expression env to)
      (checked_statement (with_index_type env x (expression_kind env from)) s)
  checked_statement_form env at (Assume e) = c.Assume (checked_expression env e)

  pub checked_other : Env → ElsePart → c.ElsePart
  checked_other env NoElse = c.NoElse
  checked_other env (Else s) = c.Else (checked_statement env s)

  pub checked_statements : Env → Statements → List c.Statement
  checked_statements env NoStatement = []
  checked_statements env (AndThen s rest) = checked_statement env s ∷ checked_statements (statement_after env s) rest

  pub checked_arms : Env → Arms → List c.Arm
  checked_arms env NoArm = []
  checked_arms env (Or a rest) = checked_arm env a ∷ checked_arms (arm_after env a) rest

  pub checked_arm : Env → Arm → c.Arm
  checked_arm env (On cs s) = c.On (constant_numbers env cs) (checked_statement env s)

  -- each process statement is one statement
  pub checked_branches : Env → Place → Branches → List c.Statement
  checked_branches env at NoBranch = []
  checked_branches env at (Beside ss rest) =
      in_sequence env.next (first_place at ss) (checked_statements (with_next_number env) ss)
      ∷ checked_branches (statements_after (with_next_number env) ss) at rest

-- a block's tree
abbrev pub checked_block : Env → n.Block → c.Block
checked_block env b = record {
  name = b.name;
  parent = b.parent;
  formals = b.formals;
  answer = answer_variable b.answer;
  body = checked_statement env b.body;
  at = b.at;
}

abbrev pub checked_blocks : Env → List ℕ → List n.Block → List c.Block
checked_blocks env starts [] = []
checked_blocks env [] (b ∷ bs) = []
checked_blocks env (k ∷ starts) (b ∷ bs) = checked_block (with_first_number env k) b
    ∷ checked_blocks (statement_after (with_first_number env k) b.body) starts bs

-- variables with their types
abbrev pub checked_variables : List (Option ℕ) → List checked.Variable → List checked.Variable
checked_variables kinds [] = []
checked_variables [] (x ∷ xs) = []
checked_variables (k ∷ kinds) (x ∷ xs) = record x { kind = or_zero k } ∷ checked_variables kinds xs

-- the checked tree of a program
abbrev pub program_checked : n.Program → c.Program
program_checked p = record {
  kinds = (env_of p).kinds;
  variables = checked_variables (blocks_after (env_of p) (starts_of p.blocks) p.blocks).variables p.variables;
  blocks = checked_blocks (env_of p) (starts_of p.blocks) p.blocks;
}
