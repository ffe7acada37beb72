-- All of this belongs to what the program promises (docs/promise.txt).
-- The tree with numbers for names, by the declarations visible at each name. It is there for every syntax tree; where
-- no rule of names is broken, each name has the number of its declaration. The contract of the resolution promises it.
use Rattle.std.specs.Prelude.{option_map}
use Rattle.std.specs.Prelude.{ℕ, suc, List, [], ◌∷◌, ◌++◌, length, Option, Some, None, codes}
use Rattle.sp_base.specs.declared.place.Place.{Place}
use Rattle.sp_tree.specs.declared.checked.Role.{Role}
use Rattle.sp_tree.specs.declared.checked.Role.TheVariants as role
use Rattle.sp_tree.specs.declared.checked.Variable as checked
use Rattle.sp_tree.specs.declared.meaning.Meaning.{Meaning}
use Rattle.sp_tree.specs.declared.meaning.Meaning.TheVariants as meaning
use Rattle.sp_tree.specs.declared.syntax.Name.{Name}
use Rattle.sp_tree.specs.declared.syntax.SynConst.{SynConst}
use Rattle.sp_tree.specs.declared.syntax.SynValue.{SynValue}
use Rattle.sp_tree.specs.declared.syntax.SynValue.TheVariants as value
use Rattle.sp_tree.specs.declared.syntax.SynKind.{SynKind}
use Rattle.sp_tree.specs.declared.syntax.SynKind.TheVariants as kinds
use Rattle.sp_tree.specs.declared.syntax.SynFormal.{SynFormal}
use Rattle.sp_tree.specs.declared.syntax.SynGroup.{SynGroup}
use Rattle.sp_tree.specs.declared.named.NamedConstant.{NamedConstant}
use Rattle.sp_tree.specs.declared.named.NamedConstant.TheVariants as constant
use Rattle.sp_tree.specs.declared.named.NamedConst.{NamedConst}
use Rattle.sp_tree.specs.declared.named.NamedValue.{NamedValue}
use Rattle.sp_tree.specs.declared.named.NamedValue.TheVariants as given
use Rattle.sp_tree.specs.declared.named.NamedKind.{NamedKind}
use Rattle.sp_tree.specs.declared.named.NamedKindForm.{NamedKindForm}
use Rattle.sp_tree.specs.declared.named.NamedKindForm.TheVariants as kind
use Rattle.sp_tree.specs.declared.named.NamedAnswer.{NamedAnswer}
use Rattle.sp_tree.specs.PlainNamed as n
use Rattle.sp_tree.specs.NamedOf as of_
use Rattle.sp_tree.specs.Scopes.{Scope, Env, Local, inner_env, find, empty_local, standard_scope, next_kind}
use Rattle.sp_tree.specs.Scopes.{next_variable, next_block}
use Rattle.sp_tree.specs.NameWalk.{local_of_index, statement_local, statements_local, arm_local, role_of, title_local}
use Rattle.sp_tree.specs.NameWalk.{heading_local, part_local, parts_local, blocks_around}
use Rattle.sp_tree.specs.PlainSyntax.{Expression, ExpressionAt, ExpressionForm, Number, Quoted, Read, Apply, Unary}
use Rattle.sp_tree.specs.PlainSyntax.{Binary}
use Rattle.sp_tree.specs.PlainSyntax.{Variable, Entire, Selector, Index, Field, Selectors, Whole, Select, Argument}
use Rattle.sp_tree.specs.PlainSyntax.{Pass, Width, NoWidth, WithWidth, Arguments, NoArgument, AndArgument, Statement}
use Rattle.sp_tree.specs.PlainSyntax.{Does}
use Rattle.sp_tree.specs.PlainSyntax.{Form, Empty, Assign, Call, Sequence, If, While, Repeat, Case, For, Parallel}
use Rattle.sp_tree.specs.PlainSyntax.{Forall, Assume, ElsePart, NoElse, Else, Statements, NoStatement, AndThen, Arm, On}
use Rattle.sp_tree.specs.PlainSyntax.{Arms, NoArm, Or, Branches, NoBranch, Beside, Part, Const, Kind, Var, Proc, Parts}
use Rattle.sp_tree.specs.PlainSyntax.{NoPart, Declare, Program}

-- the number of a constant
abbrev pub constant_number : Option Meaning → ℕ
constant_number (Some (meaning.Constant k)) = k
constant_number m = 0

-- the number of a type
abbrev pub kind_number : Option Meaning → ℕ
kind_number (Some (meaning.Kind k)) = k
kind_number m = 0

-- the number of a variable
abbrev pub variable_number : Option Meaning → ℕ
variable_number (Some (meaning.Variable x b r)) = x
variable_number m = 0

-- the number of the variable that is assigned: a function's name alone stands for its result
abbrev pub assigned_number : ℕ → Option Meaning → ℕ
assigned_number answer (Some (meaning.Function b fs)) = answer
assigned_number answer m = variable_number m

-- a variable in an expression
abbrev pub variable_read : ℕ → Name → n.Selectors → n.ExpressionForm
variable_read k x ss = n.Read (n.Entire k x.at ss)

-- a name in an expression: a constant, a call of a function without arguments, or a variable with its selectors
abbrev pub operand_named : Option Meaning → Name → n.Selectors → n.ExpressionForm
operand_named (Some (meaning.Constant k)) x ss = n.Constant k
operand_named (Some (meaning.Function b fs)) x ss = n.Apply b x.at n.NoArgument
operand_named (Some (meaning.StandardFunction f)) x ss = n.Standard f n.NoArgument
operand_named m x ss = variable_read (variable_number m) x ss

-- a call in an expression
abbrev pub function_named : Option Meaning → Name → n.Arguments → n.ExpressionForm
function_named (Some (meaning.Function b fs)) f args = n.Apply b f.at args
function_named (Some (meaning.StandardFunction g)) f args = n.Standard g args
function_named m f args = n.Apply 0 f.at args

-- a call as a statement
abbrev pub procedure_named : Option Meaning → n.Arguments → n.Form
procedure_named (Some (meaning.Procedure b fs)) args = n.Call b args
procedure_named (Some (meaning.StandardProcedure p)) args = n.Perform p args
procedure_named m args = n.Call 0 args

module _ (env : Env) where
  abbrev mutual
    pub named_expression : Expression → n.Expression
    named_expression (ExpressionAt at form) = n.ExpressionAt at (named_form form)

    pub named_form : ExpressionForm → n.ExpressionForm
    named_form (Number k) = n.Number k
    named_form (Quoted t) = n.Quoted t
    named_form (Read v) = named_operand v
    named_form (Apply f args) = function_named (find env f.text) f (of_.arguments (named_arguments args))
    named_form (Unary op a) = n.Unary op (named_expression a)
    named_form (Binary op a b) = n.Binary op (named_expression a) (named_expression b)

    pub named_operand : Variable → n.ExpressionForm
    named_operand (Entire x ss) = operand_named (find env x.text) x (of_.selectors (named_selectors ss))

    pub named_selectors : Selectors → List n.Selector
    named_selectors Whole = []
    named_selectors (Select e rest) = named_selector e ∷ named_selectors rest

    pub named_selector : Selector → n.Selector
    named_selector (Index e) = n.Index (named_expression e)
    named_selector (Field f) = n.Field f.text

    pub named_arguments : Arguments → List n.Argument
    named_arguments NoArgument = []
    named_arguments (AndArgument a rest) = named_argument a ∷ named_arguments rest

    pub named_argument : Argument → n.Argument
    named_argument (Pass e w) = n.Pass (named_expression e) (named_width w)

    pub named_width : Width → n.Width
    named_width NoWidth = n.NoWidth
    named_width (WithWidth e) = n.WithWidth (named_expression e)

  abbrev pub named_target : Variable → n.Variable
  named_target (Entire x ss) = n.Entire (assigned_number env.local.answer (find env x.text)) x.at
      (of_.selectors (named_selectors ss))

  abbrev pub named_value : SynValue → NamedValue
  named_value (value.Number k) = given.Number k
  named_value (value.Quoted t) = given.Quoted t
  named_value (value.Named x) = given.Constant (constant_number (find env x.text))

  abbrev pub named_const : SynConst → NamedConst
  named_const c = record { at = c.at; negative = c.negative; value = named_value c.value }

  abbrev pub named_constants : List SynConst → List NamedConst
  named_constants [] = []
  named_constants (c ∷ cs) = named_const c ∷ named_constants cs

-- statements, with the blocks around; an index is declared in the block of its element statement
abbrev mutual
  pub named_statement : List Scope → Local → Statement → n.Statement
  named_statement around l (Does at form) = n.Does at (named_statement_form around l form)

  pub named_statement_form : List Scope → Local → Form → n.Form
  named_statement_form around l Empty = n.Empty
  named_statement_form around l (Assign v e) =
      n.Assign (named_target (inner_env around l) v) (named_expression (inner_env around l) e)
  named_statement_form around l (Call f args) =
      procedure_named (find (inner_env around l) f.text) (of_.arguments (named_arguments (inner_env around l) args))
  named_statement_form around l (Sequence ss) = n.Sequence (of_.statements (named_statements around l ss))
  named_statement_form around l (If e a o) =
      n.If (named_expression (inner_env around l) e) (named_statement around l a)
      (named_other around (statement_local l a) o)
  named_statement_form around l (While e a) =
      n.While (named_expression (inner_env around l) e) (named_statement around l a)
  named_statement_form around l (Repeat ss e) =
      n.Repeat (of_.statements (named_statements around l ss))
      (named_expression (inner_env around (statements_local l ss)) e)
  named_statement_form around l (Case e choices) =
      n.Case (named_expression (inner_env around l) e) (of_.arms (named_arms around l choices))
  named_statement_form around l (For x from down to a) =
      n.For (variable_number (find (inner_env around l) x.text)) x.at (named_expression (inner_env around l) from) down
      (named_expression (inner_env around l) to) (named_statement around l a)
  named_statement_form around l (Parallel bs) = n.Parallel (of_.branches (named_branches around l bs))
  named_statement_form around l (Forall x from to a) =
      n.Forall (next_variable l.counts) (named_expression (inner_env around l) from)
      (named_expression (inner_env around l) to) (named_statement (blocks_around around l) (local_of_index l x) a)
  named_statement_form around l (Assume e) = n.Assume (named_expression (inner_env around l) e)

  pub named_other : List Scope → Local → ElsePart → n.ElsePart
  named_other around l NoElse = n.NoElse
  named_other around l (Else a) = n.Else (named_statement around l a)

  pub named_statements : List Scope → Local → Statements → List n.Statement
  named_statements around l NoStatement = []
  named_statements around l (AndThen a rest) = named_statement around l a
      ∷ named_statements around (statement_local l a) rest

  pub named_arms : List Scope → Local → Arms → List n.Arm
  named_arms around l NoArm = []
  named_arms around l (Or a rest) = named_arm around l a ∷ named_arms around (arm_local l a) rest

  pub named_arm : List Scope → Local → Arm → n.Arm
  named_arm around l (On cs a) = n.On (named_constants (inner_env around l) cs) (named_statement around l a)

  pub named_branches : List Scope → Local → Branches → List n.Statements
  named_branches around l NoBranch = []
  named_branches around l (Beside ss rest) = of_.statements (named_statements around l ss)
      ∷ named_branches around (statements_local l ss) rest

-- the indices of the foralls in a statement of a block, in order
module _ (block : ℕ) where
  abbrev mutual
    pub indices : Statement → List checked.Variable
    indices (Does at form) = form_indices form

    pub form_indices : Form → List checked.Variable
    form_indices (Sequence ss) = statements_indices ss
    form_indices (If e a o) = indices a ++ other_indices o
    form_indices (While e a) = indices a
    form_indices (Repeat ss e) = statements_indices ss
    form_indices (Case e choices) = arms_indices choices
    form_indices (For x from down to a) = indices a
    form_indices (Parallel bs) = branches_indices bs
    form_indices (Forall x from to a) = record { name = x.text; kind = 0; block = block; role = role.Index; at = x.at }
        ∷ indices a
    form_indices f = []

    pub other_indices : ElsePart → List checked.Variable
    other_indices NoElse = []
    other_indices (Else a) = indices a

    pub statements_indices : Statements → List checked.Variable
    statements_indices NoStatement = []
    statements_indices (AndThen a rest) = indices a ++ statements_indices rest

    pub arms_indices : Arms → List checked.Variable
    arms_indices NoArm = []
    arms_indices (Or a rest) = arm_indices a ++ arms_indices rest

    pub arm_indices : Arm → List checked.Variable
    arm_indices (On cs a) = indices a

    pub branches_indices : Branches → List checked.Variable
    branches_indices NoBranch = []
    branches_indices (Beside ss rest) = statements_indices ss ++ branches_indices rest

-- variables of one type and role
abbrev pub variables_named : ℕ → Role → ℕ → List Name → List checked.Variable
variables_named block r k [] = []
variables_named block r k (x ∷ xs) = record { name = x.text; kind = k; block = block; role = r; at = x.at }
    ∷ variables_named block r k xs

-- the parameters of a block, whose types mean what they mean around the heading
abbrev pub formals_named : Env → ℕ → List SynFormal → List checked.Variable
formals_named env block [] = []
formals_named env block (f ∷ fs) = variables_named block (role_of f.by_reference) (kind_number (find env f.kind.text))
    f.names ++ formals_named env block fs

-- so many numbers from one on
abbrev pub numbers : ℕ → List checked.Variable → List ℕ
numbers n [] = []
numbers n (x ∷ xs) = n ∷ numbers (suc n) xs

-- the result of a function, at the place of the heading's name
abbrev pub answer_named : Env → ℕ → Name → Option Name → List checked.Variable
answer_named env block x None = []
answer_named env block x (Some t) =
    record { name = x.text; kind = kind_number (find env t.text); block = block; role = role.Answer; at = x.at } ∷ []

abbrev pub answer_of : ℕ → Option Name → Option NamedAnswer
answer_of k t = option_map (λ t. record { variable = k; at = t.at }) t

-- the constants of an enumeration, from an ordinal on
abbrev pub enumeration_constants : ℕ → ℕ → List Name → List NamedConstant
enumeration_constants k i [] = []
enumeration_constants k i (x ∷ xs) = constant.Enumerated k i ∷ enumeration_constants k (suc i) xs

-- the fields of one type
abbrev pub fields_named : ℕ → List Name → List (List ℕ × ℕ)
fields_named k [] = []
fields_named k (x ∷ xs) = (x.text, k) ∷ fields_named k xs

abbrev pub groups_named : Env → List SynGroup → List (List ℕ × ℕ)
groups_named env [] = []
groups_named env (g ∷ gs) = fields_named (kind_number (find env g.kind.text)) g.names ++ groups_named env gs

abbrev pub messages_named : Env → List Name → List ℕ
messages_named env [] = []
messages_named env (t ∷ ts) = kind_number (find env t.text) ∷ messages_named env ts

-- the definition of a type
abbrev pub kind_named : Env → SynKind → NamedKindForm
kind_named env (kinds.Alias t) = kind.Alias (kind_number (find env t.text))
kind_named env (kinds.Enumeration xs) = kind.Enumeration (length xs)
kind_named env (kinds.Array a b t) = kind.Array (named_const env a) (named_const env b) (kind_number (find env t.text))
kind_named env (kinds.Record gs) = kind.Fields (groups_named env gs)
kind_named env (kinds.Channel ts) = kind.Channel (messages_named env ts)

abbrev pub constants_named : ℕ → SynKind → List NamedConstant
constants_named k (kinds.Enumeration xs) = enumeration_constants k 0 xs
constants_named k f = []

-- nothing is declared
abbrev pub nothing_named : n.Program
nothing_named = record { constants = []; kinds = []; variables = []; blocks = [] }

-- the declarations of one part behind those of another
abbrev pub appended_tables : n.Program → n.Program → n.Program
appended_tables a b = record {
  constants = a.constants ++ b.constants;
  kinds = a.kinds ++ b.kinds;
  variables = a.variables ++ b.variables;
  blocks = a.blocks ++ b.blocks;
}

-- a constant
abbrev pub constant_part : Env → SynConst → n.Program
constant_part env c = record nothing_named { constants = constant.Value (named_const env c) ∷ [] }

-- a type, with the constants of an enumeration
abbrev pub kind_part : Env → Name → SynKind → n.Program
kind_part env x k = record nothing_named {
  constants = constants_named (next_kind env.local.counts) k;
  kinds = record { at = x.at; form = kind_named env k } ∷ [];
}

-- variables of one type
abbrev pub variables_part : Env → List Name → Name → n.Program
variables_part env xs t =
    record nothing_named { variables = variables_named env.local.block role.Local (kind_number (find env t.text)) xs }

-- What stands in a block: the number of its result's variable, its statement part, the indices of the foralls there,
-- and what its parts declare.
pub record Inside : Type 0 where
  pub answer : ℕ
  pub body : n.Statement
  pub indices : List checked.Variable
  pub parts : n.Program

-- the same, where it is known what the parts declare
abbrev pub inside_with : List Scope → Local → Parts → Statement → n.Program → Inside
inside_with around l parts body tables = record {
  answer = l.answer;
  body = named_statement around (parts_local l parts) body;
  indices = indices l.block body;
  parts = tables;
}

-- the block of a procedure or function, by the declarations around its heading
abbrev pub procedure_block : Env → Name → List SynFormal → Option Name → Inside → n.Block
procedure_block env x fs answer i = record {
  name = x.text;
  parent = Some env.local.block;
  formals = numbers (next_variable env.local.counts) (formals_named env (next_block env.local.counts) fs);
  answer = answer_of i.answer answer;
  body = i.body;
  at = x.at;
}

-- What a procedure or function declares: its parameters, its result, the variables of its parts, and the indices; and
-- its block in front of those inside it.
abbrev pub procedure_part : Env → Name → List SynFormal → Option Name → Inside → n.Program
procedure_part env x fs answer i = record {
  constants = i.parts.constants;
  kinds = i.parts.kinds;
  variables = formals_named env (next_block env.local.counts) fs
      ++ (answer_named env (next_block env.local.counts) x answer ++ (i.parts.variables ++ i.indices));
  blocks = procedure_block env x fs answer i ∷ i.parts.blocks;
}

-- what is declared in parts
abbrev mutual
  pub parts_named : List Scope → Local → Parts → n.Program
  parts_named around l NoPart = nothing_named
  parts_named around l (Declare p rest) =
      appended_tables (part_named around l p) (parts_named around (part_local l p) rest)

  pub part_named : List Scope → Local → Part → n.Program
  part_named around l (Const x c) = constant_part (inner_env around l) c
  part_named around l (Kind x k) = kind_part (inner_env around l) x k
  part_named around l (Var xs t) = variables_part (inner_env around l) xs t
  part_named around l (Proc x fs answer parts body) =
      procedure_part (inner_env around l) x fs answer
      (inside_with (blocks_around around (title_local l x fs answer)) (heading_local l x fs answer) parts body
      (parts_named (blocks_around around (title_local l x fs answer)) (heading_local l x fs answer) parts))

-- what stands in a block with these parts and this statement part
abbrev pub inside_named : List Scope → Local → Parts → Statement → Inside
inside_named around l parts body = inside_with around l parts body (parts_named around l parts)

-- false, true and maxint
abbrev pub standard_constants : Place → List NamedConstant
standard_constants at =
    constant.Enumerated 1 0 ∷ constant.Enumerated 1 1
    ∷ constant.Value (record { at = at; negative = None; value = given.Number 9223372036854775807 }) ∷ []

-- the three standard types
abbrev pub standard_kinds : Place → List NamedKind
standard_kinds at = record { at = at; form = kind.Integer } ∷ record { at = at; form = kind.Boolean }
    ∷ record { at = at; form = kind.Char } ∷ []

-- the input and the output, which have chars
abbrev pub consoles : Place → List checked.Variable
consoles at =
    record { name = codes "input"; kind = 2; block = 0; role = role.Console; at = at } ∷
    record { name = codes "output"; kind = 2; block = 0; role = role.Console; at = at } ∷ []

-- the program's own block
abbrev pub program_block : Name → n.Statement → n.Block
program_block x body = record { name = x.text; parent = None; formals = []; answer = None; body = body; at = x.at }

-- A program's tables: the standard declarations, which stand at the place of the program's name, in front of its own.
abbrev pub program_tables : Name → Inside → n.Program
program_tables x i = record {
  constants = standard_constants x.at ++ i.parts.constants;
  kinds = standard_kinds x.at ++ i.parts.kinds;
  variables = consoles x.at ++ (i.parts.variables ++ i.indices);
  blocks = program_block x i.body ∷ i.parts.blocks;
}

-- the tree of a program
abbrev pub program_named : Program → n.Program
program_named p = program_tables p.name (inside_named (standard_scope ∷ []) empty_local p.block.parts p.block.body)
