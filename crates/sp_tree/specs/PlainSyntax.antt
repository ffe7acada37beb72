-- All of this belongs to what the program promises (docs/promise.txt).
-- The syntax tree in types of specifications: definitions by clauses compute on it, and proofs go by its cases. The
-- grammar, the rules of names and the contracts of the parser, the formatter and `sp_scope` speak of it.
use Rattle.std.specs.Prelude.{ℕ, List, Option, Bool}
use Rattle.sp_base.specs.declared.place.Place.{Place}
use Rattle.sp_tree.specs.declared.operators.UnaryOp.{UnaryOp}
use Rattle.sp_tree.specs.declared.operators.BinaryOp.{BinaryOp}
use Rattle.sp_tree.specs.declared.syntax.Name.{Name}
use Rattle.sp_tree.specs.declared.syntax.SynConst.{SynConst}
use Rattle.sp_tree.specs.declared.syntax.SynKind.{SynKind}
use Rattle.sp_tree.specs.declared.syntax.SynFormal.{SynFormal}

mutual
  -- an expression, with the place of its first token
  pub data Expression : Type 0 where
    ExpressionAt : (at : Place) (form : ExpressionForm) → Expression

  pub data ExpressionForm : Type 0 where
    Number : (n : ℕ) → ExpressionForm
    Quoted : (text : List ℕ) → ExpressionForm
    Read : (v : Variable) → ExpressionForm
    Apply : (name : Name) (args : Arguments) → ExpressionForm
    Unary : (op : UnaryOp) (a : Expression) → ExpressionForm
    Binary : (op : BinaryOp) (a b : Expression) → ExpressionForm

  -- a name with selectors
  pub data Variable : Type 0 where
    Entire : (name : Name) (selectors : Selectors) → Variable

  pub data Selector : Type 0 where
    Index : (e : Expression) → Selector
    Field : (name : Name) → Selector

  pub data Selectors : Type 0 where
    Whole : Selectors
    Select : (s : Selector) (rest : Selectors) → Selectors

  -- an argument and its width
  pub data Argument : Type 0 where
    Pass : (value : Expression) (width : Width) → Argument

  pub data Width : Type 0 where
    NoWidth : Width
    WithWidth : (e : Expression) → Width

  pub data Arguments : Type 0 where
    NoArgument : Arguments
    AndArgument : (a : Argument) (rest : Arguments) → Arguments

mutual
  -- a statement, with the place of its first token; of the token after it where it is empty
  pub data Statement : Type 0 where
    Does : (at : Place) (form : Form) → Statement

  pub data Form : Type 0 where
    Empty : Form
    Assign : (v : Variable) (e : Expression) → Form
    Call : (name : Name) (args : Arguments) → Form
    Sequence : (ss : Statements) → Form
    If : (e : Expression) (s : Statement) (other : ElsePart) → Form
    While : (e : Expression) (s : Statement) → Form
    Repeat : (ss : Statements) (e : Expression) → Form
    Case : (e : Expression) (arms : Arms) → Form
    For : (name : Name) (from : Expression) (down : Bool) (to : Expression) (s : Statement) → Form
    Parallel : (branches : Branches) → Form
    Forall : (name : Name) (from to : Expression) (s : Statement) → Form
    Assume : (e : Expression) → Form

  pub data ElsePart : Type 0 where
    NoElse : ElsePart
    Else : (s : Statement) → ElsePart

  pub data Statements : Type 0 where
    NoStatement : Statements
    AndThen : (s : Statement) (rest : Statements) → Statements

  -- one choice of a `case` statement
  pub data Arm : Type 0 where
    On : (constants : List SynConst) (s : Statement) → Arm

  pub data Arms : Type 0 where
    NoArm : Arms
    Or : (a : Arm) (rest : Arms) → Arms

  -- process statements
  pub data Branches : Type 0 where
    NoBranch : Branches
    Beside : (ss : Statements) (rest : Branches) → Branches

mutual
  -- one declaration; a procedure with an answer is a function
  pub data Part : Type 0 where
    Const : (name : Name) (value : SynConst) → Part
    Kind : (name : Name) (kind : SynKind) → Part
    Var : (names : List Name) (kind : Name) → Part
    Proc : (name : Name) (formals : List SynFormal) (answer : Option Name) (parts : Parts) (body : Statement) → Part

  pub data Parts : Type 0 where
    NoPart : Parts
    Declare : (p : Part) (rest : Parts) → Parts

-- declarations in their order, and a statement part
pub record Block : Type 0 where
  pub parts : Parts
  pub body : Statement

pub record Program : Type 0 where
  pub name : Name
  pub heading : List Name
  pub block : Block
