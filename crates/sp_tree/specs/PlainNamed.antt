-- All of this belongs to what the program promises (docs/promise.txt).
-- The tree with numbers for names in types of specifications: definitions by clauses compute on it, and proofs go by
-- its cases. The rules of types and the contracts of `sp_scope` and `sp_types` speak of it.
use Rattle.std.specs.Prelude.{ℕ, List, Option, Bool}
use Rattle.sp_base.specs.declared.place.Place.{Place}
use Rattle.sp_tree.specs.declared.operators.UnaryOp.{UnaryOp}
use Rattle.sp_tree.specs.declared.operators.BinaryOp.{BinaryOp}
use Rattle.sp_tree.specs.declared.operators.StandardFn.{StandardFn}
use Rattle.sp_tree.specs.declared.meaning.StandardProcedure.{StandardProcedure}
use Rattle.sp_tree.specs.declared.checked.Variable as checked
use Rattle.sp_tree.specs.declared.named.NamedConstant.{NamedConstant}
use Rattle.sp_tree.specs.declared.named.NamedConst.{NamedConst}
use Rattle.sp_tree.specs.declared.named.NamedKind.{NamedKind}
use Rattle.sp_tree.specs.declared.named.NamedAnswer.{NamedAnswer}

mutual
  -- an expression, with the place of its first token
  pub data Expression : Type 0 where
    ExpressionAt : (at : Place) (form : ExpressionForm) → Expression

  pub data ExpressionForm : Type 0 where
    Number : (n : ℕ) → ExpressionForm
    Quoted : (text : List ℕ) → ExpressionForm
    Constant : (k : ℕ) → ExpressionForm
    Read : (v : Variable) → ExpressionForm
    Apply : (f : ℕ) (at : Place) (args : Arguments) → ExpressionForm
    Standard : (f : StandardFn) (args : Arguments) → ExpressionForm
    Unary : (op : UnaryOp) (a : Expression) → ExpressionForm
    Binary : (op : BinaryOp) (a b : Expression) → ExpressionForm

  -- a variable with the place of its name and its selectors
  pub data Variable : Type 0 where
    Entire : (variable : ℕ) (at : Place) (selectors : Selectors) → Variable

  pub data Selector : Type 0 where
    Index : (e : Expression) → Selector
    Field : (name : List ℕ) → Selector

  pub data Selectors : Type 0 where
    Whole : Selectors
    Select : (s : Selector) (rest : Selectors) → Selectors

  -- an argument and its width
  pub data Argument : Type 0 where
    Pass : (value : Expression) (width : Width) → Argument

  pub data Width : Type 0 where
    NoWidth : Width
    WithWidth : (e : Expression) → Width

  pub data Arguments : Type 0 where
    NoArgument : Arguments
    AndArgument : (a : Argument) (rest : Arguments) → Arguments

mutual
  -- a statement, with the place of its first token; of the token after it where it is empty
  pub data Statement : Type 0 where
    Does : (at : Place) (form : Form) → Statement

  pub data Form : Type 0 where
    Empty : Form
    Assign : (v : Variable) (e : Expression) → Form
    Call : (f : ℕ) (args : Arguments) → Form
    Perform : (p : StandardProcedure) (args : Arguments) → Form
    Sequence : (ss : Statements) → Form
    If : (e : Expression) (s : Statement) (other : ElsePart) → Form
    While : (e : Expression) (s : Statement) → Form
    Repeat : (ss : Statements) (e : Expression) → Form
    Case : (e : Expression) (arms : Arms) → Form
    For : (variable : ℕ) (at : Place) (from : Expression) (down : Bool) (to : Expression) (s : Statement) → Form
    Parallel : (branches : Branches) → Form
    Forall : (index : ℕ) (from to : Expression) (s : Statement) → Form
    Assume : (e : Expression) → Form

  pub data ElsePart : Type 0 where
    NoElse : ElsePart
    Else : (s : Statement) → ElsePart

  pub data Statements : Type 0 where
    NoStatement : Statements
    AndThen : (s : Statement) (rest : Statements) → Statements

  -- one choice of a `case` statement
  pub data Arm : Type 0 where
    On : (constants : List NamedConst) (s : Statement) → Arm

  pub data Arms : Type 0 where
    NoArm : Arms
    Or : (a : Arm) (rest : Arms) → Arms

  -- process statements
  pub data Branches : Type 0 where
    NoBranch : Branches
    Beside : (ss : Statements) (rest : Branches) → Branches

pub record Block : Type 0 where
  pub name : List ℕ
  pub parent : Option ℕ
  pub formals : List ℕ
  pub answer : Option NamedAnswer
  pub body : Statement
  pub at : Place

pub record Program : Type 0 where
  pub constants : List NamedConstant
  pub kinds : List NamedKind
  pub variables : List checked.Variable
  pub blocks : List Block
