-- All of this belongs to what the program promises (docs/promise.txt).
-- The tree without places, in types of specifications: definitions by clauses compute on it, and proofs go by its
-- cases. The meaning, the sets, the code and all their contracts speak of it.
use Rattle.std.specs.Prelude.{ℕ, ℤ, List, Option, Bool}
use Rattle.sp_tree.specs.declared.operators.UnaryOp.{UnaryOp}
use Rattle.sp_tree.specs.declared.operators.BinaryOp.{BinaryOp}
use Rattle.sp_tree.specs.declared.operators.StandardFn.{StandardFn}
use Rattle.sp_tree.specs.declared.checked.KindOf.{KindOf}
use Rattle.sp_tree.specs.declared.checked.Role.{Role}

mutual
  -- an expression and the number of its type
  pub data Expr : Type 0 where
    Typed : (kind : ℕ) (form : ExprForm) → Expr

  pub data ExprForm : Type 0 where
    Number : (n : ℤ) → ExprForm
    Read : (v : Var) → ExprForm
    Unary : (op : UnaryOp) (a : Expr) → ExprForm
    Binary : (op : BinaryOp) (a b : Expr) → ExprForm
    Apply : (f : ℕ) (args : Actuals) → ExprForm
    Standard : (f : StandardFn) (a : Expr) → ExprForm
    AtInput : (f : StandardFn) → ExprForm

  pub data Var : Type 0 where
    Entire : (variable : ℕ) (selectors : Selectors) → Var

  pub data Selector : Type 0 where
    Index : (e : Expr) → Selector
    Field : (f : ℕ) → Selector

  pub data Selectors : Type 0 where
    Whole : Selectors
    Select : (s : Selector) (rest : Selectors) → Selectors

  pub data Actual : Type 0 where
    ByValue : (e : Expr) → Actual
    ByReference : (v : Var) → Actual

  pub data Actuals : Type 0 where
    Nothing : Actuals
    Pass : (a : Actual) (rest : Actuals) → Actuals

mutual
  pub data Stmt : Type 0 where
    Empty : Stmt
    Assign : (v : Var) (e : Expr) → Stmt
    Call : (f : ℕ) (args : Actuals) → Stmt
    Sequence : (ss : Stmts) → Stmt
    If : (e : Expr) (a : Stmt) → Stmt
    IfElse : (e : Expr) (a b : Stmt) → Stmt
    While : (e : Expr) (s : Stmt) → Stmt
    Repeat : (s : Stmt) (e : Expr) → Stmt
    For : (x : ℕ) (from : Expr) (down : Bool) (to : Expr) (s : Stmt) → Stmt
    Case : (e : Expr) (arms : Arms) → Stmt
    Parallel : (ss : Stmts) → Stmt
    Forall : (x : ℕ) (from to : Expr) (s : Stmt) → Stmt
    Assume : (e : Expr) → Stmt
    ReadValue : (v : Var) → Stmt
    ReadLine : Stmt
    WriteValue : (e : Expr) (width : Option Expr) → Stmt
    WriteText : (t : List ℕ) (width : Option Expr) → Stmt
    WriteLine : Stmt
    Open : (v : Var) → Stmt
    Send : (c e : Expr) → Stmt
    Receive : (c : Expr) (v : Var) → Stmt

  pub data Stmts : Type 0 where
    No : Stmts
    And : (s : Stmt) (rest : Stmts) → Stmts

  pub data Arm : Type 0 where
    On : (constants : List ℤ) (s : Stmt) → Arm

  pub data Arms : Type 0 where
    NoArm : Arms
    Or : (a : Arm) (rest : Arms) → Arms

pub record Variable : Type 0 where
  pub kind : ℕ
  pub block : ℕ
  pub role : Role

pub record Block : Type 0 where
  pub parent : Option ℕ
  pub formals : List ℕ
  pub answer : Option ℕ
  pub body : Stmt

pub record Program : Type 0 where
  pub kinds : List KindOf
  pub variables : List Variable
  pub blocks : List Block
