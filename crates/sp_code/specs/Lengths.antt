-- None of this belongs to what the program promises: it is for contracts between crates.
-- How many instructions the code of each part of a tree has: the table of lengths. Laws promise that code as it is
-- written has these lengths, so a tree too large is refused before code is made.
use Rattle.std.specs.Option.{option_map_or}
use Rattle.std.specs.Prelude.{ℕ, ◌+◌, List, [], ◌∷◌, Option, length}
use Rattle.sp_tree.specs.declared.operators.UnaryOp.{UnaryOp}
use Rattle.sp_tree.specs.declared.operators.UnaryOp.TheVariants as unary
use Rattle.sp_tree.specs.declared.operators.StandardFn.{StandardFn}
use Rattle.sp_tree.specs.declared.operators.StandardFn.TheVariants as standard
use Rattle.sp_tree.specs.Plain.{Expr, Typed, ExprForm, Number, Read, Unary, Binary, Apply, Standard, AtInput, Var}
use Rattle.sp_tree.specs.Plain.{Entire, Index, Field, Selectors, Whole, Select, ByValue, ByReference, Actuals, Nothing}
use Rattle.sp_tree.specs.Plain.{Pass, Program, Block, Stmt, Empty, Assign, Call, Sequence, If, IfElse, While, Repeat}
use Rattle.sp_tree.specs.Plain.{For, Case, Parallel, Forall, Assume, ReadValue, ReadLine, WriteValue, WriteText}
use Rattle.sp_tree.specs.Plain.{WriteLine, Open, Send, Receive, Stmts, No, And, On, Arms, NoArm, Or}
use Rattle.sp_code.specs.Scopes.{Sort, Many, sort}

-- a sign `+`: 0; every other operator: 1
abbrev pub unary_length : UnaryOp → ℕ
unary_length unary.Plus = 0
unary_length _ = 1

-- `ord`: 0; every other standard function of an operand: 1
abbrev pub standard_length : StandardFn → ℕ
standard_length standard.Ord = 0
standard_length standard.Eof = 0
standard_length standard.Eoln = 0
standard_length _ = 1

abbrev mutual
  pub value_length : Expr → ℕ
  value_length (Typed k form) = form_length form

  -- a number, a constant, a text of length 1: 1; a variable read: 1 beside its address; a call: 1; `eof`, `eoln`: 1
  pub form_length : ExprForm → ℕ
  form_length (Number n) = 1
  form_length (Read v) = var_length v + 1
  form_length (Unary op a) = value_length a + unary_length op
  form_length (Binary op a b) = value_length a + value_length b + 1
  form_length (Apply f args) = actuals_length args + 1
  form_length (Standard f a) = value_length a + standard_length f
  form_length (AtInput f) = 1

  -- the address of a variable: 1, and 1 for each index or field
  pub var_length : Var → ℕ
  var_length (Entire x ss) = selectors_length ss + 1

  pub selectors_length : Selectors → ℕ
  selectors_length Whole = 0
  selectors_length (Select (Index e) rest) = value_length e + 1 + selectors_length rest
  selectors_length (Select (Field f) rest) = 1 + selectors_length rest

  pub actuals_length : Actuals → ℕ
  actuals_length Nothing = 0
  actuals_length (Pass (ByValue e) rest) = value_length e + actuals_length rest
  actuals_length (Pass (ByReference v) rest) = var_length v + actuals_length rest

abbrev pub width_length : Option Expr → ℕ
width_length e = option_map_or value_length e 0

-- a variable read as the right side of an assignment of an array or record: its address alone
abbrev pub right_length : Sort → ExprForm → ℕ
right_length Many (Read v) = var_length v
right_length _ form = form_length form

-- 1 for each constant of a case
abbrev pub tests_length : Arms → ℕ
tests_length NoArm = 0
tests_length (Or (On ms s) rest) = length ms + tests_length rest

module _ (p : Program) where
  abbrev mutual
    -- the empty statement and a sequence: 0; assignment, call, assume, read, write, open, send, receive: 1; `if`: 1,
    -- with `else`: 2; `while`: 3; `repeat`: 2; `for`: 3; `case`: 1, and 1 for each constant and for each arm;
    -- `parallel`: 2, and 1 for each child;
    -- `forall`: 3
    pub stmt_length : Stmt → ℕ
    stmt_length Empty = 0
    stmt_length (Assign v (Typed k form)) = var_length v + right_length (sort p k) form + 1
    stmt_length (Call f args) = actuals_length args + 1
    stmt_length (Sequence ss) = all_length ss
    stmt_length (If e a) = value_length e + stmt_length a + 1
    stmt_length (IfElse e a b) = value_length e + stmt_length a + stmt_length b + 2
    stmt_length (While e s) = value_length e + stmt_length s + 3
    stmt_length (Repeat s e) = stmt_length s + value_length e + 2
    stmt_length (For x from down to s) = value_length from + value_length to + stmt_length s + 3
    stmt_length (Case e arms) = value_length e + tests_length arms + arms_length arms + 1
    stmt_length (Parallel ss) = children_length ss + 2
    stmt_length (Forall x from to s) = value_length from + value_length to + stmt_length s + 3
    stmt_length (Assume e) = value_length e + 1
    stmt_length (ReadValue v) = var_length v + 1
    stmt_length ReadLine = 1
    stmt_length (WriteValue e w) = value_length e + width_length w + 1
    stmt_length (WriteText t w) = width_length w + 1
    stmt_length WriteLine = 1
    stmt_length (Open v) = var_length v + 1
    stmt_length (Send c e) = value_length c + value_length e + 1
    stmt_length (Receive c v) = value_length c + var_length v + 1

    pub all_length : Stmts → ℕ
    all_length No = 0
    all_length (And s rest) = stmt_length s + all_length rest

    pub children_length : Stmts → ℕ
    children_length No = 0
    children_length (And s rest) = stmt_length s + 1 + children_length rest

    pub arms_length : Arms → ℕ
    arms_length NoArm = 0
    arms_length (Or (On ms s) rest) = stmt_length s + 1 + arms_length rest

  -- a block: 1
  abbrev pub blocks_length : List Block → ℕ
  blocks_length [] = 0
  blocks_length (b ∷ bs) = stmt_length b.body + 1 + blocks_length bs
