-- All of this belongs to what the program promises (docs/promise.txt).
-- Where the code of each part of a tree ends, from where it begins, and so the length of a tree. Jumps, fork tables and
-- the limit of code are said by it, here and in the generator's contracts.
use Rattle.std.specs.Option.{option_map_or}
use Rattle.std.specs.Prelude.{ℕ, ◌+◌, ℤ, List, [], ◌∷◌, Option}
use Rattle.sp_tree.specs.declared.operators.UnaryOp.{UnaryOp}
use Rattle.sp_tree.specs.declared.operators.UnaryOp.TheVariants as unary
use Rattle.sp_tree.specs.declared.operators.StandardFn.{StandardFn}
use Rattle.sp_tree.specs.declared.operators.StandardFn.TheVariants as standard
use Rattle.sp_tree.specs.Plain.{Expr, Typed, ExprForm, Number, Read, Unary, Binary, Apply, Standard, AtInput, Var}
use Rattle.sp_tree.specs.Plain.{Entire, Index, Field, Selectors, Whole, Select, ByValue, ByReference, Actuals, Nothing}
use Rattle.sp_tree.specs.Plain.{Pass, Program, Block, Stmt, Empty, Assign, Call, Sequence, If, IfElse, While, Repeat}
use Rattle.sp_tree.specs.Plain.{For, Case, Parallel, Forall, Assume, ReadValue, ReadLine, WriteValue, WriteText}
use Rattle.sp_tree.specs.Plain.{WriteLine, Open, Send, Receive, Stmts, No, And, On, Arms, NoArm, Or}
use Rattle.sp_code.specs.Scopes.{Sort, Many, sort}

-- the place behind the code of a part that stands at q

abbrev pub after_unary : UnaryOp → ℕ → ℕ
after_unary unary.Plus q = q
after_unary _ q = q + 1

abbrev pub after_standard : StandardFn → ℕ → ℕ
after_standard standard.Ord q = q
after_standard standard.Eof q = q
after_standard standard.Eoln q = q
after_standard _ q = q + 1

abbrev mutual
  -- an expression is its operands in order and then its operator
  pub after_value : ℕ → Expr → ℕ
  after_value q (Typed k form) = after_form q form

  pub after_form : ℕ → ExprForm → ℕ
  after_form q (Number n) = q + 1
  after_form q (Read v) = after_var q v + 1
  after_form q (Unary op a) = after_unary op (after_value q a)
  after_form q (Binary op a b) = after_value (after_value q a) b + 1
  after_form q (Apply f args) = after_actuals q args + 1
  after_form q (Standard f a) = after_standard f (after_value q a)
  after_form q (AtInput f) = q + 1

  -- the address of a variable
  pub after_var : ℕ → Var → ℕ
  after_var q (Entire x ss) = after_selectors (q + 1) ss

  pub after_selectors : ℕ → Selectors → ℕ
  after_selectors q Whole = q
  after_selectors q (Select (Index e) rest) = after_selectors (after_value q e + 1) rest
  after_selectors q (Select (Field f) rest) = after_selectors (q + 1) rest

  pub after_actuals : ℕ → Actuals → ℕ
  after_actuals q Nothing = q
  after_actuals q (Pass (ByValue e) rest) = after_actuals (after_value q e) rest
  after_actuals q (Pass (ByReference v) rest) = after_actuals (after_var q v) rest

abbrev pub after_width : ℕ → Option Expr → ℕ
after_width q e = option_map_or (after_value q) e q

-- the right side of an assignment: of an array or record it is an address alone
abbrev pub after_right : ℕ → Sort → ExprForm → ℕ
after_right q Many (Read v) = after_var q v
after_right q _ form = after_form q form

-- a test for each constant of a case
abbrev pub after_test : ℕ → List ℤ → ℕ
after_test q [] = q
after_test q (m ∷ ms) = after_test (q + 1) ms

-- behind the tests of a `case`
abbrev pub after_tests : ℕ → Arms → ℕ
after_tests q NoArm = q
after_tests q (Or (On ms s) rest) = after_tests (after_test q ms) rest

module _ (p : Program) where
  abbrev mutual
    pub after_statement : ℕ → Stmt → ℕ
    after_statement q Empty = q
    after_statement q (Assign v (Typed k form)) = after_right (after_var q v) (sort p k) form + 1
    after_statement q (Call f args) = after_actuals q args + 1
    after_statement q (Sequence ss) = after_all q ss
    after_statement q (If e a) = after_statement (after_value q e + 1) a
    after_statement q (IfElse e a b) = after_statement (after_statement (after_value q e + 1) a + 1) b
    after_statement q (While e s) = after_statement (after_value q e + 1 + 1) s + 1
    after_statement q (Repeat s e) = after_value (after_statement (q + 1) s) e + 1
    after_statement q (For x from down to s) = after_statement (after_value (after_value q from) to + 1 + 1) s + 1
    after_statement q (Case e arms) = after_arms (after_tests (after_value q e) arms + 1) arms
    after_statement q (Parallel ss) = after_children (q + 1 + 1) ss
    after_statement q (Forall x from to s) = after_statement (after_value (after_value q from) to + 1 + 1) s + 1
    after_statement q (Assume e) = after_value q e + 1
    after_statement q (ReadValue v) = after_var q v + 1
    after_statement q ReadLine = q + 1
    after_statement q (WriteValue e w) = after_width (after_value q e) w + 1
    after_statement q (WriteText t w) = after_width q w + 1
    after_statement q WriteLine = q + 1
    after_statement q (Open v) = after_var q v + 1
    after_statement q (Send c e) = after_value (after_value q c) e + 1
    after_statement q (Receive c v) = after_var (after_value q c) v + 1

    pub after_all : ℕ → Stmts → ℕ
    after_all q No = q
    after_all q (And s rest) = after_all (after_statement q s) rest

    -- an `end` behind each child
    pub after_children : ℕ → Stmts → ℕ
    after_children q No = q
    after_children q (And s rest) = after_children (after_statement q s + 1) rest

    -- a `jump` behind each arm
    pub after_arms : ℕ → Arms → ℕ
    after_arms q NoArm = q
    after_arms q (Or (On ms s) rest) = after_arms (after_statement q s + 1) rest

  -- behind a block: its `return` or `end`
  abbrev pub after_block : ℕ → Block → ℕ
  after_block q b = after_statement q b.body + 1

  -- behind all blocks
  abbrev pub after_blocks : ℕ → List Block → ℕ
  after_blocks q [] = q
  after_blocks q (k ∷ ks) = after_blocks (after_block q k) ks

  -- the length of a tree, which the limit of code is said by: where its code ends
  abbrev pub tree_length : ℕ
  tree_length = after_blocks 0 p.blocks
