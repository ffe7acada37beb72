-- Some of this belongs to what the program promises (docs/promise.txt).
-- What stands in a statement: the positions of variables, the calls, the forks. The sets, the rules of interference
-- and the facts of code ask it by occurrence, so that each question is one relation on the tree. The index of a
-- `forall` is taken out of what stands in the element statement, not out of what calls carry: a call never carries
-- it.
use Rattle.std.specs.Prelude.{IsSomeAnd}
use Rattle.std.specs.Prelude.{◌≡◌, ◌≢◌, ◌⊎◌, ℕ, Option}
use Rattle.sp_tree.specs.Plain.{Expr, Typed, ExprForm, Number, Read, Unary, Binary, Apply, Standard, AtInput, Var}
use Rattle.sp_tree.specs.Plain.{Entire, Index, Field, Selectors, Whole, Select, ByValue, ByReference, Actuals, Nothing}
use Rattle.sp_tree.specs.Plain.{Pass, Stmt, Empty, Assign, Call, Sequence, If, IfElse, While, Repeat, For, Case}
use Rattle.sp_tree.specs.Plain.{Parallel, Forall, Assume, ReadValue, ReadLine, WriteValue, WriteText, WriteLine, Open}
use Rattle.sp_tree.specs.Plain.{Send, Receive, Stmts, No, And, On, Arms, NoArm, Or}

-- what stands in a statement: a target position of a variable, an expression position of one, a call, a parallel or
-- forall statement, and (Stop) a statement that a function may not have: one that communicates, forks, reads or writes
pub data Use : Type 0 where
  Target : (x : ℕ) → Use
  Seen : (x : ℕ) → Use
  CallOf : (f : ℕ) (args : Actuals) → Use
  ParallelOf : (ss : Stmts) → Use
  ForallOf : (x : ℕ) (s : Stmt) → Use
  Stop : Use

abbrev mutual
  pub In_expr : Expr → Use → Type 0
  In_expr (Typed k form) u = In_form form u

  pub In_form : ExprForm → Use → Type 0
  In_form (Number n) u = ⊥
  In_form (Read v) u = In_read v u
  In_form (Unary op a) u = In_expr a u
  In_form (Binary op a b) u = In_expr a u ⊎ In_expr b u
  In_form (Apply f args) u = (u ≡ CallOf f args) ⊎ In_actuals args u
  In_form (Standard f a) u = In_expr a u
  In_form (AtInput f) u = u ≡ Seen 0

  pub In_read : Var → Use → Type 0
  In_read (Entire x ss) u = (u ≡ Seen x) ⊎ In_selectors ss u

  pub In_target : Var → Use → Type 0
  In_target (Entire x ss) u = (u ≡ Target x) ⊎ In_selectors ss u

  pub In_selectors : Selectors → Use → Type 0
  In_selectors Whole u = ⊥
  In_selectors (Select (Index e) rest) u = In_expr e u ⊎ In_selectors rest u
  In_selectors (Select (Field f) rest) u = In_selectors rest u

  pub In_actuals : Actuals → Use → Type 0
  In_actuals Nothing u = ⊥
  In_actuals (Pass (ByValue e) rest) u = In_expr e u ⊎ In_actuals rest u
  In_actuals (Pass (ByReference v) rest) u = In_target v u ⊎ In_actuals rest u

-- of a call
abbrev pub In_call : ℕ → Actuals → Use → Type 0
In_call f args u = (u ≡ CallOf f args) ⊎ In_actuals args u

abbrev pub In_width : Option Expr → Use → Type 0
In_width e u = IsSomeAnd e (λ e. In_expr e u)

-- it is not a position of this forall's index
abbrev pub IsOther : ℕ → Use → Type 0
IsOther x (Target y) = x ≢ y
IsOther x (Seen y) = x ≢ y
IsOther _ _ = Unit

abbrev mutual
  pub In_stmt : Stmt → Use → Type 0
  In_stmt Empty u = ⊥
  In_stmt (Assign v e) u = In_target v u ⊎ In_expr e u
  In_stmt (Call f args) u = In_call f args u
  In_stmt (Sequence ss) u = In_stmts ss u
  In_stmt (If e a) u = In_expr e u ⊎ In_stmt a u
  In_stmt (IfElse e a b) u = In_expr e u ⊎ (In_stmt a u ⊎ In_stmt b u)
  In_stmt (While e s) u = In_expr e u ⊎ In_stmt s u
  In_stmt (Repeat s e) u = In_expr e u ⊎ In_stmt s u
  In_stmt (For x from down to s) u = (u ≡ Target x) ⊎ (In_expr from u ⊎ (In_expr to u ⊎ In_stmt s u))
  In_stmt (Case e arms) u = In_expr e u ⊎ In_arms arms u
  In_stmt (Parallel ss) u = (u ≡ ParallelOf ss) ⊎ (In_stmts ss u ⊎ (u ≡ Stop))
  In_stmt (Forall x from to s) u = (u ≡ ForallOf x s)
      ⊎ (In_expr from u ⊎ (In_expr to u ⊎ ((In_stmt s u × IsOther x u) ⊎ (u ≡ Stop))))
  In_stmt (Assume e) u = In_expr e u
  In_stmt (ReadValue v) u = (u ≡ Target 0) ⊎ (In_target v u ⊎ (u ≡ Stop))
  In_stmt ReadLine u = (u ≡ Target 0) ⊎ (u ≡ Stop)
  In_stmt (WriteValue e w) u = (u ≡ Target 1) ⊎ (In_expr e u ⊎ (In_width w u ⊎ (u ≡ Stop)))
  In_stmt (WriteText t w) u = (u ≡ Target 1) ⊎ (In_width w u ⊎ (u ≡ Stop))
  In_stmt WriteLine u = (u ≡ Target 1) ⊎ (u ≡ Stop)
  In_stmt (Open v) u = In_target v u ⊎ (u ≡ Stop)
  In_stmt (Send c e) u = In_expr c u ⊎ (In_expr e u ⊎ (u ≡ Stop))
  In_stmt (Receive c v) u = In_expr c u ⊎ (In_target v u ⊎ (u ≡ Stop))

  pub In_stmts : Stmts → Use → Type 0
  In_stmts No u = ⊥
  In_stmts (And s rest) u = In_stmt s u ⊎ In_stmts rest u

  pub In_arms : Arms → Use → Type 0
  In_arms NoArm u = ⊥
  In_arms (Or (On ms s) rest) u = In_stmt s u ⊎ In_arms rest u

-- of a for loop, once its limits are known
abbrev pub In_loop : ℕ → Stmt → Use → Type 0
In_loop x s u = (u ≡ Target x) ⊎ In_stmt s u
