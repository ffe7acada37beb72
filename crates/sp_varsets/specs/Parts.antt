-- All of this belongs to what the program promises (docs/promise.txt).
-- The statements that stand in a statement, itself among them. Each of them has sets of its own, by its number; the
-- contracts on sets say by it which ones are meant.
use Rattle.std.specs.Prelude.{◌≡◌, ◌⊎◌, ℕ}
use Rattle.sp_tree.specs.PlainChecked.{Statement, Does, Form, Sequence, If, While, Repeat, For, Case, Parallel, Forall}
use Rattle.sp_tree.specs.PlainChecked.{ElsePart, NoElse, Else, Statements, NoStatement, AndThen, On, Arms, NoArm, Or}

-- the number of a statement
abbrev pub number_of : Statement → ℕ
number_of (Does n at form) = n

abbrev mutual
  -- the first is the second, or stands in it
  pub IsPart : Statement → Statement → Type 0
  IsPart t (Does n at form) = (t ≡ Does n at form) ⊎ IsInForm t form

  pub IsInForm : Statement → Form → Type 0
  IsInForm t (Sequence ss) = IsInStatements t ss
  IsInForm t (If e s o) = IsPart t s ⊎ IsInOther t o
  IsInForm t (While e s) = IsPart t s
  IsInForm t (Repeat s e) = IsPart t s
  IsInForm t (For x at from down to s) = IsPart t s
  IsInForm t (Case e choices) = IsInArms t choices
  IsInForm t (Parallel ss) = IsInStatements t ss
  IsInForm t (Forall x from to s) = IsPart t s
  IsInForm t form = ⊥

  pub IsInOther : Statement → ElsePart → Type 0
  IsInOther t NoElse = ⊥
  IsInOther t (Else s) = IsPart t s

  pub IsInStatements : Statement → Statements → Type 0
  IsInStatements t NoStatement = ⊥
  IsInStatements t (AndThen s rest) = IsPart t s ⊎ IsInStatements t rest

  pub IsInArms : Statement → Arms → Type 0
  IsInArms t NoArm = ⊥
  IsInArms t (Or (On cs s) rest) = IsPart t s ⊎ IsInArms t rest
