-- Some of this belongs to what the program promises (docs/promise.txt).
-- Which statements a statement has in it, and that the marks and the code of a part stand beside each other in those of
-- a whole. The laws of this crate promise it of every statement of a program.
use Rattle.std.specs.Prelude.{◌≡◌, ◌⊎◌, ℕ, List, ◌++◌, length}
use Rattle.sp_tree.specs.PlainChecked.{Statement, Does, Form, Sequence, If, While, Repeat, For}
use Rattle.sp_tree.specs.PlainChecked.{Case, Parallel, Forall}
use Rattle.sp_tree.specs.PlainChecked.{ElsePart, NoElse, Else, Statements}
use Rattle.sp_tree.specs.PlainChecked.{NoStatement, AndThen, On, Arms, NoArm, Or}
use Rattle.sp_tree.specs.Plain.{Program}
use Rattle.sp_tree.specs.Bare.{bare_statement}
use Rattle.sp_code.specs.declared.instr.Instr.{Instr}
use Rattle.sp_code.specs.Scopes.{Scope}
use Rattle.sp_code.specs.TreeCode as emitted
use Rattle.sp_lines.specs.declared.mark.Mark.{Mark}
use Rattle.sp_lines.specs.Marks.{statement_marks}

abbrev mutual
  -- the statement u is this one, or in it
  pub IsIn : Statement → Statement → Type 0
  IsIn u (Does n at form) = (u ≡ Does n at form) ⊎ IsInForm u form

  pub IsInForm : Statement → Form → Type 0
  IsInForm u (Sequence ss) = IsInAll u ss
  IsInForm u (If e a other) = IsIn u a ⊎ IsInElse u other
  IsInForm u (While e a) = IsIn u a
  IsInForm u (Repeat a e) = IsIn u a
  IsInForm u (For x name from down to a) = IsIn u a
  IsInForm u (Case e arms) = IsInArms u arms
  IsInForm u (Parallel ss) = IsInAll u ss
  IsInForm u (Forall x from to a) = IsIn u a
  IsInForm _ _ = ⊥

  pub IsInElse : Statement → ElsePart → Type 0
  IsInElse u NoElse = ⊥
  IsInElse u (Else b) = IsIn u b

  pub IsInAll : Statement → Statements → Type 0
  IsInAll u NoStatement = ⊥
  IsInAll u (AndThen a rest) = IsIn u a ⊎ IsInAll u rest

  pub IsInArms : Statement → Arms → Type 0
  IsInArms u NoArm = ⊥
  IsInArms u (Or (On cs a) rest) = IsIn u a ⊎ IsInArms u rest

-- marks and code have in them those of a statement, with as many marks before as instructions
pub record HasBeside (p : Program) (u : Statement) (marks : List Mark) (code : List Instr) : Type 0 where
  -- what its code is made with: the scopes around it, and the numbers of its first fork table, text and instruction
  pub scopes : List Scope
  pub table : ℕ
  pub text : ℕ
  pub place : ℕ
  pub marks_before : List Mark
  pub marks_after : List Mark
  pub code_before : List Instr
  pub code_after : List Instr
  pub its_marks : marks ≡ marks_before ++ (statement_marks p.kinds u ++ marks_after)
  pub its_code : code
      ≡ code_before ++ (emitted.code p scopes table text place (bare_statement u) ++ code_after)
  pub as_many : length marks_before ≡ length code_before
