-- All of this belongs to what the program promises (docs/promise.txt).
-- The lines that a tree has in the text of the sets: one for each process statement of a parallel statement, and one
-- for the element statement of each forall. The contract of the walk promises them.
use Rattle.std.specs.Prelude.{ℕ, suc, List, [], ◌∷◌, ◌++◌, Some, None}
use Rattle.sp_base.specs.declared.place.Place.{Place}
use Rattle.sp_varsets.specs.declared.sets_line.SetsLine.{SetsLine}
use Rattle.sp_tree.specs.PlainChecked.{Statement, Does, Form, Sequence, If, While, Repeat, For}
use Rattle.sp_tree.specs.PlainChecked.{Case, Parallel, Forall}
use Rattle.sp_tree.specs.PlainChecked.{ElsePart, NoElse, Else, Statements, NoStatement}
use Rattle.sp_tree.specs.PlainChecked.{AndThen, On, Arms, NoArm, Or, Block, Program}
use Rattle.sp_varsets.specs.Parts.{number_of}

-- the process statements of a parallel statement at this place, counted from a number on
abbrev pub process_lines : Place → ℕ → Statements → List SetsLine
process_lines at k NoStatement = []
process_lines at k (AndThen s rest) = record { at = at; part = Some k; statement = number_of s }
    ∷ process_lines at (suc k) rest

abbrev mutual
  pub statement_lines : Statement → List SetsLine
  statement_lines (Does n at form) = form_lines at form

  -- what stands in a statement at this place
  pub form_lines : Place → Form → List SetsLine
  form_lines at (Sequence ss) = statements_lines ss
  form_lines at (If e s other) = statement_lines s ++ other_lines other
  form_lines at (While e s) = statement_lines s
  form_lines at (Repeat s e) = statement_lines s
  form_lines at (For x name from down to s) = statement_lines s
  form_lines at (Case e choices) = arms_lines choices
  form_lines at (Parallel ss) = process_lines at 0 ss ++ statements_lines ss
  form_lines at (Forall x from to s) = record { at = at; part = None; statement = number_of s } ∷ statement_lines s
  form_lines _ _ = []

  pub other_lines : ElsePart → List SetsLine
  other_lines NoElse = []
  other_lines (Else s) = statement_lines s

  pub statements_lines : Statements → List SetsLine
  statements_lines NoStatement = []
  statements_lines (AndThen s rest) = statement_lines s ++ statements_lines rest

  pub arms_lines : Arms → List SetsLine
  arms_lines NoArm = []
  arms_lines (Or (On cs s) rest) = statement_lines s ++ arms_lines rest

abbrev pub blocks_lines : List Block → List SetsLine
blocks_lines [] = []
blocks_lines (k ∷ ks) = statement_lines k.body ++ blocks_lines ks

abbrev pub tree_lines : Program → List SetsLine
tree_lines p = blocks_lines p.blocks
