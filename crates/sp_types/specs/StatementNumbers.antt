-- None of this belongs to what the program promises: it is for contracts between crates.
-- The numbers of the statements of a checked tree, in the order of its blocks, and what it is that no two are the
-- same. A law of this crate promises it, since sets and lengths are kept by these numbers.
use Rattle.std.specs.Prelude.{ℕ, ℤ, pos, false, codes, List, [], ◌∷◌, ◌++◌, ◌≢◌, Some, None}
use Rattle.sp_base.specs.declared.place.Place.{Place}
use Rattle.sp_tree.specs.PlainChecked.{Expression, ExpressionAt, Number, Read, Entire, Whole, Nothing, Statement, Does}
use Rattle.sp_tree.specs.PlainChecked.{Form}
use Rattle.sp_tree.specs.PlainChecked.{Empty, Call, Send, Sequence, If, While, Repeat, For, Case, Parallel, Forall}
use Rattle.sp_tree.specs.PlainChecked.{ElsePart, NoElse, Else, Statements, NoStatement, AndThen, On, Arms, NoArm, Or}
use Rattle.sp_tree.specs.PlainChecked.{Block}
use Rattle.sp_tree.specs.PlainNamed as n
use Rattle.sp_types.specs.TypeWalk.{statement_place}

-- the number of a statement, and of those inside it
abbrev mutual
  pub statement_numbers : Statement → List ℕ
  statement_numbers (Does k at form) = k ∷ form_numbers form

  pub form_numbers : Form → List ℕ
  form_numbers (Sequence ss) = statements_numbers ss
  form_numbers (If e s o) = statement_numbers s ++ other_numbers o
  form_numbers (While e s) = statement_numbers s
  form_numbers (Repeat s e) = statement_numbers s
  form_numbers (For x at from down to s) = statement_numbers s
  form_numbers (Case e choices) = arms_numbers choices
  form_numbers (Parallel ss) = statements_numbers ss
  form_numbers (Forall x from to s) = statement_numbers s
  form_numbers form = []

  pub other_numbers : ElsePart → List ℕ
  other_numbers NoElse = []
  other_numbers (Else s) = statement_numbers s

  pub statements_numbers : Statements → List ℕ
  statements_numbers NoStatement = []
  statements_numbers (AndThen s rest) = statement_numbers s ++ statements_numbers rest

  pub arms_numbers : Arms → List ℕ
  arms_numbers NoArm = []
  arms_numbers (Or (On cs s) rest) = statement_numbers s ++ arms_numbers rest

-- of all blocks
abbrev pub blocks_numbers : List Block → List ℕ
blocks_numbers [] = []
blocks_numbers (b ∷ bs) = statement_numbers b.body ++ blocks_numbers bs

-- the places of the statement parts of blocks
abbrev pub body_places : List n.Block → List Place
body_places [] = []
body_places (b ∷ bs) = statement_place b.body ∷ body_places bs

-- each of these differs from the first
abbrev pub DiffersFrom : {A : Type 0} → A → List A → Type 0
DiffersFrom x [] = Unit {0}
DiffersFrom x (y ∷ ys) = (x ≢ y) × DiffersFrom x ys

-- no two are the same
abbrev pub AllDiffer : {A : Type 0} → List A → Type 0
AllDiffer [] = Unit {0}
AllDiffer (x ∷ xs) = DiffersFrom x xs × AllDiffer xs

-- a small tree: a program of `if 1 then for x := 1 to 2 do p else ;` and its procedure p of `send(c, 1, 2)`
abbrev somewhere : Place
somewhere = record { line = 1; column = 1 }

abbrev number : ℤ → Expression
number k = ExpressionAt somewhere 0 (Number k)

abbrev channel : Expression
channel = ExpressionAt somewhere 3 (Read (Entire 3 somewhere Whole))

abbrev own_body : Statement
own_body = Does 3 somewhere (Sequence (AndThen
    (Does 4 somewhere (If (number (pos 1)) (Does 5 somewhere
    (For 2 somewhere (number (pos 1)) false (number (pos 2)) (Does 6 somewhere (Call 1 Nothing))))
    (Else (Does 7 somewhere Empty))))
    NoStatement))

abbrev procedure_body : Statement
procedure_body = Does 0 somewhere (Sequence (AndThen
    (Does 1 somewhere (Send channel (number (pos 1)))) (AndThen
    (Does 2 somewhere (Send channel (number (pos 2))))
    NoStatement)))

abbrev pub two_blocks : List Block
two_blocks =
    record { name = codes "g"; parent = None; formals = []; answer = None; body = own_body; at = somewhere } ∷
    record { name = codes "p"; parent = Some 0; formals = []; answer = None; body = procedure_body; at = somewhere }
    ∷ []
