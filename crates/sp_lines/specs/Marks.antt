-- All of this belongs to what the program promises (docs/promise.txt).
-- Where each instruction of the code of a tree stands in the text. Clause by clause it is the definition of the code
-- (`Emitted` of `sp_code`), with a mark instead of each instruction: so the two lists go side by side.
use Rattle.std.specs.Option.{option_map_or}
use Rattle.std.specs.Prelude.{ℤ, List, [], ◌∷◌, ◌++◌, Option, Some, Bool, true, false, slice_get}
use Rattle.sp_base.specs.declared.place.Place.{Place}
use Rattle.sp_tree.specs.declared.checked.KindOf.{KindOf}
use Rattle.sp_tree.specs.declared.checked.KindOf.TheVariants as kind
use Rattle.sp_tree.specs.declared.operators.UnaryOp.{UnaryOp}
use Rattle.sp_tree.specs.declared.operators.UnaryOp.TheVariants as unary
use Rattle.sp_tree.specs.declared.operators.StandardFn.{StandardFn}
use Rattle.sp_tree.specs.declared.operators.StandardFn.TheVariants as standard
use Rattle.sp_tree.specs.PlainChecked.{Expression, ExpressionAt, ExpressionForm, Number, Read, Unary, Binary, Apply}
use Rattle.sp_tree.specs.PlainChecked.{Standard, Variable, Entire, Selector, Index, Field, Selectors, Whole, Select}
use Rattle.sp_tree.specs.PlainChecked.{Actual, ByValue, ByReference, Actuals, Nothing, Pass, NoExpression}
use Rattle.sp_tree.specs.PlainChecked.{AndExpression, Statement, Does, Form, Empty, Assign, Call, Sequence, If, While}
use Rattle.sp_tree.specs.PlainChecked.{Repeat, For, Case, Parallel, Forall, Assume, ReadValue, ReadLine, WriteValue}
use Rattle.sp_tree.specs.PlainChecked.{WriteText, WriteLine, Open, Send, Receive, ElsePart, NoElse, Else, Statements}
use Rattle.sp_tree.specs.PlainChecked.{NoStatement, AndThen, Arm, On, Arms, NoArm, Or, Block, Program}
use Rattle.sp_lines.specs.declared.mark.Mark.{Mark}

-- an instruction of the statement that begins at s, and of its part that begins at a
abbrev pub mark : (s a : Place) → Mark
mark s a = record { statement = s; part = a }

-- the part that the statement is itself
abbrev pub own : Place → Mark
own s = mark s s

-- a sign and a standard function have at most one instruction, like their code
abbrev pub unary_marks : Mark → UnaryOp → List Mark
unary_marks m unary.Plus = []
unary_marks m _ = m ∷ []

abbrev pub standard_marks : Mark → StandardFn → List Mark
standard_marks m standard.Ord = []
standard_marks m standard.Eof = []
standard_marks m standard.Eoln = []
standard_marks m _ = m ∷ []

-- where an expression begins
abbrev pub begins : Expression → Place
begins (ExpressionAt at k form) = at

-- values of the type are many cells: an assignment of one has the address alone of the variable on its right
abbrev pub is_many : Option KindOf → Bool
is_many (Some (kind.Array low high index element)) = true
is_many (Some (kind.Fields fs)) = true
is_many _ = false

-- the parts of the statement that begins at s
abbrev mutual
  -- an expression: its operands in order, and then its operator, at the place where the expression begins
  pub value_marks : Place → Expression → List Mark
  value_marks s (ExpressionAt at k form) = form_marks s at form

  pub form_marks : (s at : Place) → ExpressionForm → List Mark
  form_marks s at (Number n) = mark s at ∷ []
  form_marks s at (Read v) = variable_marks s v ++ mark s at ∷ []
  form_marks s at (Unary op a) = value_marks s a ++ unary_marks (mark s at) op
  form_marks s at (Binary op a b) = value_marks s a ++ (value_marks s b ++ mark s at ∷ [])
  form_marks s at (Apply f name args) = actuals_marks s args ++ mark s name ∷ []
  form_marks s at (Standard f NoExpression) = mark s at ∷ []
  form_marks s at (Standard f (AndExpression a rest)) = value_marks s a ++ standard_marks (mark s at) f

  -- the address of a variable with its selectors: an index has the place where it begins, a field that of the variable
  pub variable_marks : Place → Variable → List Mark
  variable_marks s (Entire x at ss) = mark s at ∷ selectors_marks s at ss

  pub selectors_marks : (s at : Place) → Selectors → List Mark
  selectors_marks s at Whole = []
  selectors_marks s at (Select a rest) = selector_marks s at a ++ selectors_marks s at rest

  pub selector_marks : (s at : Place) → Selector → List Mark
  selector_marks s at (Index e) = value_marks s e ++ mark s (begins e) ∷ []
  selector_marks s at (Field f) = mark s at ∷ []

  pub actuals_marks : Place → Actuals → List Mark
  actuals_marks s Nothing = []
  actuals_marks s (Pass a rest) = actual_marks s a ++ actuals_marks s rest

  pub actual_marks : Place → Actual → List Mark
  actual_marks s (ByValue e) = value_marks s e
  actual_marks s (ByReference v) = variable_marks s v

abbrev pub width_marks : Place → Option Expression → List Mark
width_marks s e = option_map_or (value_marks s) e []

-- the right side of an assignment, by whether its values are many cells
abbrev pub right_form_marks : (many : Bool) → (s at : Place) → ExpressionForm → List Mark
right_form_marks true s at (Read v) = variable_marks s v
right_form_marks _ s at form = form_marks s at form

-- a test for each constant of a `case`
abbrev pub test_marks : Mark → List ℤ → List Mark
test_marks m [] = []
test_marks m (c ∷ cs) = m ∷ test_marks m cs

abbrev pub tests_marks : Mark → Arms → List Mark
tests_marks m NoArm = []
tests_marks m (Or (On cs s) rest) = test_marks m cs ++ tests_marks m rest

-- kinds: the types of the program
module _ (kinds : List KindOf) where
  abbrev pub right_marks : Place → Expression → List Mark
  right_marks s (ExpressionAt at k form) = right_form_marks (is_many (slice_get kinds k)) s at form

  abbrev mutual
    -- a statement: its own instructions have its place alone, those of its expressions theirs besides
    pub statement_marks : Statement → List Mark
    statement_marks (Does n at form) = made_marks at form

    pub made_marks : Place → Form → List Mark
    made_marks s Empty = []
    made_marks s (Assign v e) = variable_marks s v ++ (right_marks s e ++ own s ∷ [])
    made_marks s (Call f args) = actuals_marks s args ++ own s ∷ []
    made_marks s (Sequence ss) = all_marks ss
    made_marks s (If e a other) = value_marks s e ++ (own s ∷ (statement_marks a ++ else_marks s other))
    made_marks s (While e a) = value_marks s e ++ (own s ∷ own s ∷ (statement_marks a ++ own s ∷ []))
    made_marks s (Repeat a e) = own s ∷ (statement_marks a ++ (value_marks s e ++ own s ∷ []))
    made_marks s (For x name from down to a) =
        value_marks s from ++ (value_marks s to ++ (own s ∷ own s ∷ (statement_marks a ++ own s ∷ [])))
    made_marks s (Case e arms) = value_marks s e ++ (tests_marks (own s) arms ++ (own s ∷ arms_marks s arms))
    made_marks s (Parallel ss) = own s ∷ own s ∷ children_marks ss
    made_marks s (Forall x from to a) =
        value_marks s from ++ (value_marks s to ++ (own s ∷ own s ∷ child_marks a))
    made_marks s (Assume e) = value_marks s e ++ own s ∷ []
    made_marks s (ReadValue v) = variable_marks s v ++ own s ∷ []
    made_marks s ReadLine = own s ∷ []
    made_marks s (WriteValue e w) = value_marks s e ++ (width_marks s w ++ own s ∷ [])
    made_marks s (WriteText t w) = width_marks s w ++ own s ∷ []
    made_marks s WriteLine = own s ∷ []
    made_marks s (Open v) = variable_marks s v ++ own s ∷ []
    made_marks s (Send c e) = value_marks s c ++ (value_marks s e ++ own s ∷ [])
    made_marks s (Receive c v) = value_marks s c ++ (variable_marks s v ++ own s ∷ [])

    -- after the first statement of an `if`: with an `else` the jump over the second one
    pub else_marks : Place → ElsePart → List Mark
    else_marks s NoElse = []
    else_marks s (Else b) = own s ∷ statement_marks b

    pub all_marks : Statements → List Mark
    all_marks NoStatement = []
    all_marks (AndThen a rest) = statement_marks a ++ all_marks rest

    -- a process statement: its `end` has its place
    pub child_marks : Statement → List Mark
    child_marks (Does n at form) = made_marks at form ++ own at ∷ []

    pub children_marks : Statements → List Mark
    children_marks NoStatement = []
    children_marks (AndThen a rest) = child_marks a ++ children_marks rest

    -- a choice of a `case`, with the jump after it
    pub arm_marks : Place → Arm → List Mark
    arm_marks s (On cs a) = statement_marks a ++ own s ∷ []

    pub arms_marks : Place → Arms → List Mark
    arms_marks s NoArm = []
    arms_marks s (Or a rest) = arm_marks s a ++ arms_marks s rest

  -- a block: its `end` or `return` has the place of its heading's name
  abbrev pub block_marks : Block → List Mark
  block_marks b = statement_marks b.body ++ own b.at ∷ []

  abbrev pub blocks_marks : List Block → List Mark
  blocks_marks [] = []
  blocks_marks (b ∷ bs) = block_marks b ++ blocks_marks bs

-- the marks of a program: one for each instruction of its code
abbrev pub marks : Program → List Mark
marks p = blocks_marks p.kinds p.blocks
