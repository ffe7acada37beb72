-- None of this belongs to what the program promises: it is for contracts between crates.
-- The plain trees of parts that stand in no tree yet: lists and options, which sp_tree leads to plain trees only inside
-- the part that holds them. The readers' contracts take them to say what an answer stands for. A list that is still
-- growing stands for a function: these items, and then whatever is read behind them.
use Rattle.std.specs.Prelude.{◌≡◌, List, [], ◌∷◌, Option, Some, None, Result, IfOk, map}
use Rattle.sp_tree.specs.declared.syntax.SynExpr.{SynExpr}
use Rattle.sp_tree.specs.declared.syntax.SynSelector.{SynSelector}
use Rattle.sp_tree.specs.declared.syntax.SynArg.{SynArg}
use Rattle.sp_tree.specs.declared.syntax.SynStmt.{SynStmt}
use Rattle.sp_tree.specs.declared.syntax.SynArm.{SynArm}
use Rattle.sp_tree.specs.declared.syntax.SynBranch.{SynBranch}
use Rattle.sp_tree.specs.declared.syntax.SynPart.{SynPart}
use Rattle.sp_tree.specs.PlainSyntax.{Width, Selectors, Select, Arguments, AndArgument, ElsePart}
use Rattle.sp_tree.specs.PlainSyntax.{Statements}
use Rattle.sp_tree.specs.PlainSyntax.{AndThen, Arms, Or, Branches, Beside, Block, Declare}
use Rattle.sp_tree.specs.SyntaxOf.{expression_of, selector_of, argument_of, selectors, width, statement_of, arm_of}
use Rattle.sp_tree.specs.SyntaxOf.{branch_of, else_part, arms, branches, part_of}

-- what is made stands for this, unless there is no memory for it
abbrev pub MakesTree : {X V E : Type 0} → (X → V) → V → Result X E → Type 0
MakesTree plain v result = IfOk result (λ x. plain x ≡ v)

-- the width of an argument, if it has one
abbrev pub width_of : Option SynExpr → Width
width_of None = width None
width_of (Some e) = width (Some (expression_of e))

-- the selectors of a variable
abbrev pub selectors_of : List SynSelector → Selectors
selectors_of ss = selectors (map selector_of ss)

-- a list of the plain tree: these items, and then the others
abbrev pub lay : {A M : Type 0} → (A → M → M) → List A → M → M
lay cons [] more = more
lay cons (a ∷ rest) more = cons a (lay cons rest more)

-- these selectors, and then the others
abbrev pub and_selectors : List SynSelector → Selectors → Selectors
and_selectors ss more = lay Select (map selector_of ss) more

-- these arguments, and then the others
abbrev pub and_arguments : List SynArg → Arguments → Arguments
and_arguments args more = lay AndArgument (map argument_of args) more

-- what stands behind `else`, and the arms and processes of a statement
abbrev pub other_of : Option SynStmt → ElsePart
other_of None = else_part None
other_of (Some s) = else_part (Some (statement_of s))

abbrev pub arms_of : List SynArm → Arms
arms_of all = arms (map arm_of all)

abbrev pub branches_of : List SynBranch → Branches
branches_of all = branches (map branch_of all)

-- these statements, arms or branches, and then the others
abbrev pub and_statements : List SynStmt → Statements → Statements
and_statements all more = lay AndThen (map statement_of all) more

abbrev pub and_arms : List SynArm → Arms → Arms
and_arms all more = lay Or (map arm_of all) more

abbrev pub and_branches : List SynBranch → Branches → Branches
and_branches all more = lay Beside (map branch_of all) more

-- these declarations before those of a block
abbrev pub and_parts : List SynPart → Block → Block
and_parts ps b = record { parts = lay Declare (map part_of ps) b.parts; body = b.body }
