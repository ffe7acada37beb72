-- All of this belongs to what the program promises (docs/promise.txt).
-- The text of the sets of a tree, a line for each fork's part. The contract of the printing promises it, and the top
-- call's `sets` cites it.
use Rattle.std.specs.Prelude.{◌≡◌, ℕ, zero, suc, if◌then◌else◌, List, [], ◌∷◌, ◌++◌, length, codes, decimal, Option}
use Rattle.std.specs.Prelude.{Some, None, slice_get}
use Rattle.std.specs.List.{flat_map}
use Rattle.sp_base.specs.Places.{place_text}
use Rattle.sp_base.specs.declared.place.Place.{Place}
use Rattle.sp_varsets.specs.declared.sets_line.SetsLine.{SetsLine}
use Rattle.sp_varsets.specs.LineForks.{tree_lines}
use Rattle.sp_varsets.specs.TextOrders.{IsInOrder, line_cmp, variable_cmp}
use Rattle.sp_tree.specs.declared.checked.Variable.{Variable}
use Rattle.sp_tree.specs.PlainChecked as p
use Rattle.sp_varsets.specs.AreSets.{targets_of, expressions_of, implicit_targets_of, implicit_expressions_of}
use Rattle.sp_varsets.specs.Members.{has}
use Rattle.sp_varsets.specs.declared.sets.Sets.{Sets}
use Rattle.sp_varsets.specs.declared.var_set.VarSet.{VarSet}

-- ---- variables

-- the variables below a number that a set has
abbrev pub members : VarSet → ℕ → List ℕ
members v zero = []
members v (suc n) = if has v n then members v n ++ n ∷ [] else members v n

-- the name of a variable
abbrev pub name_in : Option Variable → List ℕ
name_in None = []
name_in (Some v) = v.name

-- names, each after a space
abbrev pub name_text : List Variable → ℕ → List ℕ
name_text vs x = codes " " ++ name_in (slice_get vs x)

-- the names of the variables of a set, in order
abbrev pub IsVariables : List Variable → VarSet → List ℕ → Type 0
IsVariables vs v out = (xs : List ℕ) × IsInOrder (variable_cmp vs) (members v (length vs)) xs
    × (out ≡ flat_map (name_text vs) xs)

-- the end of a line, from two sets
abbrev pub IsBoth : List Variable → VarSet → VarSet → List ℕ → Type 0
IsBoth vs t e out = (a b : List ℕ) × IsVariables vs t a × IsVariables vs e b
    × (out ≡ codes " targets" ++ a ++ codes " expressions" ++ b ++ codes "\n")

-- ---- lines

abbrev pub head_by : Place → Option ℕ → List ℕ
head_by at None = codes "forall " ++ place_text at
head_by at (Some k) = codes "parallel " ++ place_text at ++ codes " " ++ decimal k

-- the line of a process statement, as `parallel 1:45 0 targets x expressions`, or of an element statement, as
-- `forall 1:34 targets x expressions i`
abbrev pub IsLine : List Variable → Sets → SetsLine → List ℕ → Type 0
IsLine vs s l out = (rest : List ℕ) × IsBoth vs (targets_of s l.statement) (expressions_of s l.statement) rest
    × (out ≡ head_by l.at l.part ++ rest)

-- the line of a procedure or function, as `implicit p targets x expressions x`
abbrev pub IsImplicit : List Variable → Sets → ℕ → p.Block → List ℕ → Type 0
IsImplicit vs s b k out = (rest : List ℕ) × IsBoth vs (implicit_targets_of s b) (implicit_expressions_of s b) rest
    × (out ≡ codes "implicit " ++ k.name ++ rest)

-- what a block has: block 0 is the program, and has no line
abbrev pub IsOfBlock : List Variable → Sets → List p.Block → ℕ → List ℕ → Type 0
IsOfBlock vs s ks zero out = out ≡ []
IsOfBlock vs s ks (suc b) out = (k : p.Block) × (slice_get ks (suc b) ≡ Some k) × IsImplicit vs s (suc b) k out

abbrev pub IsLineAt : List Variable → Sets → List SetsLine → ℕ → List ℕ → Type 0
IsLineAt vs s ls i out = (l : SetsLine) × (slice_get ls i ≡ Some l) × IsLine vs s l out

-- the texts of the numbers below one, joined
abbrev pub Joined : (ℕ → List ℕ → Type 0) → ℕ → List ℕ → Type 0
Joined Is zero out = out ≡ []
Joined Is (suc n) out = (a b : List ℕ) × Joined Is n a × Is n b × (out ≡ a ++ b)

-- The implicit variables of each procedure and function, in order of heading; then the targets and expression variables
-- of each process statement and each element statement, in order of place.
abbrev pub IsSetsText : p.Program → Sets → List ℕ → Type 0
IsSetsText p s out =
    (ls : List SetsLine) × IsInOrder line_cmp (tree_lines p) ls
    × (a b : List ℕ) × Joined (IsOfBlock p.variables s p.blocks) (length p.blocks) a
    × Joined (IsLineAt p.variables s ls) (length ls) b × (out ≡ a ++ b)
