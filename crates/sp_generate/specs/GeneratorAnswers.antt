-- Some of this belongs to what the program promises (docs/promise.txt).
-- The answer of the generator: exactly the code of the tree, or that it would be too long. The contract of the
-- generator promises it, with the sets that the process statements are handed in order of their numbers.
use Rattle.std.specs.Prelude.{◌≡◌, ◌<◌, ◌≤◌, ℕ, List, Result, Ok, Err}
use Rattle.sp_tree.specs.PlainChecked as c
use Rattle.sp_tree.specs.Bare.{without_places}
use Rattle.sp_tree.specs.Plain.{Program, Stmt}
use Rattle.sp_code.specs.declared.code.Parts.{Parts}
use Rattle.sp_code.specs.Places.{tree_length}
use Rattle.sp_code.specs.TreeCode.{program_code}
use Rattle.sp_code.specs.Shares.{SetsAre}
use Rattle.sp_generate.specs.CappedLength.{capped_length}
use Rattle.sp_generate.specs.Handings.{IsInOrder}
use Rattle.sp_generate.specs.declared.program.GenError.{GenError}
use Rattle.sp_generate.specs.declared.program.GenError.TheVariants.{TooLong, Memory}

-- what process statements are handed: by sets of variables, in order of their numbers
pub record Handing (p : Program) : Type 0 where
  pub moves : Stmt → List ℕ
  pub shares : Stmt → List ℕ
  pub are : SetsAre p moves shares
  pub moves_in_order : (s : Stmt) → IsInOrder (moves s)
  pub shares_in_order : (s : Stmt) → IsInOrder (shares s)

-- the code of the program, instruction by instruction
abbrev pub IsCodeOf : Program → Parts → Type 0
IsCodeOf p code = (h : Handing p) × (code ≡ program_code p h.moves h.shares)

-- code exactly of this program; its length where it is above the limit, and only there; no word of when memory is
-- refused but that it is not above the limit
abbrev pub Answered : c.Program → Result Parts GenError → Type 0
Answered tree (Ok code) = (tree_length (without_places tree) ≤ 1048576) × IsCodeOf (without_places tree) code
Answered tree (Err (TooLong n)) = (1048576 < tree_length (without_places tree))
    × (n ≡ capped_length (tree_length (without_places tree)))
Answered tree (Err Memory) = tree_length (without_places tree) ≤ 1048576
