-- None of this belongs to what the program promises: it is for contracts between crates.
-- What commands know of a text that tell its places and the names in it: the contract of `marked`.
use Rattle.std.specs.Prelude.{◌≡◌, ◌⊎◌, ℕ, ◌≤◌, List, Result, Ok, Err}
use Rattle.sp_base.specs.declared.halt.Halt.{Halt}
use Rattle.sp_base.specs.declared.halt.Halt.TheVariants as halt
use Rattle.sp_tree.specs.Bare.{without_places}
use Rattle.sp_tree.specs.Breaches.{IsFirstBroken, IsTree}
use Rattle.sp_tree.specs.CheckedOf.{program_of}
use Rattle.sp_tree.specs.PlainSyntax as s
use Rattle.sp_code.specs.Places.{tree_length}
use Rattle.sp_generate.specs.GeneratorAnswers.{IsCodeOf}
use Rattle.sp_lines.specs.Marks.{marks}
use Rattle.sp_lines.specs.Constants.{by_kind, constants_of}
use Rattle.sp_front.specs.Codes.{BreaksLength}
use Rattle.sp_front.specs.Compiles.{FirstBrokenOfPhases, IsAccepted}
use Rattle.sp_front.specs.declared.marks.MarkedText.{MarkedText}

-- the names of the constants of a text's enumerations, in order; want of memory is free
abbrev pub NamesTo : List ℕ → Result (List (List (List ℕ))) Halt → Type 0
NamesTo text (Ok cs) = (tree : s.Program) × IsTree text tree × (cs ≡ constants_of tree)
NamesTo text (Err (halt.Refused r)) = IsFirstBroken text r
NamesTo text (Err halt.Memory) = Unit {0}

-- the names of the constants of each type of a text, by the tree that its tokens spell
abbrev pub HasConstants : List ℕ → MarkedText → Type 0
HasConstants text r = (tree : s.Program) × IsTree text tree
    × (r.constants ≡ by_kind r.checked.kinds (constants_of tree))

-- the accepted tree of the text, its code, which is no longer than code may be, with a mark for each instruction, and
-- the names of the constants of each type
pub record IsMarked (text : List ℕ) (r : MarkedText) : Type 0 where
  pub accepted : IsAccepted text (program_of r.checked)
  pub short : tree_length (without_places (program_of r.checked)) ≤ 1048576
  pub code : IsCodeOf (without_places (program_of r.checked)) r.code
  pub marks : r.marks ≡ marks (program_of r.checked)
  pub constants : HasConstants text r

-- the answer; want of memory is free
abbrev pub MarksText : List ℕ → Result MarkedText Halt → Type 0
MarksText text (Ok r) = IsMarked text r
MarksText text (Err (halt.Refused r)) = FirstBrokenOfPhases text r ⊎ BreaksLength text r
MarksText text (Err halt.Memory) = Unit {0}
