-- None of this belongs to what the program promises: it is for contracts between crates.
-- For each parameter, whether it is a variable parameter: what a call of the block is checked by. The contract of
-- `headings` cites it.
use Rattle.std.specs.Prelude.{List, [], ◌∷◌, ◌++◌, Bool}
use Rattle.sp_tree.specs.declared.syntax.Name.{Name}
use Rattle.sp_tree.specs.declared.syntax.SynFormal.{SynFormal}

-- the same for each of these names
abbrev pub flags : Bool → List Name → List Bool
flags b [] = []
flags b (x ∷ xs) = b ∷ flags b xs

-- of all parameters, in order
abbrev pub all_flags : List SynFormal → List Bool
all_flags [] = []
all_flags (f ∷ fs) = flags f.by_reference f.names ++ all_flags fs
