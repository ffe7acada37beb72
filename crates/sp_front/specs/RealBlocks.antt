-- None of this belongs to what the program promises: it is for contracts between crates.
-- What the phase of names gives of all variables but the first two: each is of a block that there is, and none is a
-- console.
use Rattle.std.specs.Prelude.{ℕ, suc, ◌≤◌, List}
use Rattle.sp_tree.specs.declared.checked.Role.{Role}
use Rattle.sp_tree.specs.declared.checked.Role.TheVariants as role
use Rattle.sp_tree.specs.declared.checked.Variable as checked
use Rattle.sp_front.specs.ForEach.{HoldsOfEach}

abbrev pub NoConsole : Role → Type 0
NoConsole role.Console = ⊥
NoConsole _ = Unit {0}

-- so many blocks there are
abbrev pub AreInRealBlocks : ℕ → List checked.Variable → Type 0
AreInRealBlocks blocks = HoldsOfEach (λ (u : checked.Variable). (suc u.block ≤ blocks) × NoConsole u.role)
