-- None of this belongs to what the program promises: it is for contracts between crates.
-- Rule V1, the points on what an instruction names by what is around it: the level of a call, and variables.
use Rattle.std.specs.Prelude.{◌≡◌, ◌⊎◌, ℕ, Option, Bool, true, false, ◌&&◌}
use Rattle.sp_code.specs.declared.instr.Instr.{Instr}
use Rattle.sp_code.specs.declared.code.Parts.{Parts}
use Rattle.sp_verify_rules.specs.Areas.{Area}
use Rattle.sp_verify_rules.specs.NameRules.{level_fits, in_range, names_well, loops_well}
use Rattle.sp_verify_areas.specs.Only.{MisplacedOnly}

-- an instruction of one area alone calls at a wrong level, or names a variable that is not there or may not be named so
abbrev pub MisnamesOnly : Parts → ℕ → Type 0
MisnamesOnly c p = MisplacedOnly c (level_fits c) p
    ⊎ (MisplacedOnly c (in_range c) p ⊎ (MisplacedOnly c (names_well c) p ⊎ MisplacedOnly c (loops_well c) p))

-- it does neither: a variable that is not there may not be named
abbrev pub fits : Parts → Area → Option Instr → Bool
fits c a o = level_fits c a o && (names_well c a o && loops_well c a o)

-- a test says whether it holds
pub record Decides (test : Bool) (P : Type 0) : Type 0 where
  pub yes : test ≡ true → P
  pub no : test ≡ false → P → ⊥
