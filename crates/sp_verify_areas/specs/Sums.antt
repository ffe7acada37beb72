-- None of this belongs to what the program promises: it is for contracts between crates.
-- Rule V1 as the passes find it: where an instruction lies in two areas, they look no further.
use Rattle.std.specs.Prelude.{◌⊎◌, ℕ}
use Rattle.sp_code.specs.declared.code.Parts.{Parts}
use Rattle.sp_verify_rules.specs.NameRules.{OrphanBlock, DeclaredTwice, Unnamed}
use Rattle.sp_verify_areas.specs.Alone.{BreaksAlone}
use Rattle.sp_verify_areas.specs.WrongNames.{MisnamesOnly}
use Rattle.sp_verify_areas.specs.Unknown.{UnknownOnly}
use Rattle.sp_verify_areas.specs.Placement.{IsMisplaced}

-- one of the passes finds something there
abbrev pub SomePassFinds : Parts → ℕ → Type 0
SomePassFinds c p = ((BreaksAlone c p ⊎ OrphanBlock c p) ⊎ (DeclaredTwice c p ⊎ Unnamed c p))
    ⊎ ((UnknownOnly c p ⊎ MisnamesOnly c p) ⊎ IsMisplaced c p)
