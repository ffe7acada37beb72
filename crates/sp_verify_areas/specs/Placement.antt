-- None of this belongs to what the program promises: it is for contracts between crates.
-- Rule V1, the points on where an instruction stands: it lies in two areas, goes on past the last instruction, or ends
-- what it may not.
use Rattle.std.specs.Prelude.{◌⊎◌, ℕ, ◌+◌, ◌<◌, ◌==◌, List, [], ◌∷◌, Option, Some, None, Bool, true, false, ◌&&◌, ◌||◌}
use Rattle.std.specs.Prelude.{not, length, nat_le}
use Rattle.sp_code.specs.declared.instr.Instr.{Instr}
use Rattle.sp_code.specs.declared.instr.Instr.TheVariants as i
use Rattle.sp_code.specs.declared.code.Parts.{Parts}
use Rattle.sp_verify_areas.specs.declared.owners.Owner.{Owner}
use Rattle.sp_verify_areas.specs.declared.owners.Owner.TheVariants as owner
use Rattle.sp_verify_rules.specs.Reach.{nexts}
use Rattle.sp_verify_rules.specs.NameRules.{Shared, Misplaced, ends_well}

-- an instruction that is there does
abbrev pub IsMisplaced : Parts → ℕ → Type 0
IsMisplaced c p = (p < length c.instrs) × (Shared c p ⊎ Misplaced c (ends_well c) p)

-- what an instruction ends may end so, by whose it is
abbrev pub ends_as : Owner → Option Instr → Bool
ends_as (owner.Block b) (Some i.Return) = not (b == 0)
ends_as (owner.Child p k) (Some i.Return) = false
ends_as (owner.Block b) (Some i.End) = b == 0
ends_as w o = true

-- a way leads there
abbrev pub has_way : ℕ → List ℕ → Bool
has_way q [] = false
has_way q (r ∷ rs) = (q == r) || has_way q rs

-- one goes on past so many instructions
abbrev pub runs_past : ℕ → ℕ → Option Instr → Bool
runs_past n p o = has_way (p + 1) (nexts p o) && nat_le n (p + 1)

-- the instruction of so many, by whose it is, does one of these
abbrev pub fails_placed : ℕ → ℕ → Option Instr → Owner → Bool
fails_placed n p o owner.Nobody = false
fails_placed n p o (owner.Block b) = runs_past n p o || not (ends_as (owner.Block b) o)
fails_placed n p o (owner.Child q k) = runs_past n p o || not (ends_as (owner.Child q k) o)
fails_placed n p o owner.Several = true

-- a way leads there, if it is one
abbrev pub leads : Option ℕ → ℕ → Bool
leads None q = false
leads (Some r) q = q == r
