-- None of this belongs to what the program promises: it is for contracts between crates.
-- Calls that say nothing new: the same area calls the same block at an earlier instruction, with the same list of
-- shapes.
use Rattle.std.specs.Prelude.{◌≡◌, ℕ, ◌<◌, List, Option, Some, None, Bool, true, slice_get}
use Rattle.sp_code.specs.declared.instr.Instr.{Instr}
use Rattle.sp_code.specs.declared.instr.Instr.TheVariants as i
use Rattle.sp_code.specs.declared.code.Parts.{Parts}
use Rattle.sp_verify_rules.specs.Areas.{instr_at}
use Rattle.sp_verify_areas.specs.declared.owners.Owner.{Owner}
use Rattle.sp_verify_areas.specs.Alone.{flag_at}
use Rattle.sp_verify_shapes.specs.declared.shapes.Shapes.{Shapes}
use Rattle.sp_verify_shapes.specs.ReachRules.{reached_at}

-- the block that an instruction calls
abbrev pub called_block : Option Instr → Option ℕ
called_block (Some (i.Call b up)) = Some b
called_block o = None

-- a call repeats an earlier one: they call one block with one list of shapes, and have one owner
pub record Repeats (c : Parts) (os : List Owner) (s : Shapes) (p q : ℕ) : Type 0 where
  pub earlier : q < p
  pub block : ℕ
  pub calls : called_block (instr_at c p) ≡ Some block
  pub called : called_block (instr_at c q) ≡ Some block
  pub list : ℕ
  pub comes : reached_at s p ≡ Some list
  pub came : reached_at s q ≡ Some list
  pub owner : slice_get os p ≡ slice_get os q

-- each instruction whose flag is set repeats an earlier one
abbrev pub AreRepeats : Parts → List Owner → Shapes → List Bool → Type 0
AreRepeats c os s flags = (p : ℕ) → flag_at flags p ≡ true → (q : ℕ) × Repeats c os s p q
