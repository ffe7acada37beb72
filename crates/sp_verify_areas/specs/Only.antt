-- None of this belongs to what the program promises: it is for contracts between crates.
-- What rule V1 asks of an instruction by what is around it, said where the instruction lies in one area alone: where it
-- lies in two, V1 is broken there anyhow.
use Rattle.std.specs.Prelude.{◌≡◌, ℕ, Option, Bool, false}
use Rattle.sp_code.specs.declared.instr.Instr.{Instr}
use Rattle.sp_code.specs.declared.code.Parts.{Parts}
use Rattle.sp_verify_rules.specs.Areas.{Area, instr_at}
use Rattle.sp_verify_rules.specs.NameRules.{LiesIn}

module _ (c : Parts) where
  -- an instruction lies in the code of this area, and of no other
  abbrev pub LiesOnlyIn : ℕ → Area → Type 0
  LiesOnlyIn p a = LiesIn c p a × ((b : Area) → LiesIn c p b → b ≡ a)

  -- 9, 12, 13, 14: an instruction of one area alone may not stand there
  abbrev pub MisplacedOnly : (Area → Option Instr → Bool) → ℕ → Type 0
  MisplacedOnly well p = (a : Area) × LiesOnlyIn p a × (well a (instr_at c p) ≡ false)
