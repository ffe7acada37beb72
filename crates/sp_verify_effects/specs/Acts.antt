-- None of this belongs to what the program promises: it is for contracts between crates.
-- Areas of code that do something: an area of which no instruction stores or loads anything, starts a child or calls a
-- block has no effect on the variables that calls pass to it.
use Rattle.std.specs.Prelude.{◌≡◌, ◌⊎◌, ℕ, ◌<◌, List, Bool, Some, true, length}
use Rattle.sp_tree.specs.Interference.{IsMember}
use Rattle.sp_code.specs.declared.instr.Instr.TheVariants as i
use Rattle.sp_code.specs.declared.code.ChildTable.{ChildTable}
use Rattle.sp_code.specs.declared.code.Parts.{Parts}
use Rattle.sp_verify_rules.specs.Areas.{Area, child_at, entry, instr_at}
use Rattle.sp_verify_rules.specs.Effects.{EffectKind, does_at}
use Rattle.sp_verify_rules.specs.NameRules.{LiesIn}
use Rattle.sp_verify_rules.specs.Shapes.{Shape}
use Rattle.sp_verify_areas.specs.Alone.{flag_at}

module _ (c : Parts) where
  -- the instruction at p stores or loads something, starts a child or calls a block
  abbrev pub Acts : Area → ℕ → Type 0
  Acts a p = ((u : EffectKind) × (ss : List Shape) × (x : ℕ) × IsMember x (does_at c u a p ss))
      ⊎ (((k : ℕ) × (t : ChildTable) × (child_at c p k ≡ Some t)) ⊎ ((f up : ℕ) × (instr_at c p ≡ Some (i.Call f up))))

  -- the flag of each area is set, by its first instruction, of which one of the first n instructions does
  abbrev pub AreActsOf : ℕ → List Bool → Type 0
  AreActsOf n flags = (a : Area) (p : ℕ) → p < n → LiesIn c p a → Acts a p → flag_at flags (entry c a) ≡ true

  abbrev pub AreActs : List Bool → Type 0
  AreActs = AreActsOf (length c.instrs)
