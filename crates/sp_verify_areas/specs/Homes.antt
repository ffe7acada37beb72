-- None of this belongs to what the program promises: it is for contracts between crates.
-- What is around each instruction, as a verifier keeps it: a tree of homes, and for each instruction a node of it.
use Rattle.std.specs.Prelude.{◌≡◌, ℕ, ◌<◌, List, Option, Some, None, slice_get, length}
use Rattle.sp_code.specs.declared.code.Parts.{Parts}
use Rattle.sp_code.specs.Memory.{Home}
use Rattle.sp_verify_rules.specs.Areas.{Area, Naming, Plainly, Never, ByReference, homes}
use Rattle.sp_verify_rules.specs.Areas as areas
use Rattle.sp_verify_areas.specs.declared.homes.Found.{Found}
use Rattle.sp_verify_areas.specs.declared.homes.Naming.TheVariants as naming
use Rattle.sp_verify_areas.specs.declared.homes.Naming.{Naming as Name}
use Rattle.sp_verify_areas.specs.declared.homes.Homes.{Homes}
use Rattle.sp_verify_areas.specs.Only.{LiesOnlyIn}
use Rattle.sp_verify_areas.specs.Tree.{AreLists}

abbrev pub naming_of : Name → Naming
naming_of naming.Plainly = Plainly
naming_of naming.Never = Never
naming_of naming.ByReference = ByReference

-- a variable that was found, as the rules see it
abbrev pub found_of : Option Found → Option areas.VariableInfo
found_of None = None
found_of (Some f) = Some (record { number = f.number; cells = f.cells; naming = naming_of f.naming })

-- a node stands for what is around the code of an area
pub record IsHome (c : Parts) (h : Homes) (lists : ℕ → List Home) (p : ℕ) (a : Area) : Type 0 where
  pub node : ℕ
  pub node_is : slice_get h.at p ≡ Some (Some node)
  pub within : node < length h.nodes
  pub stands : lists node ≡ homes c a

-- where an instruction that is there lies in the code of one area alone, its node stands for what is around that code
pub record AreHomes (c : Parts) (h : Homes) : Type 0 where
  pub lists : ℕ → List Home
  pub tree : AreLists c.layouts h.nodes lists
  pub each : (p : ℕ) (a : Area) → p < length c.instrs → LiesOnlyIn c p a → IsHome c h lists p a
