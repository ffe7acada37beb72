-- None of this belongs to what the program promises: it is for contracts between crates.
-- The shapes that instructions are reached with, in a table: the number of a list of shapes for each instruction that
-- is reached.
use Rattle.std.specs.Prelude.{◌≡◌, ℕ, List, Some, slice_get, length}
use Rattle.sp_code.specs.declared.code.Parts.{Parts}
use Rattle.sp_verify_rules.specs.Areas.{Area}
use Rattle.sp_verify_rules.specs.Shapes.{Shape}
use Rattle.sp_verify_rules.specs.Rules.{ComesTo, BreaksV2}
use Rattle.sp_verify_areas.specs.LeastPlaces.{IsLeast}
use Rattle.sp_verify_shapes.specs.declared.shapes.Shapes.{Shapes}
use Rattle.sp_verify_shapes.specs.declared.shapes.Outcome.{Outcome}
use Rattle.sp_verify_shapes.specs.declared.shapes.Outcome.TheVariants as outcome
use Rattle.sp_verify_shapes.specs.Asks.{AreAsked}
use Rattle.sp_verify_shapes.specs.Stacks.{IsListNumber, IsStacks, list_of}

-- the table has, for each instruction that is reached, the shapes that it is reached with, and nothing for the others;
-- and what is kept of the formals of layouts is so
pub record AreShapes (c : Parts) (s : Shapes) : Type 0 where
  pub stacks : IsStacks s.stacks
  pub size : length s.at ≡ length c.instrs
  pub held : (p k : ℕ) → slice_get s.at p ≡ Some (Some k) → IsListNumber s.stacks k
  pub come : (p k : ℕ) → slice_get s.at p ≡ Some (Some k) → (a : Area) × ComesTo c a p (list_of s.stacks k)
  pub all : (a : Area) (p : ℕ) (ss : List Shape) → ComesTo c a p ss
      → (k : ℕ) × (slice_get s.at p ≡ Some (Some k)) × (list_of s.stacks k ≡ ss)
  pub asked : AreAsked c.layouts s.asked

-- V2 is broken there, and at no lower instruction; or it is broken nowhere, and these are the shapes
abbrev pub IsOutcome : Parts → Outcome → Type 0
IsOutcome c (outcome.Broken p) = IsLeast (BreaksV2 c) (Some p)
IsOutcome c (outcome.Kept s) = ((p : ℕ) → BreaksV2 c p → ⊥) × AreShapes c s
