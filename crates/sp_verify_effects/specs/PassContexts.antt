-- None of this belongs to what the program promises: it is for contracts between crates.
-- What the passes may take for granted: the code keeps V1, and what was found of it is right.
use Rattle.std.specs.Prelude.{ℕ}
use Rattle.sp_verify_rules.specs.NameRules.{BreaksV1}
use Rattle.sp_verify_areas.specs.Blocks.{IsNumbered}
use Rattle.sp_verify_areas.specs.Homes.{AreHomes}
use Rattle.sp_verify_areas.specs.Owners.{AreOwners}
use Rattle.sp_verify_shapes.specs.Repeats.{AreRepeats}
use Rattle.sp_verify_shapes.specs.Shapes.{AreShapes}
use Rattle.sp_verify_effects.specs.declared.pass_context.PassContext.{PassContext}

pub record IsPassContext (g : PassContext) : Type 0 where
  pub kept : (p : ℕ) → BreaksV1 g.code.now p → ⊥
  pub blocks : IsNumbered g.blocks.now.first g.code.now.layouts
  pub owners : AreOwners g.code.now g.owners.now
  pub homes : AreHomes g.code.now g.homes.now
  pub shapes : AreShapes g.code.now g.shapes.now
  pub repeats : AreRepeats g.code.now g.owners.now g.shapes.now g.repeats.now
