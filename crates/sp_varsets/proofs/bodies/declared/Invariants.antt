use Rattle.sp_tree.specs.Bare.{without_places}
use Rattle.sp_tree.specs.CheckedOf.{program_of}
use Rattle.sp_varsets.specs.Bodies.{AreDeclared}
use Rattle.sp_varsets.proofs.bodies.declared.Given as goal

abbrev pub invariant-variables : goal.invariant-variables
invariant-variables l = AreDeclared (without_places (program_of l.checked)) l.rows l.x
