use Rattle.sp_verify_areas.specs.LeastPlaces.{IsLeast, Upto}
use Rattle.sp_verify_effects.specs.ChildEffects.{TableFails}
use Rattle.sp_verify_effects.proofs.child_effects.first_in.Given as goal

-- of the tables so far
abbrev pub invariant-loop-table : goal.invariant-loop-table
invariant-loop-table l = IsLeast (Upto (TableFails l.effects l.tables) l.table-index) l.first
