use Rattle.sp_verify_areas.specs.LeastPlaces.{IsLeast, Upto}
use Rattle.sp_verify_areas.specs.Namers.{LostAt}
use Rattle.sp_verify_areas.proofs.table_names.first_lost.Given as goal

-- of the tables so far
abbrev pub invariant-loop-t : goal.invariant-loop-t
invariant-loop-t l = IsLeast (Upto (LostAt l.code) l.t) l.first
