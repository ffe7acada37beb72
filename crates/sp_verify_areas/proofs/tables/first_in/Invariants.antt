use Rattle.sp_verify_areas.specs.Alone.{TableFails}
use Rattle.sp_verify_areas.specs.LeastPlaces.{IsLeast, Upto}
use Rattle.sp_verify_areas.proofs.tables.first_in.Given as goal

-- of the tables so far
abbrev pub invariant-loop-t : goal.invariant-loop-t
invariant-loop-t l = IsLeast (Upto (TableFails l.count l.forked l.foralled l.tables) l.t) l.first
