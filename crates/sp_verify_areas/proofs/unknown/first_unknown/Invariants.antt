use Rattle.sp_verify_areas.specs.LeastPlaces.{IsLeast, Upto}
use Rattle.sp_verify_areas.specs.Unknown.{UnknownBy}
use Rattle.sp_verify_areas.proofs.unknown.first_unknown.Given as goal

-- of the instructions so far
abbrev pub invariant-loop-q : goal.invariant-loop-q
invariant-loop-q l = IsLeast (Upto (UnknownBy l.code) l.q) l.first
