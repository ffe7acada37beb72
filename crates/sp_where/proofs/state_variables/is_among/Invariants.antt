use Rattle.std.proofs.Common.{◌≡◌, drop}
use Rattle.std.specs.List.{list_any}
use Rattle.sp_where.specs.StateVariables.{same_spot}
use Rattle.sp_where.proofs.state_variables.is_among.Given as goal

abbrev pub invariant-loop-other : goal.invariant-loop-other
invariant-loop-other l = list_any (same_spot l.spot) l.spots ≡ list_any (same_spot l.spot) (drop l.other-index l.spots)
