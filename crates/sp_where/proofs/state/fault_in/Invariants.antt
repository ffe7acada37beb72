use Rattle.std.proofs.Common.{◌≡◌, drop}
use Rattle.sp_where.specs.States.{fault_in}
use Rattle.sp_where.proofs.state.fault_in.Given as goal

-- no fault so far
abbrev pub invariant-loop-entry : goal.invariant-loop-entry
invariant-loop-entry l = fault_in l.entries ≡ fault_in (drop l.entry-index l.entries)
