use Rattle.std.proofs.Common.{◌≡◌}
use Rattle.sp_witness.specs.Flags.{any_flag}
use Rattle.sp_witness.specs.Passes.{flags_of_set}
use Rattle.sp_witness.proofs.marks.is_any_needed.Given as goal

abbrev pub invariant-loop-child : goal.invariant-loop-child
invariant-loop-child l = l.any ≡ any_flag (flags_of_set l.needed) l.first l.child
