use Rattle.std.proofs.Common.{drop}
use Rattle.sp_machine.specs.Frames.{frame_of}
use Rattle.sp_base.specs.Adds.{Covers}
use Rattle.sp_where.specs.KnownOf.{known_of}
use Rattle.sp_where.specs.StateVariables.{own_lines}
use Rattle.sp_where.proofs.state_variables.put_own_lines.Given as goal

-- what was put, and the lines of the variables that are left
abbrev pub invariant-loop-variable : goal.invariant-loop-variable
invariant-loop-variable l = Covers l.fn.out l.out
    (own_lines (known_of l.known) l.store (frame_of l.frame) l.formals l.number (drop l.variable-index l.variables))
    (own_lines (known_of l.known) l.store (frame_of l.frame) l.formals l.first l.variables)
