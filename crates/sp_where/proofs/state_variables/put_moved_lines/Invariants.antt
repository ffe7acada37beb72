use Rattle.std.proofs.Common.{drop}
use Rattle.sp_machine.specs.Frames.{frame_of}
use Rattle.sp_base.specs.Adds.{Covers}
use Rattle.sp_where.specs.KnownOf.{known_of}
use Rattle.sp_where.specs.StateVariables.{moved_lines}
use Rattle.sp_where.proofs.state_variables.put_moved_lines.Given as goal

-- what was put, and the lines of the variables that are left
abbrev pub invariant-loop-variable : goal.invariant-loop-variable
invariant-loop-variable l = Covers l.fn.out l.out
    (moved_lines (known_of l.known) l.store l.moved (frame_of l.frame) l.number (drop l.variable-index l.variables))
    (moved_lines (known_of l.known) l.store l.moved (frame_of l.frame) l.first l.variables)
