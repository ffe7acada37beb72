use Rattle.std.specs.List.{flat_map}
use Rattle.sp_kernel.specs.Kernels.{system_of}
use Rattle.sp_replay.specs.TraceAnswers.{last_in}
use Rattle.sp_base.specs.Adds.{Covers}
use Rattle.sp_where.specs.KnownOf.{known_of}
use Rattle.sp_where.specs.States.{named_text}
use Rattle.sp_where.proofs.state.put_all.Given as goal

-- what was put, and the lines of the processes that are left
abbrev pub invariant-loop-name : goal.invariant-loop-name
invariant-loop-name l = Covers l.fn.out l.out
    (flat_map (named_text (known_of l.known) l.fault (last_in l.lasts) (system_of l.state.kernel).condition)
    l.name-iterator)
    (flat_map (named_text (known_of l.known) l.fault (last_in l.lasts) (system_of l.state.kernel).condition)
    l.names.entries)
