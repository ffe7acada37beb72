use Rattle.std.proofs.Common.{◌≡◌, filter}
use Rattle.sp_journal.specs.Births.{births}
use Rattle.sp_journal.specs.Queue.{numbers}
use Rattle.sp_kernel.specs.Kernels.{system_of}
use Rattle.sp_report.specs.InOrder.{sorted_by_name}
use Rattle.sp_where.specs.States.{is_live}
use Rattle.sp_where.proofs.state.live_names.Given as goal

-- those of the processes so far
abbrev pub invariant-loop-process : goal.invariant-loop-process
invariant-loop-process l = l.names.entries ≡ sorted_by_name (births l.ledger.journal.entries)
    (filter (λ q. is_live ((system_of l.state.kernel).condition q)) (numbers 0 l.process))
