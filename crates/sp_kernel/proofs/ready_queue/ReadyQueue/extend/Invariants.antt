use Rattle.std.proofs.Common.{◌≡◌, ◌++◌, length}
use Rattle.sp_journal.specs.Queue.{numbers}
use Rattle.sp_kernel.proofs.ready_queue.ReadyQueue.extend.Given as goal

abbrev pub invariant-loop-k : goal.invariant-loop-k
invariant-loop-k l = (l.before ≡ length l.initial.self-inside.ring.items)
    × (l.self-inside.ring.items ≡ l.initial.self-inside.ring.items ++ numbers l.first l.k)
