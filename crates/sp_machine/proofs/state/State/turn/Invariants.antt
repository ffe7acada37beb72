use Rattle.std.proofs.Common.{◌≡◌, ℕ}
use Rattle.sp_code.specs.Turns.{RunsIn, frames_fit}
use Rattle.sp_code.specs.Memory.{memory}
use Rattle.sp_code.specs.PlainStore.{plain}
use Rattle.sp_code.specs.Budgets.{left_by, ticks_left}
use Rattle.sp_machine.specs.Procs.{config_of, code_run_of, KeepsNumberAndInput}
use Rattle.sp_machine.proofs.state.State.turn.Given as goal

abbrev pub invariant-loop-fault : goal.invariant-loop-fault
invariant-loop-fault l = record {
  same : KeepsNumberAndInput l.fn.self l.self;
  begun : frames_fit (memory plain (code_run_of l.fn.self l.code l.limits)) l.code (config_of l.fn.self)
      ≡ Rattle.std.proofs.Common.true;
  came : (n : ℕ) × RunsIn (memory plain (code_run_of l.fn.self l.code l.limits)) l.code n (config_of l.fn.self)
      (config_of l.self);
}

abbrev pub decreases-loop-fault : goal.decreases-loop-fault
decreases-loop-fault l = left_by l.code.instrs (ticks_left (code_run_of l.fn.self l.code l.limits))
    (config_of l.self)
