use Rattle.std.proofs.Common.{◌≡◌, drop}
use Rattle.sp_replay.specs.HeldProcesses.{outputs}
use Rattle.sp_replay.proofs.held.output.Given as goal

abbrev pub invariant-loop-proc : goal.invariant-loop-proc
invariant-loop-proc l = outputs (drop l.proc-index l.held) ≡ outputs l.held
