use Rattle.std.proofs.Common.{◌≡◌, drop}
use Rattle.std.specs.Prelude.{reverse}
use Rattle.sp_machine.specs.Calls.{returns}
use Rattle.sp_machine.specs.StackEntries.{entries_of}
use Rattle.sp_machine.proofs.stack.Stack.returns.Given as goal

abbrev pub invariant-loop-place : goal.invariant-loop-place
invariant-loop-place l = l.out ≡ returns (entries_of (reverse (drop l.place l.entries)))
