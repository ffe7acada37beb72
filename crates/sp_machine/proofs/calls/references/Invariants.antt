use Rattle.std.proofs.Common.{◌≡◌, ◌++◌, drop}
use Rattle.sp_code.specs.Memory.{references}
use Rattle.sp_machine.specs.StackEntries.{entries_of}
use Rattle.sp_machine.proofs.calls.references.Given as goal

abbrev pub invariant-loop-argument : goal.invariant-loop-argument
invariant-loop-argument l = record {
  place : l.k ≡ l.argument-index;
  found : references 0 (entries_of l.arguments) ≡ l.found
      ++ references l.argument-index (entries_of (drop l.argument-index l.arguments));
}
