use Rattle.std.proofs.Common.{◌≡◌, drop}
use Rattle.sp_code.specs.Memory.{with_arguments}
use Rattle.sp_code.specs.PlainStore.{plain}
use Rattle.sp_machine.specs.Arguments.{TakeAll}
use Rattle.sp_machine.specs.StackEntries.{entries_of}
use Rattle.sp_machine.proofs.calls.fill.Given as goal

abbrev pub invariant-loop-argument : goal.invariant-loop-argument
invariant-loop-argument l = record {
  place : l.k ≡ l.argument-index;
  filled : with_arguments plain l.frame 0 (entries_of l.arguments) l.fn.store
      ≡ with_arguments plain l.frame l.argument-index (entries_of (drop l.argument-index l.arguments)) l.store;
  take : TakeAll l.store.map l.frame l.argument-index (entries_of (drop l.argument-index l.arguments));
}
