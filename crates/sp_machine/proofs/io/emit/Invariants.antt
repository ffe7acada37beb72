use Rattle.std.proofs.Common.{◌≡◌, replicate, true}
use Rattle.sp_code.specs.Memory.{is_held}
use Rattle.sp_code.specs.PlainStore.{plain}
use Rattle.sp_machine.proofs.io.emit.Given as goal

abbrev pub invariant-loop : goal.invariant-loop
invariant-loop l = record {
  held : is_held (plain.output l.store) ≡ true;
  written : l.store ≡ plain.appended l.initial.store (replicate l.counter 32);
}
