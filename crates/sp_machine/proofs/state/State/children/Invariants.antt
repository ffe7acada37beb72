use Rattle.std.proofs.Common.{◌≡◌, length}
use Rattle.sp_machine.specs.Children.{AreBornSo}
use Rattle.sp_machine.proofs.state.State.children.Given as goal

abbrev pub invariant-loop-handing : goal.invariant-loop-handing
invariant-loop-handing l = record {
  place : l.k ≡ l.handing-index;
  many : length l.children.items ≡ l.handing-index;
  born : AreBornSo l.children.items l.plan l.table l.number l.self l.handing-index;
}
