use Rattle.std.proofs.Common.{◌≡◌, ◌≤◌, ◌*◌, take}
use Rattle.std.specs.Prelude.{sum}
use Rattle.sp_machine.proofs.layouts.cells_of.Given as goal

abbrev pub invariant-loop-size : goal.invariant-loop-size
invariant-loop-size l = record {
  total : l.total ≡ sum (take l.size-index l.sizes);
  small : l.total ≤ 4294967295 * l.size-index;
}
