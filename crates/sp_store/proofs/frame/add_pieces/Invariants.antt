use Rattle.std.proofs.Common.{◌≡◌, take}
use Rattle.sp_cell.specs.Frame.{with_pieces}
use Rattle.sp_store.proofs.frame.add_pieces.Given as goal

abbrev pub invariant-loop-i : goal.invariant-loop-i
invariant-loop-i l = l.slots ≡ with_pieces l.fn.slots l.frame l.first (take l.i l.sizes)
