use Rattle.std.proofs.Common.{◌≡◌, take}
use Rattle.sp_cell.specs.Frame.{least_above, frames}
use Rattle.sp_machine.proofs.children.above_all.Given as goal

abbrev pub invariant-loop-spot : goal.invariant-loop-spot
invariant-loop-spot l = l.least ≡ least_above (frames (take l.spot-index l.spots))
