use Rattle.std.proofs.Common.{◌≡◌, ◌≤◌, length}
use Rattle.sp_verify_shapes.specs.Names.{AreNames}
use Rattle.sp_verify_shapes.proofs.names.name_all.Given as goal

abbrev pub invariant-loop-i : goal.invariant-loop-i
invariant-loop-i l = AreNames l.stacks l.names × (length l.names ≡ l.i) × (l.i-end ≤ length l.stacks.cells)
