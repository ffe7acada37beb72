use Rattle.std.proofs.Common.{◌≡◌, ◌+◌, drop}
use Rattle.sp_tree.specs.Items.{line_length}
use Rattle.sp_machine.proofs.items.line_length.Given as goal

abbrev pub invariant-loop-b : goal.invariant-loop-b
invariant-loop-b l = (l.n ≡ l.b-index) × (line_length l.bytes ≡ l.b-index + line_length (drop l.b-index l.bytes))
