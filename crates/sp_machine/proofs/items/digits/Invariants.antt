use Rattle.std.proofs.Common.{◌≡◌, ◌+◌, drop}
use Rattle.sp_tree.specs.Items.{digits}
use Rattle.sp_machine.proofs.items.digits.Given as goal

abbrev pub invariant-loop-b : goal.invariant-loop-b
invariant-loop-b l = (l.n ≡ l.b-index) × (digits l.bytes ≡ l.b-index + digits (drop l.b-index l.bytes))
