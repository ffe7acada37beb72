use Rattle.std.proofs.Common.{◌≡◌, ◌+◌, drop}
use Rattle.sp_tree.specs.Items.{blanks}
use Rattle.sp_machine.proofs.items.blanks.Given as goal

abbrev pub invariant-loop-b : goal.invariant-loop-b
invariant-loop-b l = (l.n ≡ l.b-index) × (blanks l.bytes ≡ l.b-index + blanks (drop l.b-index l.bytes))
