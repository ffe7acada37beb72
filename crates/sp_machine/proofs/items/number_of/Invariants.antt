use Rattle.std.proofs.Common.{◌≡◌, ◌<◌, drop}
use Rattle.std.specs.Prelude.{◌^◌}
use Rattle.sp_tree.specs.Items.{number_from}
use Rattle.sp_machine.proofs.items.number_of.Given as goal

abbrev pub invariant-loop-b : goal.invariant-loop-b
invariant-loop-b l = (l.n < 2 ^ 63) × (number_from 0 l.digits ≡ number_from l.n (drop l.b-index l.digits))
