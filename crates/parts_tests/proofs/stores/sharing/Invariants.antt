use Rattle.std.proofs.Common.{◌≡◌, replicate}
use Rattle.parts_tests.proofs.FreshStores.{sharer}
use Rattle.parts_tests.proofs.stores.sharing.Given as goal

abbrev pub invariant-loop : goal.invariant-loop
invariant-loop l = l.plan ≡ replicate l.counter (sharer l.spot)
