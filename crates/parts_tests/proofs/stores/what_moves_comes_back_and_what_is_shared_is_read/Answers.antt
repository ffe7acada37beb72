use Rattle.std.proofs.Common.{[], ◌∷◌, arith}
use Rattle.parts_tests.proofs.FreshStores.{next_root}
use Rattle.parts_tests.proofs.stores.what_moves_comes_back_and_what_is_shared_is_read.Goals as goal

pub split-requires-clause-number : goal.split-requires-clause-number
split-requires-clause-number g c index = let n = next_root c.in_ok-store.store (1 ∷ []) c.in_ok-store.ensures in
    omega (arith, n)
