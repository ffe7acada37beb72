use Rattle.std.proofs.Common.{[], arith}
use Rattle.parts_tests.proofs.FreshStores.{next_root}
use Rattle.parts_tests.proofs.stores.a_frame_has_4096_variables.Goals as goal

pub push_frame-requires-clause-number : goal.push_frame-requires-clause-number
push_frame-requires-clause-number g c = let n = next_root c.in_ok-store.store [] c.in_ok-store.ensures in
    omega (arith, n)
