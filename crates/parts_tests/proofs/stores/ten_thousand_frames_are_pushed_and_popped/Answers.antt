use Rattle.std.proofs.Common.{[], ◌∷◌}
use Rattle.parts_tests.proofs.FreshStores.{next_root, none_root}
use Rattle.parts_tests.proofs.stores.ten_thousand_frames_are_pushed_and_popped.Goals as goal

pub push_all-requires-clause-number : goal.push_all-requires-clause-number
push_all-requires-clause-number c = next_root c.in_ok-store.store (1 ∷ []) c.in_ok-store.ensures

pub push_all-requires-clause-here : goal.push_all-requires-clause-here
push_all-requires-clause-here c = none_root c.in_ok-store.store (1 ∷ []) c.in_ok-store.ensures
