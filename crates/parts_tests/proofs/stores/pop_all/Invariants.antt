use Rattle.std.proofs.Common.{◌≡◌, ◌≢◌, ◌+◌, length, Some}
use Rattle.std.specs.FinMap as map
use Rattle.sp_cell.specs.declared.spot.Spot.{Spot}
use Rattle.sp_cell.specs.Map.{Away}
use Rattle.parts_tests.proofs.stores.pop_all.Given as goal

abbrev pub invariant-loop : goal.invariant-loop
invariant-loop l = record {
  frames : length l.store.own + l.counter ≡ length l.fn.store.own;
  here : (q : Spot) → map.get l.store.map q ≢ Some Away;
}
