use Rattle.std.proofs.Common.{◌≡◌, ◌≢◌, ◌+◌, ◌≤◌, length, Some}
use Rattle.std.specs.FinMap as map
use Rattle.sp_cell.specs.declared.spot.Spot.{Spot}
use Rattle.sp_cell.specs.Frame.{next_frame}
use Rattle.sp_cell.specs.Map.{Away}
use Rattle.parts_tests.proofs.stores.push_all.Given as goal

abbrev pub invariant-loop : goal.invariant-loop
invariant-loop l = record {
  number : next_frame l.store ≤ l.counter + 1;
  frames : length l.store.own ≡ length l.fn.store.own + l.counter;
  here : (q : Spot) → map.get l.store.map q ≢ Some Away;
}
