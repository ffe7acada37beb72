use Rattle.std.proofs.Common.{◌≡◌, take}
use Rattle.std.specs.FinMap as map
use Rattle.sp_cell.specs.Fork.{with_shared, shared_of}
use Rattle.sp_cell.specs.Fork.{children_so_far}
use Rattle.sp_store.specs.Layout.{IsLent}
use Rattle.sp_store.proofs.store.Store.prepare_each.Given as goal

abbrev pub invariant-loop-handing : goal.invariant-loop-handing
invariant-loop-handing l = record {
  ready : l.ready ≡ with_shared l.from l.first.items
      (with_shared l.from (shared_of (take l.handing-index l.plan)) map.empty);
  lent : IsLent l.from l.ready;
  children : l.children.items ≡ children_so_far l.from (take l.handing-index l.plan) 0;
}
