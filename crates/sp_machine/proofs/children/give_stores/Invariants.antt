use Rattle.std.proofs.Common.{◌≡◌, ◌≤◌, ◌<◌, ℕ, length, get_or, take}
use Rattle.sp_cell.specs.Map.{Plain}
use Rattle.sp_machine.specs.declared.state.State.{State}
use Rattle.sp_machine.proofs.children.give_stores.Given as goal

abbrev pub invariant-loop-store : goal.invariant-loop-store
invariant-loop-store l = record {
  rest : l.stores ≡ take (length l.stores) l.fn.stores;
  few : length l.stores ≤ length l.fn.children.items;
  many : length l.children.items ≡ length l.fn.children.items;
  done : (k : ℕ) (d : State) (s : Plain) → length l.stores ≤ k → k < length l.fn.children.items
      → get_or l.children.items k d ≡ record (get_or l.fn.children.items k d) { store = get_or l.fn.stores k s };
  left : (k : ℕ) (d : State) → k < length l.stores → get_or l.children.items k d ≡ get_or l.fn.children.items k d;
}

abbrev pub decreases-loop-store : goal.decreases-loop-store
decreases-loop-store l = length l.stores
