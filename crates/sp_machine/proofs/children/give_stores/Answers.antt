use Rattle.std.proofs.Common.{◌≡◌, ◌≢◌, ◌+◌, ℕ, length, get_or, arith, subst, ◌∙◌}
use Rattle.sp_machine.specs.declared.state.State.{State}
use Rattle.sp_machine.proofs.ChildStores.{one_fewer, rest_popped, last_is, done_more, left_more}
use Rattle.sp_machine.proofs.children.give_stores.Goals as goal

pub loop-store-preserved : goal.loop-store-preserved
loop-store-preserved c =
    let size : length c.loop-store.stores ≡ length c.pop.new.self + 1 =
    one_fewer c.loop-store.stores c.pop.new.self c.in-Some.store c.in-Some.ensures in
    let here : (d : State) → get_or c.give_store.new.children.items (length c.pop.new.self) d
    ≡ record (get_or c.loop-store.children.items (length c.pop.new.self) d) { store = c.in-Some.store } =
    λ d. subst (λ (j : ℕ). get_or c.give_store.new.children.items j d
    ≡ record (get_or c.loop-store.children.items j d) { store = c.in-Some.store }) c.len.ensures
    (c.give_store.ensures.here d) in
    let others = λ (k : ℕ) (d : State) (h : k ≢ length c.pop.new.self). c.give_store.ensures.others k d
    (λ e. h (e ∙ c.len.ensures)) in record {
      rest = rest_popped c.args.stores c.loop-store.stores c.pop.new.self c.in-Some.store c.loop-store.invariant.rest
          c.in-Some.ensures;
      few = omega (arith, size, c.loop-store.invariant.few);
      many = c.give_store.ensures.len ∙ c.loop-store.invariant.many;
      done = done_more c.args.children.now.items c.loop-store.children.items c.give_store.new.children.items
          c.args.stores (length c.pop.new.self) (length c.loop-store.stores) c.in-Some.store c.loop-store.invariant.done
          c.loop-store.invariant.left here others
          (λ s. last_is c.args.stores c.loop-store.stores c.pop.new.self c.in-Some.store s c.loop-store.invariant.rest
          c.in-Some.ensures) size;
      left = left_more c.args.children.now.items c.loop-store.children.items c.give_store.new.children.items
          (length c.pop.new.self) (length c.loop-store.stores) c.loop-store.invariant.left others size;
    }
