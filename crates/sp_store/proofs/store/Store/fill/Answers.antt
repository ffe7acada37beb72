use Rattle.std.proofs.Common.{◌≡◌, ℕ, ◌<◌, ◌+◌, length, get_or, subst, sym, ap, ◌∙◌, take, arith, IsSome}
use Rattle.std.specs.FinMap as map
use Rattle.sp_cell.specs.declared.spot.Spot.{Spot}
use Rattle.sp_cell.specs.declared.spot.Handing.{Handing}
use Rattle.sp_cell.specs.Map.{Plain}
use Rattle.sp_cell.specs.Fork.{with_away, moved_of, prepared_map}
use Rattle.sp_cell.specs.Spots.{DistinctByIndex}
use Rattle.sp_cell.proofs.Plan.{distinct_at, known_at, room_at, is_prepared, filled, away_plan_step, mixed_all}
use Rattle.sp_cell.specs.Fork.{children_so_far}
use Rattle.sp_cell.proofs.Plan.{length-mixed}
use Rattle.sp_store.proofs.store.Store.fill.Goals as goal

pub index_mut-child-requires : goal.index_mut-child-requires
index_mut-child-requires c = let h = ap length c.loop-i.invariant.children
    ∙ length-mixed c.args.parent.now c.args.plan.now c.loop-i.i in
    omega (arith, h, c.loop-i.children.ok, c.loop-i-test.true)

pub hand-requires-clause-distinct : goal.hand-requires-clause-distinct
hand-requires-clause-distinct c = rw c.items.ensures
    (subst (λ (y : Handing). DistinctByIndex y.moved) (sym c.index-plan-i.is)
    (distinct_at c.args.parent.now c.args.plan.now c.requires.distinct c.requires.known c.loop-i.i c.index-plan-i.result
    c.loop-i-test.true))

pub hand-requires-clause-known : goal.hand-requires-clause-known
hand-requires-clause-known c = rw (c.items.ensures, c.loop-i.invariant.parent)
    (subst (λ (y : Handing). (n : ℕ) (e : Spot) → n < length y.moved
    → IsSome (map.get (with_away c.args.parent.now (moved_of (take c.loop-i.i c.args.plan.now))) (get_or y.moved n e)))
    (sym c.index-plan-i.is) (known_at c.args.parent.now c.args.plan.now c.requires.distinct c.requires.known c.loop-i.i
    c.index-plan-i.result c.loop-i-test.true))

pub hand-requires-clause-room : goal.hand-requires-clause-room
hand-requires-clause-room c =
    let x = c.index_mut-child.result.now in
    let child = c.child.view_is ∙ is_prepared c.args.parent.now c.args.plan.now c.loop-i.i c.index-plan-i.result
    c.loop-i.children.items x c.loop-i.invariant.children c.index_mut-child.ensures.value c.index-plan-i.is
    c.loop-i-test.true in
    let slots = ap (λ (p : Plain). p.map) child in
    rw (c.items.ensures, slots) (subst (λ (y : Handing). (n : ℕ) (e : Spot) → n < length y.moved
    → IsSome (map.get (prepared_map c.args.parent.now y) (get_or y.moved n e))) (sym c.index-plan-i.is)
    (room_at c.args.parent.now c.args.plan.now c.requires.distinct c.requires.known c.loop-i.i c.index-plan-i.result
    c.loop-i-test.true))

pub loop-i-preserved : goal.loop-i-preserved
loop-i-preserved c =
    let m = c.args.parent.now in
    let x : Plain = record {
      map = c.child.inside.slots;
      own = c.child.inside.own.items;
      moved = c.child.inside.moved;
    } in
    let child = c.child.view_is ∙ is_prepared m c.args.plan.now c.loop-i.i c.index-plan-i.result c.loop-i.children.items
    c.index_mut-child.result.now c.loop-i.invariant.children c.index_mut-child.ensures.value c.index-plan-i.is
    c.loop-i-test.true in
    record {
      parent = rw (c.hand.ensures.from, c.items.ensures, c.loop-i.invariant.parent)
          (subst (λ (y : Handing). with_away (with_away m (moved_of (take c.loop-i.i c.args.plan.now))) y.moved
          ≡ with_away m (moved_of (take (c.loop-i.i + 1) c.args.plan.now))) (sym c.index-plan-i.is)
          (sym (away_plan_step m c.args.plan.now c.loop-i.i c.index-plan-i.result c.loop-i-test.true)));
      children = rw (c.hand.ensures.to, c.items.ensures, c.loop-i.invariant.parent)
          (filled m c.args.plan.now c.requires.distinct c.requires.known c.loop-i.i c.loop-i-test.true
          c.index-plan-i.result c.loop-i.children.items x c.loop-i.invariant.children child c.index-plan-i.is);
    }

pub returns-clause-children : goal.returns-clause-children
returns-clause-children c =
    let end : c.loop-i.i ≡ length c.args.plan.now = omega (arith, c.loop-i-test.false, c.loop-i.auto.i-end) in
    c.loop-i.invariant.children ∙ ap (children_so_far c.args.parent.now c.args.plan.now) end
    ∙ mixed_all c.args.parent.now c.args.plan.now
