use Rattle.std.proofs.Common.{◌≡◌, ℕ, ◌<◌, List, length, get_or, subst, sym, ap, ◌∙◌, IsSome, arith}
use Rattle.std.specs.FinMap as map
use Rattle.sp_cell.specs.declared.spot.Spot.{Spot}
use Rattle.sp_cell.specs.declared.spot.Handing.{Handing}
use Rattle.sp_cell.specs.Map.{Map, Plain, IsPiece, with_map}
use Rattle.sp_cell.specs.Fork.{with_shared, with_away, with_contents, map_after_fork, moved_of, shared_of}
use Rattle.sp_cell.specs.Fork.{children_of}
use Rattle.sp_cell.proofs.Plan.{known_ready, merged, at_each, in_of_at}
use Rattle.sp_cell.specs.Spots.{In}
use Rattle.sp_cell.proofs.FrameLaws.{known_below}
use Rattle.sp_cell.proofs.HeldLaws.{split_keeps}
use Rattle.sp_cell.proofs.Laws.{known_of_held}
use Rattle.sp_cell.proofs.Partition.{split_join}
use Rattle.sp_cell.proofs.Steps.{known_away}
use Rattle.sp_store.proofs.store.Store.split.Goals as goal

pub prepare_each-requires-clause-pieces : goal.prepare_each-requires-clause-pieces
prepare_each-requires-clause-pieces c =
    rw (c.items-handings.ensures, ap (λ (p : Plain). p.map) c.self.view_is) c.requires.pieces

pub prepare_each-requires-clause-known : goal.prepare_each-requires-clause-known
prepare_each-requires-clause-known c =
    rw (c.items-handings.ensures, ap (λ (p : Plain). p.map) c.self.view_is)
    (λ q i. known_of_held _ (c.requires.held q i))

pub prepare_each-requires-clause-frames : goal.prepare_each-requires-clause-frames
prepare_each-requires-clause-frames c =
    rw (c.items-handings.ensures, ap (λ (p : Plain). p.map) c.self.view_is)
    (λ index q k. let number = c.requires.number index in let less = known_below c.args.self.now.map q k in
    omega (arith, number, less))

pub hand-requires-clause-room : goal.hand-requires-clause-room
hand-requires-clause-room c k d b =
    let m = c.self.inside.slots in
    let slots = ap (λ (p : Plain). p.map) c.self.view_is in
    let plan = c.items-handings.ensures in
    let ready : c.prepare_each.new.ready ≡ with_shared m (shared_of c.args.plan.now) map.empty = c.in-Ok.ensures.ready
    ∙ ap (λ (hs : List Handing). with_shared m (shared_of hs) map.empty) plan in
    let list : c.deref.result.now ≡ c.spots.result.now = c.deref.ensures.value ∙ c.in-Ok-from_slice.ensures.items in
    let known : IsSome (map.get c.prepare_each.new.ready (get_or c.deref.result.now k d)) =
    subst (λ (ss : List Spot). (k : ℕ) (d : Spot) → k < length ss
    → IsSome (map.get c.prepare_each.new.ready (get_or ss k d))) (sym list) c.spots.ensures.known k d b in
    rw c.fill.ensures.parent (known_away m (moved_of c.items-handings.result.now) _
    (known_ready m (shared_of c.args.plan.now)
    (λ q j. subst (λ (y : Map). IsPiece (map.get y q)) (sym slots) (c.requires.pieces q j)) _
    (subst (λ (r : Map). IsSome (map.get r (get_or c.deref.result.now k d))) ready known)))

pub returns-clause-parent : goal.returns-clause-parent
returns-clause-parent c =
    let m = c.self.inside.slots in
    let plan = c.items-handings.ensures in
    let ready : c.prepare_each.new.ready ≡ with_shared m (shared_of c.args.plan.now) map.empty = c.in-Ok.ensures.ready
    ∙ ap (λ (hs : List Handing). with_shared m (shared_of hs) map.empty) plan in
    let list : c.deref.result.now ≡ c.spots.result.now = c.deref.ensures.value ∙ c.in-Ok-from_slice.ensures.items in
    let there : (q : Spot) → In q c.deref.result.now
    → IsSome (map.get (with_shared m (shared_of c.args.plan.now) map.empty) q) =
    at_each (λ q. IsSome (map.get (with_shared m (shared_of c.args.plan.now) map.empty) q)) c.deref.result.now
    (subst (λ (ss : List Spot). (k : ℕ) (d : Spot) → k < length ss
    → IsSome (map.get (with_shared m (shared_of c.args.plan.now) map.empty) (get_or ss k d))) (sym list)
    (subst (λ (r : Map). (k : ℕ) (d : Spot) → k < length c.spots.result.now
    → IsSome (map.get r (get_or c.spots.result.now k d))) ready c.spots.ensures.known)) in
    let back : (q : Spot) → IsSome (map.get (with_shared m (shared_of c.args.plan.now) map.empty) q)
    → In q c.deref.result.now =
    λ q k. subst (In q) (sym list) (in_of_at q c.spots.result.now
    (c.spots.ensures.all q (subst (λ (r : Map). IsSome (map.get r q)) (sym ready) k))) in
    let to : c.hand.new.to ≡ map_after_fork m c.args.plan.now =
    c.hand.ensures.to ∙ ap (λ (r : Map). with_contents r c.deref.result.now c.fill.new.parent) ready
    ∙ merged m c.args.plan.now c.deref.result.now there back c.fill.new.parent
    ∙ ap (with_shared m (shared_of c.args.plan.now))
    (c.fill.ensures.parent ∙ ap (λ (hs : List Handing). with_away m (moved_of hs)) plan) in
    subst (λ (p : Plain). record { map = c.hand.new.to; own = c.self.inside.own.items; moved = c.self.inside.moved }
    ≡ with_map p (map_after_fork p.map c.args.plan.now)) c.self.view_is
    (ap (λ (z : Map). record { map = z; own = c.self.inside.own.items; moved = c.self.inside.moved }) to)

pub returns-clause-children : goal.returns-clause-children
returns-clause-children c = c.of.ensures ∙ c.fill.ensures.children
    ∙ ap (children_of c.self.inside.slots) c.items-handings.ensures
    ∙ ap (λ (p : Plain). children_of p.map c.args.plan.now) c.self.view_is

pub returns-clause-partition : goal.returns-clause-partition
returns-clause-partition c =
    let keeps = split_keeps c.args.self.now.map c.args.plan.now c.requires.held c.requires.pieces c.requires.distinct
    c.requires.apart in
    let to : c.hand.new.to ≡ map_after_fork c.args.self.now.map c.args.plan.now =
    ap (λ (p : Plain). p.map) (returns-clause-parent c) in
    rw (returns-clause-children c, to) keeps

pub returns-clause-back : goal.returns-clause-back
returns-clause-back c =
    let back = split_join c.args.self.now.map c.args.plan.now c.requires.held c.requires.apart in
    let to : c.hand.new.to ≡ map_after_fork c.args.self.now.map c.args.plan.now =
    ap (λ (p : Plain). p.map) (returns-clause-parent c) in
    rw (returns-clause-children c, to) back
