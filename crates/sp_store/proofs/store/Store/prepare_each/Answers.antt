use Rattle.std.proofs.Common.{◌<◌, List, subst, ap, ◌∙◌, inl}
use Rattle.std.specs.FinMap as map
use Rattle.sp_cell.specs.declared.spot.Spot.{Spot}
use Rattle.sp_cell.specs.declared.spot.Handing.{Handing}
use Rattle.sp_cell.specs.Map.{IsPiece, spot_cmp}
use Rattle.sp_cell.specs.Fork.{with_shared, shared_of}
use Rattle.sp_cell.proofs.Plan.{each_shared, each_moved, distinct_in, ready_step, children_step, take_all}
use Rattle.sp_cell.proofs.Plan.{at_places, index_at, lent_again}
use Rattle.sp_cell.specs.Spots.{In}
use Rattle.sp_cell.proofs.Laws.{known_of_piece}
use Rattle.sp_store.proofs.store.Store.prepare_each.Goals as goal

pub loop-handing-init : goal.loop-handing-init
loop-handing-init c = record {
  ready = c.in-Ok-lend.ensures.ready
      ∙ ap (λ (ss : List Spot). with_shared c.args.from.now ss c.args.ready.now) c.deref.ensures.value
      ∙ ap (with_shared c.args.from.now c.in-Ok.value.items) c.requires.empty.0;
  lent = c.in-Ok-lend.ensures.lent;
  children = c.requires.empty.1;
}

pub lend-requires-clause-pieces : goal.lend-requires-clause-pieces
lend-requires-clause-pieces c = at_places (λ q. IsPiece (map.get c.args.from.now q)) c.deref.result.now
    (λ q i. c.requires.pieces q (c.in-Ok.ensures q (subst (In q) c.deref.ensures.value i)))

pub lend-requires-clause-lent : goal.lend-requires-clause-lent
lend-requires-clause-lent c q = inl (rw c.requires.empty.0 (map.get-empty spot_cmp q))

pub prepare-requires-clause-pieces : goal.prepare-requires-clause-pieces
prepare-requires-clause-pieces c = each_shared (λ q. IsPiece (map.get c.args.from.now q)) c.args.plan.now
    c.loop-handing.handing-index c.handing-item.result c.loop-handing-test.true c.handing-item.is c.requires.pieces

pub prepare-requires-clause-distinct : goal.prepare-requires-clause-distinct
prepare-requires-clause-distinct c = distinct_in c.args.plan.now c.loop-handing.handing-index c.handing-item.result
    c.loop-handing-test.true c.handing-item.is c.requires.distinct

pub prepare-requires-clause-frames : goal.prepare-requires-clause-frames
prepare-requires-clause-frames c index =
    let hs = c.args.plan.now in
    let below = c.requires.frames (index_at hs c.loop-handing.handing-index c.handing-item.result
    c.loop-handing-test.true c.handing-item.is index) in (
      each_moved (λ q. q.frame < 18446744073709551615) hs c.loop-handing.handing-index c.handing-item.result
          c.loop-handing-test.true c.handing-item.is (λ q i. below q (c.requires.known q i)),
      each_shared (λ q. q.frame < 18446744073709551615) hs c.loop-handing.handing-index c.handing-item.result
          c.loop-handing-test.true c.handing-item.is (λ q i. below q (known_of_piece _ (c.requires.pieces q i))),
    )

pub loop-handing-preserved : goal.loop-handing-preserved
loop-handing-preserved c = let m = c.args.from.now in record {
  ready = c.in-Ok-prepare.ensures.ready ∙ ap (with_shared m c.handing-item.result.shared) c.loop-handing.invariant.ready
      ∙ ready_step m c.in-Ok.value.items c.args.plan.now c.loop-handing.handing-index c.handing-item.result
      c.loop-handing-test.true c.handing-item.is;
  lent = c.in-Ok-prepare.ensures.lent;
  children = c.in-Ok-push.ensures.items ∙ rw (c.in-Ok-prepare.ensures.child, c.loop-handing.invariant.children)
      (children_step m c.args.plan.now c.loop-handing.handing-index c.handing-item.result c.loop-handing-test.true
      c.handing-item.is);
}

pub returns-clause-ready : goal.returns-clause-ready
returns-clause-ready c =
    let m = c.args.from.now in
    c.loop-handing.invariant.ready
    ∙ ap (λ (hs : List Handing). with_shared m c.in-Ok.value.items (with_shared m (shared_of hs) map.empty))
    (take_all c.args.plan.now c.loop-handing.handing-index c.loop-handing-test.false)
    ∙ lent_again m (shared_of c.args.plan.now) c.in-Ok.value.items c.in-Ok.ensures
