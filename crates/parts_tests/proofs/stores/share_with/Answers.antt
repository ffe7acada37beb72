use Rattle.std.proofs.Common.{List, subst, sym}
use Rattle.std.specs.FinMap as map
use Rattle.sp_cell.specs.declared.spot.Spot.{Spot}
use Rattle.sp_cell.specs.declared.spot.Handing.{Handing}
use Rattle.sp_cell.specs.Fork.{moved_of, shared_of, HasIndex}
use Rattle.sp_cell.specs.Map.{IsPiece}
use Rattle.sp_cell.specs.Spots.{In, IsDistinct}
use Rattle.parts_tests.proofs.FreshStores.{none_moved, all_share, no_index}
use Rattle.parts_tests.proofs.stores.share_with.Goals as goal

pub split-requires-clause-held : goal.split-requires-clause-held
split-requires-clause-held c q i = absurd (subst (λ (ss : List Spot). In q ss) (none_moved c.args.spot c.args.children)
    (subst (λ (hs : List Handing). In q (moved_of hs)) c.in_ok-plan.ensures i))

pub split-requires-clause-pieces : goal.split-requires-clause-pieces
split-requires-clause-pieces c q i =
    let same = all_share c.args.spot c.args.children q
    (subst (λ (hs : List Handing). In q (shared_of hs)) c.in_ok-plan.ensures i) in
    subst (λ (s : Spot). IsPiece (map.get c.args.store.now.map s)) (sym same) c.requires

pub split-requires-clause-distinct : goal.split-requires-clause-distinct
split-requires-clause-distinct c = subst (λ (hs : List Handing). IsDistinct (moved_of hs)) (sym c.in_ok-plan.ensures)
    (subst IsDistinct (sym (none_moved c.args.spot c.args.children)) tt)

pub split-requires-clause-apart : goal.split-requires-clause-apart
split-requires-clause-apart c q i = absurd (subst (λ (ss : List Spot). In q ss) (none_moved c.args.spot c.args.children)
    (subst (λ (hs : List Handing). In q (moved_of hs)) c.in_ok-plan.ensures i))

pub split-requires-clause-number : goal.split-requires-clause-number
split-requires-clause-number c index = absurd
    (no_index c.args.spot c.args.children (subst HasIndex c.in_ok-plan.ensures index))
