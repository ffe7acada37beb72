use Rattle.std.proofs.Common.{ap, subst, sym, IsSome}
use Rattle.std.specs.FinMap as map
use Rattle.sp_cell.specs.Map.{Plain}
use Rattle.sp_cell.proofs.Laws.{known_of_held, known_of_away}
use Rattle.sp_cell.proofs.Plan.{at_places}
use Rattle.sp_cell.specs.Spots.{AllHeld}
use Rattle.sp_cell.proofs.HeldLaws.{join_keeps}
use Rattle.sp_store.proofs.store.Store.join.Goals as goal

pub hand-requires-clause-known : goal.hand-requires-clause-known
hand-requires-clause-known c =
    let child = c.child.view_is in
    let held : AllHeld c.child.inside.slots c.child.inside.moved =
    subst (λ (p : Plain). AllHeld p.map p.moved) (sym child) c.requires.held in
    rw c.items.ensures (at_places (λ q. IsSome (map.get c.child.inside.slots q)) c.child.inside.moved
    (λ q i. known_of_held _ (held q i)))

pub hand-requires-clause-room : goal.hand-requires-clause-room
hand-requires-clause-room c =
    let child = ap (λ (p : Plain). p.moved) c.child.view_is in
    let own = ap (λ (p : Plain). p.map) c.self.view_is in
    rw (c.items.ensures, child, own) (at_places (λ q. IsSome (map.get c.args.self.now.map q)) c.args.child.moved
    (λ q i. known_of_away _ (c.requires.away q i)))

pub returns-clause-partition : goal.returns-clause-partition
returns-clause-partition c =
    let slots = ap (λ (p : Plain). p.map) c.child.view_is in
    let moved = ap (λ (p : Plain). p.moved) c.child.view_is in
    let own = ap (λ (p : Plain). p.map) c.self.view_is in
    rw (c.hand.ensures.to, c.items.ensures, slots, moved, own)
    (join_keeps c.args.self.now.map c.args.child c.requires.held c.requires.away)
