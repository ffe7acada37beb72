use Rattle.sp_cell.specs.declared.spot.Spot.{Spot}
use Rattle.sp_cell.specs.Fork.{shared_of}
use Rattle.sp_cell.specs.Spots.{In}
use Rattle.sp_store.proofs.fork.shares_in_order.Given as goal

abbrev pub invariant-loop-handing : goal.invariant-loop-handing
invariant-loop-handing l = (q : Spot) → In q l.spots.items → In q (shared_of l.plan)
