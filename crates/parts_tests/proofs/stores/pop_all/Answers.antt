use Rattle.std.proofs.Common.{◌≡◌, ◌≢◌, ◌+◌, ◌-◌, length, Some, subst, sym, arith}
use Rattle.std.proofs.lemmas.List.{length-take-le}
use Rattle.std.specs.FinMap as map
use Rattle.sp_cell.specs.declared.spot.Spot.{Spot}
use Rattle.sp_cell.specs.Frame.{last_own_frame}
use Rattle.sp_cell.specs.Map.{Plain, Away}
use Rattle.parts_tests.proofs.FreshStores.{none_without}
use Rattle.parts_tests.proofs.stores.pop_all.Goals as goal

pub loop-preserved : goal.loop-preserved
loop-preserved c =
    let p = c.loop.store in
    let len = length-take-le (length p.own - 1) p.own (omega arith) in
    record {
      frames = subst (λ (x : Plain). length x.own + (c.loop.counter + 1) ≡ length c.args.store.now.own)
          (sym c.pop_frame.ensures) (omega (arith, len, c.loop.invariant.frames, c.loop-test.true, c.requires.frames));
      here = subst (λ (x : Plain). (q : Spot) → map.get x.map q ≢ Some Away) (sym c.pop_frame.ensures)
          (none_without p.map (last_own_frame p.own) c.loop.invariant.here);
    }
