use Rattle.std.proofs.Common.{◌≡◌, ◌≢◌, ◌+◌, ◌≤◌, [], ◌∷◌, length, Some, subst, sym, arith}
use Rattle.std.proofs.Math.ListN.{length-append}
use Rattle.std.specs.FinMap as map
use Rattle.sp_cell.specs.declared.spot.Spot.{Spot}
use Rattle.sp_cell.specs.Frame.{next_frame, with_new_frame}
use Rattle.sp_cell.proofs.FrameLaws.{next_pushed}
use Rattle.sp_cell.specs.Map.{Plain, Away}
use Rattle.sp_cell.proofs.Laws.{pieces_not_away}
use Rattle.parts_tests.proofs.stores.push_all.Goals as goal

pub loop-preserved : goal.loop-preserved
loop-preserved c =
    let p = c.loop.store in
    let is : c.push_frame.new.self ≡ with_new_frame p (1 ∷ []) = c.in_ok-push_frame.ensures.pushed in
    let number = next_pushed p (1 ∷ []) in
    let len = length-append p.own (next_frame p ∷ []) in
    record {
      number = subst (λ (x : Plain). next_frame x ≤ c.loop.counter + 1 + 1) (sym is)
          (omega (arith, number, c.loop.invariant.number));
      frames = subst (λ (x : Plain). length x.own ≡ length c.args.store.now.own + (c.loop.counter + 1)) (sym is)
          (omega (arith, len, c.loop.invariant.frames));
      here = subst (λ (x : Plain). (q : Spot) → map.get x.map q ≢ Some Away) (sym is)
          (pieces_not_away p.map (next_frame p) 0 (1 ∷ []) c.loop.invariant.here);
    }
