use Rattle.std.proofs.Common.{ℕ, List, arith, subst, sym, length-take}
use Rattle.sp_outside.specs.Visible.{Shrinks, shrinks_none, shrinks_more}
use Rattle.sp_outside.proofs.reader.read_all.Goals as goal

pub loop-piece-init : goal.loop-piece-init
loop-piece-init g c =
    let Taken : List ℕ → Type 0 = λ v. Shrinks (g.S.Source.left c.args.source.now) (g.S.Source.left c.args.source.now)
    v in
    (subst Taken (sym c.new-all.ensures.items) (shrinks_none _), omega arith, omega (arith, c.new-all.ensures.len))

pub loop-piece-preserved : goal.loop-piece-preserved
loop-piece-preserved g c =
    let before = c.loop-piece.invariant in
    let taken = c.in_ok-count.ensures in
    let Taken : List ℕ → Type 0 = λ v. Shrinks (g.S.Source.left c.args.source.now) (g.S.Source.left c.take.new.self)
    v in (
      subst Taken (sym c.in_ok-extend_from_slice.ensures.items) (shrinks_more _ _ _ _ _ before.0 taken.moved),
      omega (arith, before.1, taken.counted),
      omega (
        arith,
        c.in_ok-extend_from_slice.ensures.len,
        taken.within,
        c.min-most.ensures,
        length-take c.in_ok-count.count c.take.new.buf,
        length-take c.min-most.result c.loop-piece.piece,
      ),
    )
