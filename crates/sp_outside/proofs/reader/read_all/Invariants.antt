use Rattle.std.proofs.Common.{◌+◌, ◌-◌, ◌≤◌, vec_len}
use Rattle.sp_outside.specs.Visible.{Shrinks}
use Rattle.sp_outside.proofs.reader.read_all.Given as goal

abbrev pub invariant-loop-piece : goal.invariant-loop-piece
invariant-loop-piece g l =
    Shrinks (g.S.Source.left l.fn.source) (g.S.Source.left l.source) l.all.items
    × (g.S.Source.faults l.fn.source ≤ g.S.Source.faults l.source)
    × (vec_len l.all ≤ l.limit + 1)

abbrev pub decreases-loop-piece : goal.decreases-loop-piece
decreases-loop-piece g l = l.limit + 1 - vec_len l.all
