use Rattle.std.proofs.Common.{refl}
use Rattle.sp_code.specs.Memory.{last_frames}
use Rattle.sp_base.proofs.Additions.{ends}
use Rattle.sp_where.specs.KnownOf.{known_of}
use Rattle.sp_where.proofs.StateLines.{none_left}
use Rattle.sp_where.proofs.state_calls.put_moved_frames.Goals as goal

pub returns-then-is_empty : goal.returns-then-is_empty
returns-then-is_empty c = λ kept.
    let all = c.loop-count.invariant.frames kept in (
      all.0,
      ends c.loop-count.out.items.items all.1 (none_left (known_of c.args.known.now) c.args.store.now c.loop-count.left
          (last_frames c.loop-count.count c.args.frames.now) (c.if-is_empty.ensures.0 refl)),
    )
