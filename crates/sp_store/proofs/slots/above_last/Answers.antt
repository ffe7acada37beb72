use Rattle.std.proofs.Common.{sym, arith}
use Rattle.sp_store.proofs.Places.{above_layout, above_empty}
use Rattle.sp_store.proofs.slots.above_last.Goals as goal

pub returns-then-n-eq0 : goal.returns-then-n-eq0
returns-then-n-eq0 c = sym (above_empty c.args.spots.now c.args.entries.now c.requires.sorted c.requires.lengths
    (omega arith))

pub overflow_add-result : goal.overflow_add-result
overflow_add-result c = omega (
  arith,
  c.requires.below,
  above_layout c.args.spots.now c.args.entries.now c.requires.sorted c.requires.lengths
      (record { frame = 0; variable = 0 }) (omega arith),
)

pub returns : goal.returns
returns c = sym (above_layout c.args.spots.now c.args.entries.now c.requires.sorted c.requires.lengths
    (record { frame = 0; variable = 0 }) (omega arith))
