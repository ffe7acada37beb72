use Rattle.std.proofs.Common.{◌≡◌, ◌++◌, length, map, drop}
use Rattle.sp_tree.specs.CheckedOf.{block_of}
use Rattle.sp_base.specs.Adds.{Keeps}
use Rattle.sp_generate.specs.BuffersAfter.{with_blocks, layouts_in}
use Rattle.sp_generate.proofs.program.put_blocks.Given as goal

abbrev pub invariant-loop-b : goal.invariant-loop-b
invariant-loop-b l = Keeps l.fn.d.instrs l.d.instrs
    ((with_blocks l.g l.sets l.d l.b (map block_of (drop l.b l.g.checked.now.blocks))
    ≡ with_blocks l.g l.sets l.fn.d 0 (map block_of l.g.checked.now.blocks)) ×
    (l.layouts ++ layouts_in l.g l.b (length l.d.instrs.items.items)
    (map block_of (drop l.b l.g.checked.now.blocks))
    ≡ layouts_in l.g 0 (length l.fn.d.instrs.items.items) (map block_of l.g.checked.now.blocks)))
