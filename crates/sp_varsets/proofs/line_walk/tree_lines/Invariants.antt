use Rattle.std.proofs.Common.{◌≡◌, ◌++◌, map, drop, false}
use Rattle.sp_tree.specs.CheckedOf.{block_of, program_of}
use Rattle.sp_varsets.specs.LineForks.{blocks_lines, tree_lines}
use Rattle.sp_varsets.proofs.line_walk.tree_lines.Given as goal

abbrev pub invariant-loop-block : goal.invariant-loop-block
invariant-loop-block l = l.lines.is_lost ≡ false → l.lines.items.items
    ++ blocks_lines (map block_of (drop l.block-index l.checked.blocks)) ≡ tree_lines (program_of l.checked)
