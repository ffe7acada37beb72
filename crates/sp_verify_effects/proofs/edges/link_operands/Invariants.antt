use Rattle.std.proofs.Common.{◌≡◌, ◌+◌, ℕ}
use Rattle.std.specs.Prelude.{slice_get}
use Rattle.sp_verify_shapes.specs.Stacks.{IsListNumber, list_of}
use Rattle.sp_verify_effects.specs.Edges.{Links, IsDeeper}
use Rattle.sp_verify_effects.proofs.edges.link_operands.Given as goal

-- the edges of the operands so far are put, and the others are left
abbrev pub invariant-loop-depth : goal.invariant-loop-depth
invariant-loop-depth l =
    IsListNumber l.stacks l.at × ((d : ℕ)
    → slice_get (list_of l.stacks l.at) d ≡ slice_get (list_of l.stacks l.stack) (l.depth + d))
    × Links l.fn.rows l.rows (IsDeeper l.layout l.to (list_of l.stacks l.stack) l.depth)
