use Rattle.std.proofs.Common.{◌≡◌, ◌+◌, ◌≤◌, drop}
use Rattle.sp_tree.specs.PlainOf.{blocks_of, program_of}
use Rattle.sp_code.specs.Lengths.{blocks_length}
use Rattle.sp_code.specs.Places.{tree_length}
use Rattle.sp_generate.specs.CappedLength.{capped_length}
use Rattle.sp_generate.proofs.program_length.length.Given as goal

abbrev pub invariant-loop-b : goal.invariant-loop-b
invariant-loop-b l = (l.q ≤ 4294967295) × (capped_length
    (l.q + blocks_length (program_of l.program) (blocks_of (drop l.b-index l.program.blocks)))
    ≡ capped_length (tree_length (program_of l.program)))
