use Rattle.std.proofs.Common.{◌≡◌, ◌+◌, ◌≤◌, map, drop}
use Rattle.sp_tree.specs.PlainOf.{expr_of, var_of, receives, program_of}
use Rattle.sp_code.specs.Lengths.{all_length}
use Rattle.sp_generate.specs.CappedLength.{capped_length}
use Rattle.sp_generate.proofs.statement_lengths.receives_length.Given as goal

abbrev pub invariant-loop-v : goal.invariant-loop-v
invariant-loop-v l = (l.q ≤ 4294967295) × (capped_length
    (l.q + all_length (program_of l.program) (receives (expr_of l.channel) (map var_of (drop l.v-index l.variables))))
    ≡ capped_length (l.fn.q + all_length (program_of l.program)
    (receives (expr_of l.channel) (map var_of l.variables))))
