use Rattle.std.proofs.Common.{◌≡◌, ◌+◌, ◌≤◌, map, drop}
use Rattle.sp_tree.specs.PlainOf.{expr_of, sends, program_of}
use Rattle.sp_code.specs.Lengths.{all_length}
use Rattle.sp_generate.specs.CappedLength.{capped_length}
use Rattle.sp_generate.proofs.statement_lengths.sends_length.Given as goal

abbrev pub invariant-loop-e : goal.invariant-loop-e
invariant-loop-e l = (l.q ≤ 4294967295) × (capped_length
    (l.q + all_length (program_of l.program) (sends (expr_of l.channel) (map expr_of (drop l.e-index l.values))))
    ≡ capped_length (l.fn.q + all_length (program_of l.program) (sends (expr_of l.channel) (map expr_of l.values))))
