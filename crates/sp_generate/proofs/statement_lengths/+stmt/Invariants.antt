use Rattle.std.proofs.Common.{◌≡◌, ◌+◌, ◌≤◌, drop}
use Rattle.sp_tree.specs.PlainOf.{arms_of, program_of, stmts_of}
use Rattle.sp_code.specs.Lengths.{all_length, children_length, arms_length}
use Rattle.sp_generate.specs.CappedLength.{capped_length}
use Rattle.sp_generate.proofs.statement_lengths.+stmt.Given as goal

abbrev pub invariant-all_length-loop-s : goal.invariant-all_length-loop-s
invariant-all_length-loop-s l = (l.q ≤ 4294967295)
    × (capped_length (l.q + all_length (program_of l.program) (stmts_of (drop l.s-index l.ss)))
    ≡ capped_length (l.fn.q + all_length (program_of l.program) (stmts_of l.ss)))

abbrev pub invariant-children_length-loop-s : goal.invariant-children_length-loop-s
invariant-children_length-loop-s l = (l.q ≤ 4294967295)
    × (capped_length (l.q + children_length (program_of l.program) (stmts_of (drop l.s-index l.ss)))
    ≡ capped_length (l.fn.q + children_length (program_of l.program) (stmts_of l.ss)))

abbrev pub invariant-arms_length-loop-a : goal.invariant-arms_length-loop-a
invariant-arms_length-loop-a l = (l.q ≤ 4294967295)
    × (capped_length (l.q + arms_length (program_of l.program) (arms_of (drop l.a-index l.arms)))
    ≡ capped_length (l.fn.q + arms_length (program_of l.program) (arms_of l.arms)))
