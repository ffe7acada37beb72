use Rattle.std.proofs.Common.{◌≡◌, ◌+◌, ◌≤◌, drop}
use Rattle.sp_tree.specs.PlainOf.{arms_of}
use Rattle.sp_code.specs.Lengths.{tests_length}
use Rattle.sp_generate.specs.CappedLength.{capped_length}
use Rattle.sp_generate.proofs.statement_lengths.tests_length.Given as goal

abbrev pub invariant-loop-a : goal.invariant-loop-a
invariant-loop-a l = (l.q ≤ 4294967295) × (capped_length (l.q + tests_length (arms_of (drop l.a-index l.arms)))
    ≡ capped_length (l.fn.q + tests_length (arms_of l.arms)))
