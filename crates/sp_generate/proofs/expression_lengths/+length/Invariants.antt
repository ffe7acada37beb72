use Rattle.std.proofs.Common.{◌≡◌, ◌+◌, ◌≤◌, drop}
use Rattle.sp_tree.specs.PlainOf.{actuals_of, selectors_of}
use Rattle.sp_code.specs.Lengths.{selectors_length, actuals_length}
use Rattle.sp_generate.specs.CappedLength.{capped_length}
use Rattle.sp_generate.proofs.expression_lengths.+length.Given as goal

abbrev pub invariant-actuals_length-loop-a : goal.invariant-actuals_length-loop-a
invariant-actuals_length-loop-a l = (l.q ≤ 4294967295)
    × (capped_length (l.q + actuals_length (actuals_of (drop l.a-index l.args)))
    ≡ capped_length (l.fn.q + actuals_length (actuals_of l.args)))

abbrev pub invariant-selectors_length-loop-s : goal.invariant-selectors_length-loop-s
invariant-selectors_length-loop-s l = (l.q ≤ 4294967295)
    × (capped_length (l.q + selectors_length (selectors_of (drop l.s-index l.ss)))
    ≡ capped_length (l.fn.q + selectors_length (selectors_of l.ss)))
