use Rattle.std.proofs.Common.{map, drop}
use Rattle.sp_tree.specs.CheckedOf.{arms, arm_of}
use Rattle.sp_tree.specs.Bare.{bare_arms}
use Rattle.sp_base.specs.Adds.{Covers}
use Rattle.sp_generate.specs.CodeBuffers.{blank_tests}
use Rattle.sp_generate.proofs.choices.put_blanks.Given as goal

abbrev pub invariant-loop-a : goal.invariant-loop-a
invariant-loop-a l = Covers l.fn.code l.code (blank_tests (bare_arms (arms (map arm_of (drop l.a-index l.xs)))))
    (blank_tests (bare_arms (arms (map arm_of l.xs))))
