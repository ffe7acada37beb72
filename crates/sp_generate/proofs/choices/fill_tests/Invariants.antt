use Rattle.std.proofs.Common.{◌≡◌, map, drop}
use Rattle.sp_tree.specs.CheckedOf.{arms, arm_of}
use Rattle.sp_tree.specs.Bare.{bare_arms}
use Rattle.sp_generate.specs.CodeBuffers.{filled_tests}
use Rattle.sp_generate.proofs.choices.fill_tests.Given as goal

abbrev pub invariant-loop-n : goal.invariant-loop-n
invariant-loop-n l = filled_tests l.code.items l.k (bare_arms (arms (map arm_of (drop l.n l.xs)))) (drop l.n l.starts)
    ≡ filled_tests l.fn.code.items l.fn.k (bare_arms (arms (map arm_of l.xs))) l.starts
