use Rattle.std.proofs.Common.{◌≡◌, ◌+◌, length, drop}
use Rattle.sp_generate.specs.CodeBuffers.{filled_test}
use Rattle.sp_generate.proofs.choices.fill_test.Given as goal

abbrev pub invariant-loop-m : goal.invariant-loop-m
invariant-loop-m l =
    (filled_test l.code.items l.k (drop l.m-index l.constants) l.to
    ≡ filled_test l.fn.code.items l.fn.k l.constants l.to) ×
    (l.k + length (drop l.m-index l.constants) ≡ l.fn.k + length l.constants)
