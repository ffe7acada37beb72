use Rattle.std.proofs.Common.{drop}
use Rattle.sp_code.specs.TreeCode.{test_code}
use Rattle.sp_base.specs.Adds.{Covers}
use Rattle.sp_generate.proofs.choices.put_blank.Given as goal

abbrev pub invariant-loop-m : goal.invariant-loop-m
invariant-loop-m l = Covers l.fn.code l.code (test_code (drop l.m-index l.constants) 0) (test_code l.constants 0)
