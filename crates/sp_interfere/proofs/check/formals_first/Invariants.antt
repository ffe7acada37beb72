use Rattle.std.proofs.Common.{◌≡◌, drop}
use Rattle.sp_tree.specs.CheckedOf.{program_of}
use Rattle.sp_interfere.specs.Rules.{formals_first}
use Rattle.sp_interfere.proofs.check.formals_first.Given as goal

abbrev pub invariant-loop-x : goal.invariant-loop-x
invariant-loop-x l = formals_first l.s (program_of l.c) (drop l.x-index l.xs) l.first
    ≡ formals_first l.s (program_of l.c) l.xs l.fn.first
