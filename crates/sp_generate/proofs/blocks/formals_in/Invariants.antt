use Rattle.std.proofs.Common.{◌≡◌, false, ◌++◌, drop}
use Rattle.sp_generate.specs.Views.{plain_program, formals_in}
use Rattle.sp_generate.proofs.blocks.formals_in.Given as goal

abbrev pub invariant-loop-x : goal.invariant-loop-x
invariant-loop-x l = l.out.is_lost ≡ false
    → l.out.items.items ++ formals_in (plain_program l.g) (drop l.x-index l.xs)
    ≡ formals_in (plain_program l.g) l.xs
