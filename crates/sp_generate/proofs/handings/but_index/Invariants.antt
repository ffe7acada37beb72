use Rattle.std.proofs.Common.{◌≡◌, false, ◌++◌, Some, drop}
use Rattle.sp_code.specs.TreeCode.{but_index}
use Rattle.sp_generate.proofs.handings.but_index.Given as goal

abbrev pub invariant-loop-y : goal.invariant-loop-y
invariant-loop-y l = l.out.is_lost ≡ false
    → l.out.items.items ++ but_index (Some l.index) (drop l.y-index l.xs)
    ≡ but_index (Some l.index) l.xs
