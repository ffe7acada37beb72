use Rattle.std.proofs.Common.{◌≡◌, false, ◌++◌, drop}
use Rattle.std.specs.List.{filter}
use Rattle.sp_generate.specs.Handings.{is_shared, shared_of}
use Rattle.sp_generate.proofs.handings.shared.Given as goal

abbrev pub invariant-loop-x : goal.invariant-loop-x
invariant-loop-x l = l.out.is_lost ≡ false
    → l.out.items.items ++ filter (is_shared l.sets l.number) (drop l.x-index l.x-items)
    ≡ shared_of l.sets l.number
