use Rattle.std.proofs.Common.{◌≡◌, ◌-◌, Some, length}
use Rattle.sp_tree.specs.CheckedOf.{program_of}
use Rattle.sp_interfere.specs.Rules.{stands_in}
use Rattle.sp_interfere.proofs.sites.stands_in.Given as goal

abbrev pub invariant-up : goal.invariant-up
invariant-up l = (length (program_of l.c).blocks ≡ l.end)
    × (stands_in (program_of l.c).blocks (l.end - l.counter) l.here l.f
    ≡ stands_in (program_of l.c).blocks (length (program_of l.c).blocks) (Some l.d) l.f)
