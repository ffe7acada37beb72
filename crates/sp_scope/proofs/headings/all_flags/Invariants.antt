use Rattle.std.proofs.Common.{◌≡◌, ◌++◌, drop, false}
use Rattle.sp_scope.specs.Flags.{all_flags}
use Rattle.sp_scope.proofs.headings.all_flags.Given as goal

abbrev pub invariant-loop-f : goal.invariant-loop-f
invariant-loop-f l = l.walk.is_lost ≡ false → (l.fn.walk.is_lost ≡ false) ×
    (l.walk.first ≡ l.fn.walk.first) ×
    (l.out.items ++ all_flags (drop l.f-index l.fs) ≡ all_flags l.fs)
