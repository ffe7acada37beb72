use Rattle.std.proofs.Common.{◌≡◌, ◌++◌, drop, false}
use Rattle.sp_scope.specs.Flags.{flags}
use Rattle.sp_scope.proofs.headings.push_flags.Given as goal

abbrev pub invariant-loop-x : goal.invariant-loop-x
invariant-loop-x l = l.walk.is_lost ≡ false → (l.fn.walk.is_lost ≡ false) ×
    (l.walk.first ≡ l.fn.walk.first) ×
    (l.out.items ++ flags l.by_reference (drop l._x-index l.xs) ≡ l.fn.out.items ++ flags l.by_reference l.xs)
