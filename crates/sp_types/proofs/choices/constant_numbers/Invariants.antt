use Rattle.std.proofs.Common.{◌≡◌, ◌++◌, drop, false}
use Rattle.sp_types.specs.CheckedTree.{constant_numbers}
use Rattle.sp_types.proofs.choices.constant_numbers.Given as goal

abbrev pub invariant-loop-c : goal.invariant-loop-c
invariant-loop-c l =
    (l.walk.is_lost ≡ false → (l.fn.walk.is_lost ≡ false) × (l.walk.first ≡ l.fn.walk.first) ×
    (l.out.items ++ constant_numbers l.t (drop l.c-index l.cs) ≡ constant_numbers l.t l.cs))
