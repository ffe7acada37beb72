use Rattle.std.proofs.Common.{◌≡◌, drop, false}
use Rattle.sp_types.specs.Firsts.{choices_first}
use Rattle.sp_types.specs.TypeWalk.{with_constants}
use Rattle.sp_types.proofs.choices.check_constants.Given as goal

abbrev pub invariant-loop-c : goal.invariant-loop-c
invariant-loop-c l = l.walk.is_lost ≡ false → (l.fn.walk.is_lost ≡ false) ×
    (choices_first l.t l.k l.before (drop l.c-index l.cs) l.walk.first
    ≡ choices_first l.t l.k l.fn.before l.cs l.fn.walk.first) ×
    (with_constants l.t (drop l.c-index l.cs) l.before ≡ with_constants l.t l.cs l.fn.before)
