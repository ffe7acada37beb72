use Rattle.std.proofs.Common.{◌≡◌, [], drop, map, false}
use Rattle.sp_tree.specs.NamedOf.{arms, arm_of}
use Rattle.sp_types.specs.Firsts.{lists_first}
use Rattle.sp_types.specs.TypeWalk.{constant_lists}
use Rattle.sp_types.proofs.choices.check_choices.Given as goal

abbrev pub invariant-loop-x : goal.invariant-loop-x
invariant-loop-x l = l.walk.is_lost ≡ false → (l.fn.walk.is_lost ≡ false) ×
    (lists_first l.t l.k l.before (constant_lists (arms (map arm_of (drop l.x-index l.xs)))) l.walk.first
    ≡ lists_first l.t l.k [] (constant_lists (arms (map arm_of l.xs))) l.fn.walk.first)
