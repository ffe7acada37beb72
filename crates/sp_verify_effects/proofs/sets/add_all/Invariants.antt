use Rattle.std.proofs.Common.{◌≡◌, ◌&&◌, drop}
use Rattle.sp_verify_effects.specs.Sets.{all_new, with_all}
use Rattle.sp_verify_effects.proofs.sets.add_all.Given as goal

-- it is as from here on
abbrev pub invariant-loop-x : goal.invariant-loop-x
invariant-loop-x l =
    ((l.new && all_new l.set.keys (drop l.x-index l.xs)) ≡ all_new l.fn.set.keys l.xs)
    × (with_all l.set.keys (drop l.x-index l.xs) ≡ with_all l.fn.set.keys l.xs)
