use Rattle.std.proofs.Common.{◌-◌, ℕ, Bool}
use Rattle.sp_verify_shapes.specs.Stacks.{IsListNumber, list_of}
use Rattle.sp_verify_effects.specs.Walks.{AreWalks, NoneOfTop}
use Rattle.sp_verify_effects.proofs.walks.put_walk.Given as goal

-- what is kept so far is true, and nothing is found among the operands left
abbrev pub invariant-loop-depth : goal.invariant-loop-depth
invariant-loop-depth l =
    IsListNumber l.stacks l.at × ((P : ℕ → ℕ → Bool) → AreWalks l.stacks l.fn.walks P
    → NoneOfTop P l.entry l.count (list_of l.stacks l.list) → AreWalks l.stacks l.walks P
    × NoneOfTop P l.entry (l.count - l.depth) (list_of l.stacks l.at))
