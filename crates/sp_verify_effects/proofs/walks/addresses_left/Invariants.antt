use Rattle.std.proofs.Common.{◌≡◌, ◌-◌, ℕ, Bool, false}
use Rattle.std.specs.List.{list_any}
use Rattle.sp_verify_shapes.specs.Stacks.{IsListNumber, list_of}
use Rattle.sp_verify_effects.specs.Walks.{AreWalks, NoneOfTop}
use Rattle.sp_verify_effects.proofs.walks.addresses_left.Given as goal

-- if nothing is found among those that are left, and nothing among the operands below these, there is nothing
abbrev pub invariant-loop-depth : goal.invariant-loop-depth
invariant-loop-depth l =
    IsListNumber l.stacks l.at × ((P : ℕ → ℕ → Bool) → AreWalks l.stacks l.walks P → list_any (P l.entry) l.left ≡ false
    → NoneOfTop P l.entry (l.count - l.depth) (list_of l.stacks l.at)
    → NoneOfTop P l.entry l.count (list_of l.stacks l.list))
