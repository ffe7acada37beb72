use Rattle.std.proofs.Common.{◌≡◌, ◌++◌, ◌-◌}
use Rattle.sp_verify_rules.specs.Touches.{addresses}
use Rattle.sp_verify_shapes.specs.Stacks.{IsListNumber, list_of}
use Rattle.sp_verify_effects.proofs.own.push_addresses.Given as goal

-- those of the operands left are still to be put
abbrev pub invariant-loop-k : goal.invariant-loop-k
invariant-loop-k l = IsListNumber l.stacks l.at
    × ((l.list ++ addresses (l.count - l._k) (list_of l.stacks l.at)) ≡ l.fn.list
    ++ addresses l.count (list_of l.stacks l.stack))
