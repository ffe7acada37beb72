use Rattle.sp_verify_shapes.specs.Stacks.{IsListNumber}
use Rattle.sp_verify_effects.proofs.windows.greatest_list.Given as goal

-- there is such a list
abbrev pub invariant-loop-p : goal.invariant-loop-p
invariant-loop-p l = IsListNumber l.g.shapes.now.stacks l.greatest
