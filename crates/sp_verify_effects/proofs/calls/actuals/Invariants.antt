use Rattle.std.proofs.Common.{◌≡◌, drop}
use Rattle.sp_verify_shapes.specs.Stacks.{IsListNumber, list_of}
use Rattle.sp_verify_effects.specs.Calls.{actuals}
use Rattle.sp_verify_effects.proofs.calls.actuals.Given as goal

-- those of the operands so far are listed; what is below them is left
abbrev pub invariant-loop-i : goal.invariant-loop-i
invariant-loop-i l = record {
  there : IsListNumber l.stacks l.below;
  left : list_of l.stacks l.below ≡ drop l.i (list_of l.stacks l.stack);
  so_far : l.xs ≡ actuals l.formals (list_of l.stacks l.stack) l.i;
}
