use Rattle.std.proofs.Common.{◌≡◌, drop}
use Rattle.sp_generate.specs.CodeBuffers.{filled_ends}
use Rattle.sp_generate.proofs.choices.fill_ends.Given as goal

abbrev pub invariant-loop-at : goal.invariant-loop-at
invariant-loop-at l = filled_ends l.code.items (drop l.at-index l.ends) l.end ≡ filled_ends l.fn.code.items l.ends l.end
