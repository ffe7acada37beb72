use Rattle.std.proofs.Common.{◌≡◌, length}
use Rattle.sp_verify_shapes.specs.Repeats.{AreRepeats}
use Rattle.sp_verify_shapes.proofs.repeats.repeats_of.Given as goal

-- the flags of the instructions so far are there
abbrev pub invariant-loop-p : goal.invariant-loop-p
invariant-loop-p l = (length l.flags ≡ l.p) × AreRepeats l.code l.owners l.shapes l.flags
