use Rattle.sp_verify_effects.specs.Turns.{AreInside}
use Rattle.sp_verify_effects.proofs.inside.called_inside.Given as goal

-- of the instructions so far
abbrev pub invariant-loop-p : goal.invariant-loop-p
invariant-loop-p l = AreInside l.g.code.now l.g.blocks.now.first l.g.shapes.now l.p l.flags
