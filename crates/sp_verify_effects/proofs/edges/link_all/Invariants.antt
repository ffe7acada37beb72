use Rattle.sp_verify_effects.specs.Edges.{HasEdges}
use Rattle.sp_verify_effects.specs.Linked.{AreLinked}
use Rattle.sp_verify_effects.proofs.edges.link_all.Given as goal

-- the edges of the instructions so far are put, and what is kept of operands is true
abbrev pub invariant-loop-p : goal.invariant-loop-p
invariant-loop-p l = HasEdges l.g.code.now l.acts l.p l.rows
    × AreLinked l.g.code.now.layouts l.g.shapes.now.stacks l.rows l.linked
