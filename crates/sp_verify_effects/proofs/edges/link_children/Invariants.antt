use Rattle.sp_verify_effects.specs.Edges.{Links, OneStarts}
use Rattle.sp_verify_effects.proofs.edges.link_children.Given as goal

-- the edges of the children so far are put
abbrev pub invariant-loop-k : goal.invariant-loop-k
invariant-loop-k l = Links l.fn.rows l.rows (OneStarts l.children l.to l.k)
