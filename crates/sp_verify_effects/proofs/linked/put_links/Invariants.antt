use Rattle.std.proofs.Common.{◌≡◌, List, Some}
use Rattle.sp_code.specs.declared.code.Layout.{Layout}
use Rattle.sp_code.specs.Machine.{layout_of}
use Rattle.sp_verify_shapes.specs.Stacks.{IsListNumber}
use Rattle.sp_verify_effects.specs.declared.edges.Edge.{Edge}
use Rattle.sp_verify_effects.specs.Linked.{AreLinked, IsLinked}
use Rattle.sp_verify_effects.proofs.linked.put_links.Given as goal

-- what is kept so far is true, and the edges of the operands left are there
abbrev pub invariant-loop-depth : goal.invariant-loop-depth
invariant-loop-depth l =
    IsListNumber l.stacks l.at × ((ls : List Layout) (rows : List (List Edge)) → layout_of ls l.block ≡ Some l.layout
    → IsLinked l.stacks rows l.layout l.to l.stack 0 → AreLinked ls l.stacks rows l.fn.linked
    → AreLinked ls l.stacks rows l.linked × IsLinked l.stacks rows l.layout l.to l.at l.depth)
