use Rattle.std.proofs.Common.{◌≡◌, ◌++◌, map, false}
use Rattle.std.specs.Vec.Iter.{into_iter_items}
use Rattle.sp_tree.specs.NamedOf.{block_of}
use Rattle.sp_tree.specs.CheckedOf as checked
use Rattle.sp_types.specs.TypeWalk.{blocks_after}
use Rattle.sp_types.specs.CheckedTree.{checked_blocks}
use Rattle.sp_types.specs.DeclarationFirsts.{blocks_first}
use Rattle.sp_types.specs.AfterTables.{starts_in}
use Rattle.sp_types.proofs.blocks.type_blocks.Given as goal

abbrev pub invariant-loop-b : goal.invariant-loop-b
invariant-loop-b l =
    (goal.iterator-loop-b).can_next l.b-iterator ×
    (goal.iterator-loop-b).is_finite l.b-iterator ×
    (l.walk.is_lost ≡ false → (l.fn.walk.is_lost ≡ false) ×
    (blocks_first l.numbers l.cells l.variables l.n l.t
    (starts_in l.bodies (map block_of (into_iter_items l.b-iterator))) (map block_of (into_iter_items l.b-iterator))
    l.walk.first ≡ blocks_first l.numbers l.cells l.variables 0 l.fn.t
    (starts_in l.bodies (map block_of l.fn.blocks)) (map block_of l.fn.blocks) l.fn.walk.first) ×
    (map checked.block_of l.out.items ++ checked_blocks l.t
    (starts_in l.bodies (map block_of (into_iter_items l.b-iterator))) (map block_of (into_iter_items l.b-iterator))
    ≡ checked_blocks l.fn.t (starts_in l.bodies (map block_of l.fn.blocks)) (map block_of l.fn.blocks)) ×
    (blocks_after l.t (starts_in l.bodies (map block_of (into_iter_items l.b-iterator)))
    (map block_of (into_iter_items l.b-iterator))
    ≡ blocks_after l.fn.t (starts_in l.bodies (map block_of l.fn.blocks)) (map block_of l.fn.blocks)))
