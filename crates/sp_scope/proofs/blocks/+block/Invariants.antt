use Rattle.std.proofs.Common.{◌≡◌, map, false}
use Rattle.std.specs.Vec.Iter.{into_iter_items}
use Rattle.sp_tree.specs.Scopes.{inner_env}
use Rattle.sp_tree.specs.NameWalk.{parts_local}
use Rattle.sp_tree.specs.NamedTree.{parts_named, appended_tables}
use Rattle.sp_tree.specs.NamedOf as named
use Rattle.sp_tree.specs.SyntaxOf.{parts, part_of}
use Rattle.sp_scope.specs.Firsts.{parts_first}
use Rattle.sp_scope.proofs.blocks.+block.Given as goal

abbrev pub invariant-name_parts-loop-p : goal.invariant-name_parts-loop-p
invariant-name_parts-loop-p l =
    (goal.iterator-name_parts-loop-p).can_next l.p-iterator ×
    (goal.iterator-name_parts-loop-p).is_finite l.p-iterator ×
    (l.walk.is_lost ≡ false → (l.fn.walk.is_lost ≡ false) ×
    (parts_first l.scopes.around l.scopes.local (parts (map part_of (into_iter_items l.p-iterator))) l.walk.first
    ≡ parts_first l.fn.scopes.around l.fn.scopes.local (parts (map part_of l.fn.ps)) l.fn.walk.first) ×
    (appended_tables (named.program_of l.out) (parts_named l.scopes.around l.scopes.local
    (parts (map part_of (into_iter_items l.p-iterator))))
    ≡ parts_named l.fn.scopes.around l.fn.scopes.local (parts (map part_of l.fn.ps))) ×
    (inner_env l.scopes.around (parts_local l.scopes.local (parts (map part_of (into_iter_items l.p-iterator))))
    ≡ inner_env l.fn.scopes.around (parts_local l.fn.scopes.local (parts (map part_of l.fn.ps)))))
