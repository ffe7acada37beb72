use Rattle.std.proofs.Common.{◌≡◌, ◌++◌, drop, false}
use Rattle.sp_tree.specs.NamedTree.{messages_named}
use Rattle.sp_scope.proofs.kinds.name_messages.Given as goal

abbrev pub invariant-loop-t : goal.invariant-loop-t
invariant-loop-t l = l.walk.is_lost ≡ false → (l.fn.walk.is_lost ≡ false) ×
    (l.walk.first ≡ l.fn.walk.first) ×
    (l.out.items ++ messages_named l.scopes (drop l.t-index l.ts) ≡ messages_named l.scopes l.ts)
