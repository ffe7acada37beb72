use Rattle.std.proofs.Common.{◌≡◌, ◌++◌, drop}
use Rattle.std.specs.Vec.Iter.{into_iter_items}
use Rattle.sp_lines.specs.Constants.{by_kind}
use Rattle.sp_lines.proofs.kinds.by_kind.Given as goal

abbrev pub invariant-loop-kind : goal.invariant-loop-kind
invariant-loop-kind l = l.out ++ by_kind (drop l.kind-index l.kinds) (into_iter_items l.rest)
    ≡ by_kind l.kinds l.fn.constants
