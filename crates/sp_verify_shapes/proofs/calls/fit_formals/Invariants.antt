use Rattle.std.proofs.Common.{◌≡◌, ◌+◌, ◌≤◌, length}
use Rattle.sp_verify_shapes.specs.Fits.{first_fit}
use Rattle.sp_verify_shapes.specs.Memos.{AddsFits}
use Rattle.sp_verify_shapes.specs.Names.{AreNames}
use Rattle.sp_verify_shapes.specs.Seen.{AddsParts}
use Rattle.sp_verify_shapes.specs.Stacks.{IsListNumber, list_of}
use Rattle.sp_verify_shapes.proofs.calls.fit_formals.Given as goal

-- all fit where those that are left do, and so do those that are kept from now on
abbrev pub invariant-operands : goal.invariant-operands
invariant-operands l =
    IsListNumber l.stacks l.rest × (l.count ≤ length l.formals)
    × (first_fit l.formals l.count (list_of l.stacks l.rest)
    ≡ first_fit l.formals (length l.formals) (list_of l.stacks l.fn.n))
    × AddsFits l.stacks l.formals l.place l.count (first_fit l.formals (length l.formals) (list_of l.stacks l.fn.n))
    l.fn.seen.wholes l.seen.wholes
    × AddsParts l.stacks l.formals l.place (l.count + 1)
    (first_fit l.formals (length l.formals) (list_of l.stacks l.fn.n)) l.fn.seen.parts l.seen.parts
    × AreNames l.stacks l.seen.names.of

abbrev pub decreases-operands : goal.decreases-operands
decreases-operands l = l.count
