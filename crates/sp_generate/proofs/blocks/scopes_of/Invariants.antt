use Rattle.std.proofs.Common.{◌≡◌, ◌++◌, ◌-◌, length}
use Rattle.sp_tree.specs.Around.{scopes_by, scopes_of}
use Rattle.sp_tree.specs.Bare.{without_places}
use Rattle.sp_tree.specs.CheckedOf.{program_of}
use Rattle.sp_generate.specs.Views.{scopes}
use Rattle.sp_generate.proofs.blocks.scopes_of.Given as goal

abbrev pub invariant-loop : goal.invariant-loop
invariant-loop l =
    (l.end ≡ length l.checked.blocks) ×
    (scopes l.out.items ++ scopes_by (without_places (program_of l.checked)) (l.end - l.counter) l.at
    ≡ scopes_of (without_places (program_of l.checked)) l.fn.b)
