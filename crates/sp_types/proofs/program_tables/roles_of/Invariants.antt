use Rattle.std.proofs.Common.{◌≡◌, ◌++◌, drop, false}
use Rattle.sp_types.specs.Tables.{roles_of}
use Rattle.sp_types.proofs.program_tables.roles_of.Given as goal

abbrev pub invariant-loop-x : goal.invariant-loop-x
invariant-loop-x l =
    (l.walk.is_lost ≡ false → (l.fn.walk.is_lost ≡ false) × (l.walk.first ≡ l.fn.walk.first) ×
    (l.out.items ++ roles_of (drop l.x-index l.variables) ≡ roles_of l.variables))
