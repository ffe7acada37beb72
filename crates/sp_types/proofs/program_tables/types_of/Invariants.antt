use Rattle.std.proofs.Common.{◌≡◌, ◌++◌, drop, false}
use Rattle.sp_types.specs.Tables.{types_of}
use Rattle.sp_types.proofs.program_tables.types_of.Given as goal

abbrev pub invariant-loop-x : goal.invariant-loop-x
invariant-loop-x l =
    (l.walk.is_lost ≡ false → (l.fn.walk.is_lost ≡ false) × (l.walk.first ≡ l.fn.walk.first) ×
    (l.out.items ++ types_of l.numbers (drop l.x-index l.variables) ≡ types_of l.numbers l.variables))
