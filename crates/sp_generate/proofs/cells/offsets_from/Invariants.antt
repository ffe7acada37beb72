use Rattle.std.proofs.Common.{◌≡◌, false, ◌++◌, drop}
use Rattle.sp_generate.specs.CodeTables.{offsets_from}
use Rattle.sp_generate.proofs.cells.offsets_from.Given as goal

abbrev pub invariant-loop-f : goal.invariant-loop-f
invariant-loop-f l = l.out.is_lost ≡ false
    → l.out.items.items ++ offsets_from l.cells l.n (drop l.f-index l.fields)
    ≡ offsets_from l.cells 0 l.fields
