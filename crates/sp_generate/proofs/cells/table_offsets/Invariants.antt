use Rattle.std.proofs.Common.{◌≡◌, false, ◌++◌, map, drop}
use Rattle.sp_generate.specs.CodeTables.{offsets_by}
use Rattle.sp_generate.proofs.cells.table_offsets.Given as goal

abbrev pub invariant-loop-k : goal.invariant-loop-k
invariant-loop-k l = l.out.is_lost ≡ false
    → l.out.items.items ++ map (offsets_by l.cells) (drop l.k-index l.kinds)
    ≡ map (offsets_by l.cells) l.kinds
