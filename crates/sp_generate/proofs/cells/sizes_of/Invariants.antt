use Rattle.std.proofs.Common.{◌≡◌, [], drop}
use Rattle.sp_tree.specs.Cells.{table, size_by}
use Rattle.sp_generate.proofs.cells.sizes_of.Given as goal

abbrev pub invariant-loop-k : goal.invariant-loop-k
invariant-loop-k l = table size_by l.known (drop l.k-index l.kinds) ≡ table size_by [] l.kinds
