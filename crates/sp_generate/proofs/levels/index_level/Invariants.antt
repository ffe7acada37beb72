use Rattle.std.proofs.Common.{◌≡◌, drop}
use Rattle.sp_tree.specs.Around.{is_index, level}
use Rattle.sp_generate.specs.CodeTables.{outer_level}
use Rattle.sp_generate.specs.Views.{scopes}
use Rattle.sp_generate.proofs.levels.index_level.Given as goal

abbrev pub invariant-loop-n : goal.invariant-loop-n
invariant-loop-n l = level (is_index l.x) (scopes l.sc)
    ≡ outer_level l.n (level (is_index l.x) (scopes (drop l.n l.sc)))
