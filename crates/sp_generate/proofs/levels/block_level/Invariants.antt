use Rattle.std.proofs.Common.{◌≡◌, drop}
use Rattle.sp_tree.specs.Around.{is_block, level}
use Rattle.sp_generate.specs.CodeTables.{outer_level}
use Rattle.sp_generate.specs.Views.{scopes}
use Rattle.sp_generate.proofs.levels.block_level.Given as goal

abbrev pub invariant-loop-n : goal.invariant-loop-n
invariant-loop-n l = level (is_block l.b) (scopes l.sc)
    ≡ outer_level l.n (level (is_block l.b) (scopes (drop l.n l.sc)))
