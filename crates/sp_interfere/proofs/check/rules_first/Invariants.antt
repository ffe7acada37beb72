use Rattle.std.proofs.Common.{◌≡◌, map, drop}
use Rattle.sp_tree.specs.CheckedOf.{block_of, program_of}
use Rattle.sp_interfere.specs.Rules.{blocks_first, rules_first}
use Rattle.sp_interfere.proofs.check.rules_first.Given as goal

abbrev pub invariant-each : goal.invariant-each
invariant-each l = blocks_first l.s (program_of l.c) l.i (map block_of (drop l.i l.c.blocks)) l.first
    ≡ rules_first l.s (program_of l.c)
