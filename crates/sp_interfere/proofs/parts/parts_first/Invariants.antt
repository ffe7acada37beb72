use Rattle.std.proofs.Common.{◌≡◌, [], map, drop, take}
use Rattle.sp_tree.specs.CheckedOf.{statements, statement_of}
use Rattle.sp_interfere.specs.Tests.{Joins, is_target, is_used}
use Rattle.sp_interfere.specs.Rules.{parts_first, numbers_of}
use Rattle.sp_interfere.proofs.parts.parts_first.Given as goal

abbrev pub invariant-each : goal.invariant-each
invariant-each l =
    Joins l.targets (is_target l.s) (numbers_of (statements (map statement_of (take l.i l.parts)))) ×
    Joins l.used (is_used l.s) (numbers_of (statements (map statement_of (take l.i l.parts)))) ×
    (parts_first l.s (numbers_of (statements (map statement_of (take l.i l.parts))))
    (statements (map statement_of (drop l.i l.parts))) l.first
    ≡ parts_first l.s [] (statements (map statement_of l.parts)) l.fn.first)
