use Rattle.std.proofs.Common.{◌≡◌, ◌++◌, map, drop}
use Rattle.sp_tree.specs.SyntaxOf.{part_of, parts}
use Rattle.sp_lines.specs.Constants.{parts_constants}
use Rattle.sp_lines.proofs.enumerations.+parts.Given as goal

abbrev pub invariant-put_parts-loop-part : goal.invariant-put_parts-loop-part
invariant-put_parts-loop-part l = l.out ++ parts_constants (parts (map part_of (drop l.part-index l.declared)))
    ≡ l.fn.out ++ parts_constants (parts (map part_of l.declared))
