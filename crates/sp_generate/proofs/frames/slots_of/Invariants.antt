use Rattle.std.proofs.Common.{◌≡◌, false, ◌++◌, map, drop}
use Rattle.sp_tree.specs.Bare.{without_places, variable_of}
use Rattle.sp_tree.specs.CheckedOf.{program_of}
use Rattle.sp_generate.specs.CodeTables.{slots_from, slots_of}
use Rattle.sp_generate.proofs.frames.slots_of.Given as goal

abbrev pub invariant-loop-x : goal.invariant-loop-x
invariant-loop-x l = l.out.is_lost ≡ false
    → l.out.items.items ++ slots_from (without_places (program_of l.checked)) l.x
    (map variable_of (drop l.x l.checked.variables)) ≡ slots_of (without_places (program_of l.checked))
