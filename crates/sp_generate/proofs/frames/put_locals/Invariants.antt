use Rattle.std.proofs.Common.{map, drop}
use Rattle.sp_tree.specs.Bare.{variable_of}
use Rattle.sp_tree.specs.Cells.{variables_of}
use Rattle.sp_code.specs.Scopes.{locals_among}
use Rattle.sp_base.specs.Adds.{Covers}
use Rattle.sp_generate.proofs.frames.put_locals.Given as goal

abbrev pub invariant-loop-x : goal.invariant-loop-x
invariant-loop-x l = Covers l.fn.out l.out
    (locals_among (variables_of l.b l.x (map variable_of (drop l.x l.variables))))
    (locals_among (variables_of l.b 0 (map variable_of l.variables)))
