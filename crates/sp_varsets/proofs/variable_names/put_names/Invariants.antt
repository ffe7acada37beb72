use Rattle.std.proofs.Common.{drop}
use Rattle.std.specs.List.{flat_map}
use Rattle.sp_varsets.specs.SetsText.{name_text}
use Rattle.sp_base.specs.Adds.{Covers}
use Rattle.sp_varsets.proofs.variable_names.put_names.Given as goal

abbrev pub invariant-loop-x : goal.invariant-loop-x
invariant-loop-x l = Covers l.fn.out l.out (flat_map (name_text l.variables) (drop l.x-index l.xs))
    (flat_map (name_text l.variables) l.xs)
