use Rattle.std.proofs.Common.{◌≡◌, ◌++◌, ℕ, List, map}
use Rattle.sp_tree.specs.CheckedOf.{block_of}
use Rattle.sp_varsets.specs.SetsText.{IsOfBlock, Joined}
use Rattle.sp_base.specs.Adds.{Keeps}
use Rattle.sp_varsets.proofs.print.put_blocks.Given as goal

abbrev pub invariant-each : goal.invariant-each
invariant-each l = Keeps l.fn.out l.out ((t : List ℕ)
    × Joined (IsOfBlock l.variables l.sets (map block_of l.blocks)) l.b t
    × (l.out.items.items ≡ l.fn.out.items.items ++ t))
