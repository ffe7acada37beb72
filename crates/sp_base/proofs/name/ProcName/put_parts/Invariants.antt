use Rattle.std.proofs.Common.{◌≡◌, ◌++◌, take, codes}
use Rattle.sp_base.specs.Names.{pairs_text}
use Rattle.sp_base.proofs.name.ProcName.put_parts.Given as goal

abbrev pub invariant-loop-pair : goal.invariant-loop-pair
invariant-loop-pair l = l.out.items ≡ l.fn.out.items ++ codes "0" ++ pairs_text (take l.pair-index l.pair-items)
