use Rattle.std.proofs.Common.{◌≡◌, ◌++◌}
use Rattle.sp_format.specs.Layout.{indentation}
use Rattle.sp_format.proofs.put.put_indentation.Given as goal

abbrev pub invariant-more : goal.invariant-more
invariant-more l = l.out.items ++ indentation l.left ≡ l.initial.out.items ++ indentation l.steps

abbrev pub decreases-more : goal.decreases-more
decreases-more l = l.left
