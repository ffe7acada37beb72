use Rattle.std.proofs.Common.{ap, rules}
use Rattle.std.specs.Ordering.{is_lt}
use Rattle.std.proofs.lemmas.List.Sorted.{answers_always}
use Rattle.sp_varsets.specs.TextOrders.{line_cmp}
use Rattle.sp_varsets.proofs.LineOrders.{line_total, ranks}
use Rattle.sp_varsets.proofs.line_walk.ordered_lines.Goals as goal

pub returns : goal.returns
returns c = (
  search rules,
  c.sort_unstable_by.ensures.sorted (λ a b. is_lt (line_cmp a b)) (ranks line_cmp line_total)
      (answers_always _ _ _ (λ f a r g h. ap is_lt (search rules))),
)
