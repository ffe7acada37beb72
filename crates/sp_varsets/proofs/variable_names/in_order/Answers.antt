use Rattle.std.proofs.Common.{ap, rules}
use Rattle.std.specs.Ordering.{is_lt}
use Rattle.std.proofs.lemmas.Fn.{always_returns_same}
use Rattle.sp_varsets.specs.TextOrders.{variable_cmp}
use Rattle.sp_varsets.proofs.LineOrders.{variable_total, ranks}
use Rattle.sp_varsets.proofs.variable_names.in_order.Goals as goal

pub returns : goal.returns
returns c = (
  search rules,
  c.sort_unstable_by.ensures.sorted (λ a b. is_lt (variable_cmp c.args.variables.now a b))
      (ranks (variable_cmp c.args.variables.now) (variable_total c.args.variables.now))
      (always_returns_same _ _ _ (λ a r g h. (ap is_lt (search rules), search rules))),
)
