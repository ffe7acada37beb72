use Rattle.std.proofs.Common.{rules, List, sym, subst}
use Rattle.std.specs.List.Sorted.{IsSortedByKey}
use Rattle.sp_base.specs.Order.{name_cmp, name_total}
use Rattle.sp_journal.specs.declared.outcome.Waiter.{Waiter}
use Rattle.sp_kernel.proofs.SortedWaiters.{sorted_by}
use Rattle.sp_kernel.proofs.closed.sorted.Goals as goal

pub returns-clause-sorted : goal.returns-clause-sorted
returns-clause-sorted c = subst (λ (l : List Waiter). IsSortedByKey (λ (w : Waiter). w.process) name_cmp l)
    (sym c.of.ensures) (sorted_by name_total (λ (w : Waiter). w.process) c.sort_by.new.self.items
    c.in-Ok.ensures.sorted (λ a r q k. search rules))
