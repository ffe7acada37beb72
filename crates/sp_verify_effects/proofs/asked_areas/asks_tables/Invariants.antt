use Rattle.std.proofs.Common.{ℕ}
use Rattle.sp_code.specs.declared.code.ForkTable.{ForkTable}
use Rattle.sp_verify_effects.specs.AskedAreas.{AsksChildren}
use Rattle.sp_verify_effects.proofs.AreaQueries.{HoldsBefore}
use Rattle.sp_verify_effects.proofs.asked_areas.asks_tables.Given as goal

-- those of the tables so far are
abbrev pub invariant-loop-table : goal.invariant-loop-table
invariant-loop-table l =
    HoldsBefore (λ (j : ℕ) (t : ForkTable). AsksChildren l.bound l.asked t.children) l.tables l.table-index
