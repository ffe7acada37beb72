use Rattle.std.proofs.Common.{◌&&◌, ℕ, cond, nat_le, nat_lt, ◌==◌}
use Rattle.sp_journal.specs.Maps.{at_key}
use Rattle.sp_report.specs.declared.condition.Condition.TheVariants as condition
use Rattle.sp_report.specs.Fits.{Becomes, table_conditions}
use Rattle.sp_report.proofs.table.Table.fork.Given as goal

-- the children so far run
abbrev pub invariant-loop-child : goal.invariant-loop-child
invariant-loop-child l =
    Becomes l.fn.self l.self (record (table_conditions l.fn.self) {
      of = λ (q : ℕ). cond (nat_le l.first q && nat_lt q l.child) condition.Running
          (at_key ◌==◌ l.process (condition.Joining l.first l.count l.count) (table_conditions l.fn.self).of q);
    })
