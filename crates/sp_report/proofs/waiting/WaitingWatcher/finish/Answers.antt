use Rattle.std.proofs.Common.{List, sym, subst}
use Rattle.sp_journal.specs.declared.entry.Entry.{Entry}
use Rattle.sp_journal.specs.Births.{births}
use Rattle.sp_report.specs.Fits.{ConditionsFit, table_conditions}
use Rattle.sp_report.proofs.waiting.WaitingWatcher.finish.Goals as goal

pub put_lines-requires-clause-fit : goal.put_lines-requires-clause-fit
put_lines-requires-clause-fit c =
    subst (λ (es : List Entry). ConditionsFit (births es) (table_conditions c.in-Ok.value.table))
    (sym c.in-Ok.ensures.journal)
    (subst (ConditionsFit (births c.args.self.now.journal.entries)) (sym c.in-Ok.ensures.table)
    c.in-Ok.ensures.fit)
