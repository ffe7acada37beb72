use Rattle.std.proofs.Common.{◌≡◌, ◌∙◌, ℕ, refl, sym, ap}
use Rattle.sp_journal.specs.Births.{births}
use Rattle.sp_journal.specs.Names.{proc_name}
use Rattle.sp_report.specs.Fits.{table_conditions}
use Rattle.sp_report.specs.WaitingText.{has_ended}
use Rattle.sp_base.specs.declared.writer.Writer.{Writer}
use Rattle.sp_report.proofs.Children.{none_left, one_left}
use Rattle.sp_report.proofs.waiting.put_children.Goals as goal
use Rattle.sp_report.proofs.waiting.put_children.Goals.{then-not-has_ended, else-not-has_ended}

pub loop-child-preserved : goal.loop-child-preserved
loop-child-preserved c =
    let s = births c.args.ledger.now.journal.entries in
    let child = c.loop-child.child in
    let is : has_ended ((table_conditions c.args.table.now).of child) ≡ c.has_ended.result =
    ap has_ended (sym c.of.ensures)
    ∙ sym c.has_ended.ensures in
    elim c.if-not-has_ended.branch [
      | then-not-has_ended w ↦ λ kept.
          let name = w.put_name.ensures (sym (ap (λ (v : Writer ℕ). v.is_lost) w.out-is) ∙ kept) in
          let blank = w.extend.ensures name.0 in
          let all = c.loop-child.invariant blank.0 in (
            all.0,
            one_left s (table_conditions c.args.table.now) c.args.first child c.loop-child.auto.child _
                c.loop-child.out.items.items w.extend.new.self.items.items c.if-not-has_ended.out.items.items
                (proc_name (s.name child)) all.1 (is ∙ w.if-not-has_ended.true) refl blank.1
                (ap (λ (v : Writer ℕ). v.items.items) w.out-is ∙ name.1),
          )
      | else-not-has_ended w ↦ λ kept.
          let all = c.loop-child.invariant (sym (ap (λ (v : Writer ℕ). v.is_lost) w.out-is) ∙ kept) in (
            all.0,
            none_left s (table_conditions c.args.table.now) c.args.first child c.loop-child.auto.child _
                c.loop-child.out.items.items c.if-not-has_ended.out.items.items all.1
                (is ∙ w.if-not-has_ended.false) (ap (λ (v : Writer ℕ). v.items.items) w.out-is),
          )
    ]
