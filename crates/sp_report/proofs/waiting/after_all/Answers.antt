use Rattle.std.proofs.Common.{ap, sym, subst, ◌∙◌, List, take}
use Rattle.std.proofs.lemmas.List.{take_all, drop_all}
use Rattle.sp_journal.specs.declared.entry.Entry.{Entry}
use Rattle.sp_journal.specs.Births.{CanFollow, NameableFrom, first_births, births}
use Rattle.sp_journal.proofs.Walk.{any_entry, can_follow, kept_whole, still_nameable, this}
use Rattle.sp_report.specs.Conditions.{Conditions, conditions_after_all, conditions}
use Rattle.sp_report.specs.Fits.{ConditionsFit, table_conditions}
use Rattle.sp_report.proofs.FitLaws.{first_fit, one_fits, one_told}
use Rattle.sp_report.proofs.waiting.after_all.Goals as goal

pub loop-entry-init : goal.loop-entry-init
loop-entry-init c =
    let es = c.items-entry-items.result.now in (
      c.new-ledger.ensures.ledger,
      c.new-ledger.ensures.empty,
      subst (NameableFrom first_births) (sym c.items-entry-items.ensures) c.requires,
      λ kept. (
        ap (λ (t : Conditions). conditions_after_all first_births t es) (c.new-table.ensures kept),
        subst (ConditionsFit first_births) (sym (c.new-table.ensures kept)) first_fit,
      ),
    )

pub tell-requires-clause-next : goal.tell-requires-clause-next
tell-requires-clause-next c =
    let es = c.items-entry-items.result.now in
    let h = c.loop-entry.invariant in
    subst (λ (xs : List Entry). CanFollow (births xs) (this es c.loop-entry.entry-index c.loop-entry-test.true))
    (sym h.1) (can_follow es c.loop-entry.entry-index any_entry c.loop-entry-test.true h.2)

pub add-requires-clause-next : goal.add-requires-clause-next
add-requires-clause-next c =
    let es = c.items-entry-items.result.now in
    let h = c.loop-entry.invariant in
    subst (λ (xs : List Entry). CanFollow (births xs) (this es c.loop-entry.entry-index c.loop-entry-test.true))
    (sym h.1) (can_follow es c.loop-entry.entry-index any_entry c.loop-entry-test.true h.2)

pub loop-entry-preserved : goal.loop-entry-preserved
loop-entry-preserved c =
    let es = c.items-entry-items.result.now in
    let i = c.loop-entry.entry-index in
    let l = c.loop-entry-test.true in
    let (_, so_far, nameable, table) = c.loop-entry.invariant in (
      c.in-Ok.ensures.ledger,
      kept_whole es i l c.loop-entry.ledger.journal.entries c.add.new.self.journal.entries so_far
          c.in-Ok.ensures.added,
      still_nameable es i any_entry l nameable,
      λ kept.
          let one = c.tell.ensures kept in
          let (told, fit) = table one.0 in (
            one_told es i l _ _ _ so_far one.1 told,
            one_fits es i l _ _ _ so_far one.1 nameable fit,
          ),
    )

pub returns-clause-ledger : goal.returns-clause-ledger
returns-clause-ledger c = c.loop-entry.invariant.0

pub returns-clause-journal : goal.returns-clause-journal
returns-clause-journal c = c.loop-entry.invariant.1
    ∙ take_all c.loop-entry.entry-index c.items-entry-items.result.now c.loop-entry-test.false
    ∙ c.items-entry-items.ensures

pub returns-clause-table : goal.returns-clause-table
returns-clause-table c =
    let es = c.items-entry-items.result.now in
    let t = table_conditions c.loop-entry.table in
    let (_, _, _, table) = c.loop-entry.invariant in
    let (told, _) = table c.if-table.false in
    sym (ap (conditions_after_all (births (take c.loop-entry.entry-index es)) t)
    (drop_all c.loop-entry.entry-index es c.loop-entry-test.false))
    ∙ told ∙ ap conditions c.items-entry-items.ensures

pub returns-clause-fit : goal.returns-clause-fit
returns-clause-fit c =
    let es = c.items-entry-items.result.now in
    let whole = take_all c.loop-entry.entry-index es c.loop-entry-test.false ∙ c.items-entry-items.ensures in
    let (_, _, _, table) = c.loop-entry.invariant in
    let (told, fit) = table c.if-table.false in
    let all_told = sym (ap (conditions_after_all (births (take c.loop-entry.entry-index es))
    (table_conditions c.loop-entry.table))
    (drop_all c.loop-entry.entry-index es c.loop-entry-test.false)) ∙ told
    ∙ ap conditions c.items-entry-items.ensures in
    subst (ConditionsFit (births c.args.journal.now.entries)) all_told
    (subst (λ (xs : List Entry). ConditionsFit (births xs) (table_conditions c.loop-entry.table)) whole
    fit)
