use Rattle.std.proofs.Common.{◌∙◌, ◌++◌, ℕ, refl, sym, subst, ap, ap₂, List}
use Rattle.std.proofs.lemmas.List.{take_all}
use contract.BorrowLft.{meet_⊑_right}
use Rattle.sp_journal.specs.declared.entry.Entry.{Entry}
use Rattle.sp_journal.specs.Births.{NameableFrom, first_births}
use Rattle.sp_base.specs.declared.writer.Writer.{Writer}
use Rattle.sp_base.proofs.Additions.{noted}
use Rattle.sp_report.proofs.Prefixes.{nameable_next}
use Rattle.sp_report.proofs.telling.tell_one.Goals as goal

pub see-requires : goal.see-requires
see-requires g c κs = (
  refl,
  λ incl. (
    tt,
    (
      (λ a m. incl a (meet_⊑_right _ _ a m)),
      nameable_next _ c.items-entry-items.result.now c.loop-entry.entry-index _ c.loop-entry.invariant.0
          (subst (λ (es : List Entry). NameableFrom first_births es) (sym c.items-entry-items.ensures)
          c.requires.nameable)
          c.loop-entry-test.true,
    ),
  ),
)

pub returns : goal.returns
returns g c = λ kept.
    let after = c.note.ensures kept in
    let (so_far, same, unchanged) = c.loop-entry.invariant in
    let told = so_far ∙ take_all c.loop-entry.entry-index c.items-entry-items.result.now c.loop-entry-test.false
    ∙ c.items-entry-items.ensures in (
      ap (λ (v : Writer ℕ). v.is_lost) (sym unchanged) ∙ after.0,
      after.1.0 ∙ noted c.finish-done.result c.finish-done.ensures.0 after.1.1
          ∙ ap₂ (λ (v : Writer ℕ) (t : List ℕ). v.items.items ++ t) unchanged
          (ap₂ (λ (text : List Entry → List ℕ) (es : List Entry). text es) same told),
    )
