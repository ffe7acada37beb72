use Rattle.std.proofs.Common.{◌++◌, ℕ, List, ap, ◌∙◌, codes, decimal}
use Rattle.sp_journal.specs.Births.{births}
use Rattle.sp_journal.specs.Texts.{entry_text}
use Rattle.sp_base.specs.Places.{place_text}
use Rattle.sp_where.specs.Traces.{message_text, passed, place_of_event}
use Rattle.sp_where.proofs.EntryWalk.{seven}
use Rattle.sp_where.proofs.trace.put_line.Goals as goal

pub returns : goal.returns
returns c = λ kept.
    let g = c.extend-3.ensures kept in
    let f = c.put_passed.ensures g.0 in
    let e = c.put_entry_text.ensures f.0 in
    let d = c.extend-2.ensures e.0 in
    let p = c.put_event_place.ensures d.0 in
    let b = c.extend.ensures p.0 in
    let a = c.decimal.ensures b.0 in
    let s = births c.args.ledger.now.journal.entries in
    let place = place_text (place_of_event c.args.symbols.now.marks c.args.entry.event c.args.told.now.instruction) in
    let entry = entry_text s c.args.entry in
    let message = message_text c.args.symbols.now.checked.kinds c.args.symbols.now.constants s
    (passed c.args.entry.event c.args.told.now.message) in (
      a.0,
      g.1 ∙ ap (λ (z : List ℕ). z ++ codes "\n") (f.1 ∙ ap (λ (z : List ℕ). z ++ message)
          (e.1 ∙ ap (λ (z : List ℕ). z ++ entry) (d.1 ∙ ap (λ (z : List ℕ). z ++ codes " ")
          (p.1 ∙ ap (λ (z : List ℕ). z ++ place) (b.1 ∙ ap (λ (z : List ℕ). z ++ codes " ") a.1)))))
          ∙ seven c.args.out.now.items.items (decimal c.args.index) (codes " ") place (codes " ") entry message
          (codes "\n"),
    )
