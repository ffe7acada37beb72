use Rattle.std.proofs.Common.{◌++◌, ◌∙◌, List, ℕ, Vec, Global, ap}
use Rattle.sp_journal.specs.Births.{births}
use Rattle.sp_journal.specs.Texts.{entry_text}
use Rattle.sp_journal.proofs.ledger.Ledger.put_entry.Goals as goal

pub returns-clause-ok : goal.returns-clause-ok
returns-clause-ok c =
    let entry = entry_text (births c.args.self.now.journal.entries) c.args.entry in
    let text = c.put_entry_text.ensures c.in_ok-bytes.ensures.kept in
    c.in_ok-extend_from_slice.ensures.items
    ∙ ap (λ (xs : List ℕ). c.args.out.now.items ++ xs)
    (c.as_slice.ensures.value ∙ ap (λ (v : Vec ℕ Global). v.items) c.in_ok-bytes.ensures.items ∙ text.1
    ∙ ap (λ (xs : List ℕ). xs ++ entry) c.new-text.ensures.items)
