use Rattle.superpascal.proofs.Laws.{laws}
use Rattle.superpascal.proofs.PromiseParts.{promise}
use Rattle.superpascal.proofs.top.superpascal.Goals as goal

pub returns : goal.returns
returns g c =
    promise _ (record {
      answer = c.answer-answer.result;
      cause = c.answer-answer.ensures;
      written = c.write.ensures.written;
      ran = c.write.ensures.ran;
      executed = c.write.ensures.executed;
    })
    (laws c.one_answer.ensures.tree c.one_answer.ensures.refusal c.one_answer.ensures.not_both
    c.one_compilation.ensures.refusal c.one_compilation.ensures.not_both c.accepted_texts_are_disjoint.ensures
    c.one_layout.ensures.layout c.one_layout.ensures.refusal c.one_layout.ensures.not_both c.one_sets_text.ensures
    c.one_listing.ensures c.one_code_text.ensures c.a_text_is_of_one_code.ensures c.one_journal_of_a_text.ensures
    c.one_unfit_entry.ensures.first c.one_unfit_entry.ensures.not_both)
