use Rattle.std.proofs.Common.{inl, inr, Err, refl, subst}
use Rattle.sp_journal.specs.ReadAnswers.{ReadsAlone, ReadsJournal}
use Rattle.sp_journal.specs.declared.journal_reader.ReadError.{ReadError}
use Rattle.superpascal.proofs.prepare.journal_of.Goals as goal

pub returns-in-Ok : goal.returns-in-Ok
returns-in-Ok c = c.in-Ok.ensures.reads

pub returns-in-Err-BadLine : goal.returns-in-Err-BadLine
returns-in-Err-BadLine c =
    let h = c.in-Err-BadLine in
    let alone = subst (λ (x : ReadError). ReadsAlone c.args.bytes.now (Err x)) h.field-0-is h.ensures.alone in
    inl (
      h.line,
      refl,
      (
        subst (λ (x : ReadError). ReadsJournal c.args.bytes.now (Err x)) h.field-0-is h.ensures.reads,
        λ w. alone w.0 w.1 w.2,
      ),
    )

pub returns-in-Err-Memory : goal.returns-in-Err-Memory
returns-in-Err-Memory c = inr refl
