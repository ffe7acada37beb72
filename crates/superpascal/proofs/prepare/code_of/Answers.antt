use Rattle.std.proofs.Common.{inl, inr, Err, refl, subst}
use Rattle.sp_codefile.specs.DecodeAnswers.{Decodes}
use Rattle.superpascal.proofs.prepare.code_of.Goals as goal

pub returns-in-Ok : goal.returns-in-Ok
returns-in-Ok c = c.in-Ok.ensures.0

pub returns-in-Err-BadLine : goal.returns-in-Err-BadLine
returns-in-Err-BadLine c =
    let h = c.in-Err-BadLine in
    inl (h.line, refl, subst (λ x. Decodes c.args.bytes.now (Err x)) h.field-0-is h.ensures)

pub returns-in-Err-Memory : goal.returns-in-Err-Memory
returns-in-Err-Memory c = inr refl
