use Rattle.std.proofs.Common.{inl, inr, Err, refl, subst}
use Rattle.sp_base.specs.declared.halt.Halt.{Halt}
use Rattle.sp_front.specs.TextMarks.{MarksText}
use Rattle.superpascal.proofs.prepare.mark.Goals as goal

pub returns-in-Ok : goal.returns-in-Ok
returns-in-Ok g c = c.in-Ok.ensures

pub returns-in-Err-Refused : goal.returns-in-Err-Refused
returns-in-Err-Refused g c =
    let h = c.in-Err-Refused in
    inl (h.refusal, refl, subst (λ (x : Halt). MarksText c.args.text.now (Err x)) h.field-0-is h.ensures)

pub returns-in-Err-Memory : goal.returns-in-Err-Memory
returns-in-Err-Memory g c = inr refl
