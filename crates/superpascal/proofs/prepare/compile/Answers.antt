use Rattle.std.proofs.Common.{inl, inr, Err, refl, subst}
use Rattle.sp_base.specs.declared.halt.Halt.{Halt}
use Rattle.sp_front.specs.Codes.{Codes}
use Rattle.superpascal.proofs.Parts.{compiled_code}
use Rattle.superpascal.proofs.prepare.compile.Goals as goal

pub returns-in-Ok : goal.returns-in-Ok
returns-in-Ok g c = compiled_code c.args.text.now c.in-Ok.compiled c.into_code.result c.into_code.ensures
    c.in-Ok.ensures

pub returns-in-Err-Refused : goal.returns-in-Err-Refused
returns-in-Err-Refused g c =
    let h = c.in-Err-Refused in
    inl (h.refusal, refl, subst (λ (x : Halt). Codes c.args.text.now (Err x)) h.field-0-is h.ensures)

pub returns-in-Err-Memory : goal.returns-in-Err-Memory
returns-in-Err-Memory g c = inr refl
