use Rattle.std.proofs.Common.{inl, inr, Err, refl, ap}
use Rattle.superpascal.proofs.prepare.read_input.Goals as goal

pub returns-in-Ok : goal.returns-in-Ok
returns-in-Ok g c = record { read = c.in-Ok.ensures.all; fits = c.in-Ok.ensures.fits; at_end = c.in-Ok.ensures.end }

pub returns-in-Err-TooLong : goal.returns-in-Err-TooLong
returns-in-Err-TooLong g c =
    inr (inl (refl, c.in-Err-TooLong.ensures.too_long (ap Err c.in-Err-TooLong.field-0-is)))

pub returns-in-Err-Failed : goal.returns-in-Err-Failed
returns-in-Err-Failed g c = inl (refl, c.in-Err-Failed.ensures.failed (ap Err c.in-Err-Failed.field-0-is))

pub returns-in-Err-Memory : goal.returns-in-Err-Memory
returns-in-Err-Memory g c = inr (inr refl)
