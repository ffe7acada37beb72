use Rattle.std.proofs.Common.{◌≡◌, inl, inr, Err, List, ℕ, ◌<◌, length, refl, ap, subst}
use Rattle.std.specs.Prelude.{IfSome}
use Rattle.sp_outside.specs.Counts.{Rose}
use Rattle.superpascal.proofs.Parts.{is_longer}
use Rattle.superpascal.proofs.prepare.load.Goals as goal

pub returns-in-Ok-clause-loaded : goal.returns-in-Ok-clause-loaded
returns-in-Ok-clause-loaded g c = (
  subst (λ (n : List ℕ). IfSome (g.L.Library.held c.args.library.now n) (λ all. c.in-Ok.bytes.items ≡ all))
      c.text.ensures c.in-Ok.ensures.ok,
  c.in-Ok.ensures.fits,
)

pub returns-in-Err-TooLong-clause-loaded : goal.returns-in-Err-TooLong-clause-loaded
returns-in-Err-TooLong-clause-loaded g c =
    inl (
      refl,
      subst (λ (n : List ℕ). IfSome (g.L.Library.held c.args.library.now n) (λ all. c.args.limit < length all))
          c.text.ensures
          (is_longer _ c.args.limit _ _ c.in-Err-TooLong.ensures.too_long (ap Err c.in-Err-TooLong.field-0-is)),
    )

pub returns-in-Err-Failed-clause-loaded : goal.returns-in-Err-Failed-clause-loaded
returns-in-Err-Failed-clause-loaded g c =
    inr (inl (
      refl,
      subst (λ (n : List ℕ). Rose (g.L.Library.faults c.args.library.now n) (g.L.Library.faults c.load.new.self n))
          c.text.ensures (c.in-Err-Failed.ensures.failed (ap Err c.in-Err-Failed.field-0-is)),
    ))
