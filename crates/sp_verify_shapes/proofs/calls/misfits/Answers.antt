use Rattle.std.proofs.Common.{◌≡◌, refl, sym, subst, Bool, true, false}
use Rattle.std.specs.Prelude.{not}
use Rattle.sp_code.specs.declared.code.Parts.{Parts}
use Rattle.sp_verify_shapes.specs.Seen.{AreSeen}
use Rattle.sp_verify_shapes.proofs.calls.misfits.Goals as goal

is_so : (b : Bool) → not b ≡ false → b ≡ true
is_so true e = refl
is_so false e = sym e

pub returns-in-Some-instr-clause-known : goal.returns-in-Some-instr-clause-known
returns-in-Some-instr-clause-known c = λ e.
    subst (λ (x : Parts). AreSeen x.layouts c.args.shapes.now.stacks c.call_fits.new.seen) c.parts.ensures.same
    (c.call_fits.ensures.known (is_so c.call_fits.result e))
