use Rattle.std.proofs.Common.{◌+◌, ◌*◌, ap, refl}
use Rattle.sp_scan.proofs.Along.{value_above}
use Rattle.sp_scan.proofs.rules.exceeds.Goals as goal

pub returns-then-next-gt9223372036854775807 : goal.returns-then-next-gt9223372036854775807
returns-then-next-gt9223372036854775807 c = (
  λ h. value_above c.args.digits.now c.more.rest.now c.in-Some.after.now c.in-Some.digit c.more.value
      (10 * c.more.value + c.saturating_sub.result) c.more.invariant c.in-Some.ensures
      (ap (λ n. 10 * c.more.value + n) c.saturating_sub.ensures) c.if-next-gt9223372036854775807.true,
  λ h. refl,
)
