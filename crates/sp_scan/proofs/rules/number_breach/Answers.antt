use Rattle.std.proofs.Common.{arith, ◌<◌, ◌≤◌, sym, subst, refl}
use Rattle.sp_tree.specs.Spelling.{digits_value}
use Rattle.sp_tree.proofs.TokenOrder.{lexeme_length}
use Rattle.sp_tree.proofs.TextParts.{lower_number}
use Rattle.sp_scan.proofs.Tokens.{within}
use Rattle.sp_scan.proofs.Breaches.{large_number, real_number, fine_number}
use Rattle.sp_scan.proofs.rules.number_breach.Goals as goal

pub slice_bounds-exceeds-count : goal.slice_bounds-exceeds-count
slice_bounds-exceeds-count c = omega (arith, lexeme_length c.requires.longest.spelled)

pub returns-then-exceeds : goal.returns-then-exceeds
returns-then-exceeds c =
    let e = lower_number c.requires.longest.spelled in
    large_number c.requires.closed c.requires.longest
    (subst (λ l. 9223372036854775807 < digits_value 0 l) (sym e) (c.if-exceeds.ensures.0 refl))

pub returns-then-goes_on_real : goal.returns-then-goes_on_real
returns-then-goes_on_real c =
    let e = lower_number c.requires.longest.spelled in
    real_number c.requires.closed c.requires.longest
    (subst (λ l. digits_value 0 l ≤ 9223372036854775807) (sym e) (within _ c.if-exceeds.ensures.1))
    (sym c.if-goes_on_real.ensures)

pub returns : goal.returns
returns c =
    let e = lower_number c.requires.longest.spelled in
    fine_number c.requires.closed c.requires.longest
    (subst (λ l. digits_value 0 l ≤ 9223372036854775807) (sym e) (within _ c.if-exceeds.ensures.1))
    (sym c.if-goes_on_real.ensures)
