use Rattle.std.proofs.Common.{◌-◌, ◌+◌, ◌*◌, ◌≤◌, get_or, arith}
use Rattle.sp_parse.proofs.DigitNumbers.{room}
use Rattle.sp_parse.proofs.spelling.number_at.Goals as goal

pub overflow_mul-value : goal.overflow_mul-value
overflow_mul-value c =
    let h : 10 * c.more.value + (get_or c.more.rest.now 0 0 - 48) ≤ 9223372036854775807 =
    room c.more.value _ (get_or c.more.rest.now 0 0 - 48) c.more.rest.now c.more.invariant
    (c.requires.fits.number c.requires.number) c.in-len1-up.len_at_least (omega arith) in
    omega (arith, h)

pub overflow_add-value : goal.overflow_add-value
overflow_add-value c =
    let h : 10 * c.more.value + c.saturating_sub.result ≤ 9223372036854775807 =
    room c.more.value _ c.saturating_sub.result c.more.rest.now c.more.invariant
    (c.requires.fits.number c.requires.number) c.in-len1-up.len_at_least c.saturating_sub.ensures in
    omega (arith, h)
