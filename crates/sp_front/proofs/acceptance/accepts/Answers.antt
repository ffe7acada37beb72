use Rattle.std.proofs.Common.{◌≤◌, ◌<◌, ℕ, subst}
use Rattle.sp_front.proofs.Ending.{long, short}
use Rattle.sp_generate.proofs.Limits.{not_long}
use Rattle.sp_front.proofs.acceptance.accepts.Goals as goal

pub returns-then-is_too_long : goal.returns-then-is_too_long
returns-then-is_too_long c =
    long c.args.text.now c.checked.result.now c.in_ok-accepted.accepted.checked c.checked.ensures
    c.in_ok-accepted.ensures.compiles.0
    (subst (λ (n : ℕ). 1048576 < n) c.length-n.ensures (c.is_too_long.ensures.0 c.if-is_too_long.true))

pub returns : goal.returns
returns c =
    short c.args.text.now c.checked.result.now c.in_ok-accepted.accepted.checked c.checked.ensures
    c.in_ok-accepted.ensures.compiles.0
    (subst (λ (n : ℕ). n ≤ 1048576) c.length-n.ensures
    (not_long c.is_too_long.result c.length-n.result c.is_too_long.ensures c.if-is_too_long.false))
