use Rattle.std.proofs.Common.{arith, refl, []}
use Rattle.sp_varsets.proofs.Paths.{closes, follows_then, gaps_le, gaps_lt, span, leads_below}
use Rattle.sp_varsets.proofs.closure.close.Goals as goal

pub returns-then-not-branch : goal.returns-then-not-branch
returns-then-not-branch c = closes c.args.calls.now c.args.hidden.now c.args.rows.now c.hurry.new.rows c.sweep.new.rows
    c.in_ok-sweep.field-0 c.requires.calls (follows_then c.sweeps.invariant c.in_ok-hurry.ensures) c.in_ok-sweep.ensures
    c.if-not-branch.true

pub sweeps-preserved : goal.sweeps-preserved
sweeps-preserved c = let s = c.in_ok-sweep.ensures in
    follows_then c.sweeps.invariant (follows_then c.in_ok-hurry.ensures s.follows)

pub sweeps-smaller : goal.sweeps-smaller
sweeps-smaller c =
    let h = c.in_ok-hurry.ensures in
    let s = c.in_ok-sweep.ensures in
    let (b, x, is_there, was_not) = s.some c.if-not-branch.false in
    let f = follows_then c.sweeps.invariant (follows_then h s.follows) in
    let l = f.led b x is_there in
    let low = leads_below c.args.calls.now c.args.hidden.now c.args.rows.now l.0 b x l.1 in
    let one = gaps_le c.sweeps.rows c.hurry.new.rows (span c.args.rows.now) h.rows h.kept in
    let two = gaps_lt c.hurry.new.rows c.sweep.new.rows (span c.args.rows.now) b x s.follows.rows s.follows.kept low
    is_there was_not in
    omega arith

pub sweeps-init : goal.sweeps-init
sweeps-init c = record { rows = refl; kept = λ b x h. h; led = λ b x h. ([], h) }
