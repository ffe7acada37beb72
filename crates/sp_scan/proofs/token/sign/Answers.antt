use Rattle.std.proofs.Common.{arith, ◌≡◌, subst}
use Rattle.sp_scan.specs.Finds.{FindsSign}
use Rattle.sp_scan.proofs.token.sign.Goals as goal

pub returns : goal.returns
returns c = let e : c.loop-n.n ≡ 20 = omega arith in
    subst (λ k. FindsSign k c.args.bytes.now c.loop-n.best) e c.loop-n.invariant
