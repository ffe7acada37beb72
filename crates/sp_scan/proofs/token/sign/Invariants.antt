use Rattle.sp_scan.specs.Finds.{FindsSign}
use Rattle.sp_scan.proofs.token.sign.Given as goal

abbrev pub invariant-loop-n : goal.invariant-loop-n
invariant-loop-n l = FindsSign l.n l.bytes l.best
