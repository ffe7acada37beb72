use Rattle.std.proofs.Common.{arith, ◌≢◌}
use Rattle.sp_scan.proofs.Along.{brace_more, brace_found}
use Rattle.sp_scan.proofs.runs.after_brace.Goals as goal

pub returns-then-first-eq125 : goal.returns-then-first-eq125
returns-then-first-eq125 c = brace_found _ _ _ c.in-Some.first c.more.invariant c.in-Some.ensures (omega arith)

pub more-preserved : goal.more-preserved
more-preserved c = let n : c.in-Some.first ≢ 125 = omega arith in
    brace_more _ _ _ c.in-Some.first c.more.invariant c.in-Some.ensures n
