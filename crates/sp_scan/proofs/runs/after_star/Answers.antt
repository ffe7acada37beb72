use Rattle.sp_scan.proofs.Along.{star_more, star_found}
use Rattle.sp_scan.proofs.runs.after_star.Goals as goal

pub returns-in-Some-pass : goal.returns-in-Some-pass
returns-in-Some-pass c = star_found _ _ _ _ c.in-Some.first c.more.invariant c.in-Some.ensures c.if-first-eq42.true
    c.in-Some-pass.ensures

pub more-preserved-in_default-pass : goal.more-preserved-in_default-pass
more-preserved-in_default-pass c = star_more _ _ _ c.in-Some.first c.more.invariant c.in-Some.ensures
    (λ h. c.in_default-pass.ensures)

pub more-preserved : goal.more-preserved
more-preserved c = star_more _ _ _ c.in-Some.first c.more.invariant c.in-Some.ensures
    (λ h. absurd (c.if-first-eq42.false h))
