use Rattle.sp_scan.proofs.Along.{text_more, text_found, text_quotes}
use Rattle.sp_scan.proofs.runs.after_text.Goals as goal

pub more-preserved : goal.more-preserved
more-preserved c = text_more _ _ _ c.in-Some.first c.more.invariant c.in-Some.ensures c.if-first-eq39.false
    c.if-first-eq10.false c.if-first-eq13.false

pub more-preserved-in-Some-pass : goal.more-preserved-in-Some-pass
more-preserved-in-Some-pass c = text_quotes _ _ _ _ c.in-Some.first c.more.invariant c.in-Some.ensures
    c.if-first-eq39.true c.in-Some-pass.ensures

pub returns-in-None : goal.returns-in-None
returns-in-None c = text_found _ _ _ c.in-Some.first c.more.invariant c.in-Some.ensures c.if-first-eq39.true
    c.in-None.ensures
