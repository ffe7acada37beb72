use Rattle.sp_scan.proofs.Tokens.{closes_brace, closes_star}
use Rattle.sp_scan.proofs.runs.after_comment.Goals as goal

pub returns-then-first-eq123 : goal.returns-then-first-eq123
returns-then-first-eq123 c = closes_brace c.args.bytes.now c.in-Some.rest.now c.in-Some.first c.after_brace.result
    c.in-Some.ensures c.if-first-eq123.true c.after_brace.ensures

pub returns-in-Some-pass : goal.returns-in-Some-pass
returns-in-Some-pass c = closes_star c.args.bytes.now c.in-Some.rest.now c.in-Some-pass.behind.now c.in-Some.first
    c.after_star.result c.in-Some.ensures c.if-first-eq40.true c.in-Some-pass.ensures c.after_star.ensures
