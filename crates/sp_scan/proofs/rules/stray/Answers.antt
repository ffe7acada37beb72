use Rattle.sp_base.specs.declared.rule.Rule.TheVariants.{S1, S3, U1, U2}
use Rattle.sp_scan.proofs.Breaches.{at_cut, stray_quote, stray_caret, stray_at, stray_slash, stray_other}
use Rattle.sp_scan.proofs.rules.stray.Goals as goal

pub returns-then-first-eq39 : goal.returns-then-first-eq39
returns-then-first-eq39 c = at_cut S3 c.args.bytes.now c.args.rest.now c.args.first c.requires.starts c.requires.closed
    c.requires.none (λ o n. stray_quote c.args.first c.args.rest.now c.requires.blank o n c.if-first-eq39.true)

pub returns-then-first-eq94 : goal.returns-then-first-eq94
returns-then-first-eq94 c = at_cut U1 c.args.bytes.now c.args.rest.now c.args.first c.requires.starts c.requires.closed
    c.requires.none (λ o n. stray_caret c.args.first c.args.rest.now c.requires.blank o n c.if-first-eq94.true)

pub returns-then-first-eq64 : goal.returns-then-first-eq64
returns-then-first-eq64 c = at_cut U1 c.args.bytes.now c.args.rest.now c.args.first c.requires.starts c.requires.closed
    c.requires.none (λ o n. stray_at c.args.first c.args.rest.now c.requires.blank o n c.if-first-eq64.true)

pub returns-then-first-eq47 : goal.returns-then-first-eq47
returns-then-first-eq47 c = at_cut U2 c.args.bytes.now c.args.rest.now c.args.first c.requires.starts c.requires.closed
    c.requires.none (λ o n. stray_slash c.args.first c.args.rest.now c.requires.blank o n c.if-first-eq47.true)

pub returns : goal.returns
returns c = at_cut S1 c.args.bytes.now c.args.rest.now c.args.first c.requires.starts c.requires.closed c.requires.none
    (λ o n. stray_other c.args.first c.args.rest.now c.requires.blank o n c.if-first-eq39.false c.if-first-eq94.false
    c.if-first-eq64.false c.if-first-eq47.false)
