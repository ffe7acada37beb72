use Rattle.std.proofs.Common.{arith, refl}
use Rattle.sp_scan.proofs.TokenPrefixes.{scan_shorter, scan_line, scan_column, scan_done, too_long, scan_breaks}
use Rattle.sp_scan.proofs.TokenPrefixes.{pass_start}
use Rattle.sp_scan.proofs.TokenPrefixes.{pass_item, item_shorter}
use Rattle.sp_scan.proofs.scanner.first_breach.Goals as goal

pub returns-then-text-gt-MAX_TEXT : goal.returns-then-text-gt-MAX_TEXT
returns-then-text-gt-MAX_TEXT c = too_long c.args.text.now _ refl c.if-text-gt-MAX_TEXT.true

pub items-init : goal.items-init
items-init c = pass_start c.args.text.now _ refl (omega (arith, c.if-text-gt-MAX_TEXT.false))

pub step-requires-clause-line : goal.step-requires-clause-line
step-requires-clause-line c = omega (
  arith,
  scan_line c.items.invariant.1,
  scan_shorter c.items.invariant.1,
  c.items.invariant.1.short,
)

pub step-requires-clause-column : goal.step-requires-clause-column
step-requires-clause-column c = omega (
  arith,
  scan_column c.items.invariant.1,
  scan_shorter c.items.invariant.1,
  c.items.invariant.1.short,
)

pub items-smaller : goal.items-smaller
items-smaller c = item_shorter c.items.rest.now c.in-Ok.after.now c.in-Ok.field-0-0 c.in-Ok.ensures.0

pub items-preserved : goal.items-preserved
items-preserved c = pass_item c.args.text.now c.items.rest.now c.in-Ok.after.now c.items.at c.in-Ok.behind
    c.in-Ok.field-0-0 c.items.invariant c.in-Ok.ensures.0 c.in-Ok.ensures.1 c.in-Ok.ensures.2

pub returns-in-Err : goal.returns-in-Err
returns-in-Err c = scan_breaks c.args.text.now c.items.rest.now c.items.invariant.0 c.items.at c.in-Err.rule
    c.items.invariant.1 c.in-Err.ensures

pub returns : goal.returns
returns c = (
  c.items.invariant.0,
  scan_done c.args.text.now c.items.rest.now c.items.invariant.0 c.items.at
      c.items.invariant.1 c.in_default.ensures,
)
