use Rattle.std.proofs.Common.{arith, refl}
use Rattle.sp_tree.proofs.TokenOrder.{lexeme_length}
use Rattle.sp_scan.proofs.TokenPrefixes.{scan_start, scan_shorter, scan_line, scan_column, scan_gap, scan_token}
use Rattle.sp_scan.proofs.TokenPrefixes.{scan_done}
use Rattle.sp_scan.proofs.TokenPrefixes.{too_long, scan_breaks, gap_shorter, as_gap, as_token}
use Rattle.sp_scan.proofs.scanner.scan.Goals as goal

pub returns-then-text-gt-MAX_TEXT : goal.returns-then-text-gt-MAX_TEXT
returns-then-text-gt-MAX_TEXT c = too_long c.args.text.now _ refl c.if-text-gt-MAX_TEXT.true

pub items-init : goal.items-init
items-init c = scan_start c.args.text.now _ _ c.new-tokens.ensures refl (omega (arith, c.if-text-gt-MAX_TEXT.false))

pub step-requires-clause-line : goal.step-requires-clause-line
step-requires-clause-line c = omega (
  arith,
  scan_line c.items.invariant,
  scan_shorter c.items.invariant,
  c.items.invariant.short,
)

pub step-requires-clause-column : goal.step-requires-clause-column
step-requires-clause-column c = omega (
  arith,
  scan_column c.items.invariant,
  scan_shorter c.items.invariant,
  c.items.invariant.short,
)

pub items-smaller-in-Ok-None-default-default : goal.items-smaller-in-Ok-None-default-default
items-smaller-in-Ok-None-default-default c =
    let next = c.in-Ok-None-default-default in
    gap_shorter (as_gap c.items.rest.now next.after.now next.field-0-0 next.field-0-0-is next.ensures.0)

pub items-preserved-in-Ok-None-default-default : goal.items-preserved-in-Ok-None-default-default
items-preserved-in-Ok-None-default-default c =
    let next = c.in-Ok-None-default-default in
    let gap = as_gap c.items.rest.now next.after.now next.field-0-0 next.field-0-0-is next.ensures.0 in
    scan_gap c.items.invariant next.after.now next.behind gap next.ensures.1 next.ensures.2

pub overflow_sub-from : goal.overflow_sub-from
overflow_sub-from c = scan_shorter c.items.invariant

pub overflow_sub-to : goal.overflow_sub-to
overflow_sub-to c =
    let next = c.in-Ok-Some-default-default in
    let (_, longest) =
    as_token c.items.rest.now next.after.now next.field-0-0 next.kind next.field-0-0-is next.ensures.0 in
    omega (arith, scan_shorter c.items.invariant, lexeme_length longest.spelled)

pub items-smaller : goal.items-smaller
items-smaller c =
    let next = c.in-Ok-Some-default-default in
    let (_, longest) =
    as_token c.items.rest.now next.after.now next.field-0-0 next.kind next.field-0-0-is next.ensures.0 in
    lexeme_length longest.spelled

pub items-preserved : goal.items-preserved
items-preserved c =
    let next = c.in-Ok-Some-default-default in
    let (opens, longest) =
    as_token c.items.rest.now next.after.now next.field-0-0 next.kind next.field-0-0-is next.ensures.0 in
    scan_token c.items.invariant next.after.now next.behind next.kind c.push.new.self opens longest next.ensures.1
    next.ensures.2 c.in_ok-push-in-Ok-Some-default-default.ensures.ok

pub returns-in-Err : goal.returns-in-Err
returns-in-Err c = scan_breaks c.args.text.now c.items.rest.now c.items.tokens c.items.at c.in-Err.rule
    c.items.invariant c.in-Err.ensures

pub returns : goal.returns
returns c = scan_done c.args.text.now c.items.rest.now c.items.tokens c.items.at c.items.invariant c.in_default.ensures
