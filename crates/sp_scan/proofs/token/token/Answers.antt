use Rattle.std.proofs.Common.{sym}
use Rattle.sp_scan.proofs.Tokens.{longest_number, longest_text, longest_sign, none_sign}
use Rattle.sp_scan.proofs.token.token.Goals as goal

pub returns-then-is_digit : goal.returns-then-is_digit
returns-then-is_digit c = longest_number c.args.bytes.now c.in-Some.rest.now c.after_number.result.now c.in-Some.first
    c.in-Some.ensures (sym c.if-is_digit.ensures) c.after_number.ensures

pub returns-in-Some-after_text : goal.returns-in-Some-after_text
returns-in-Some-after_text c = longest_text c.args.bytes.now c.in-Some.rest.now c.in-Some-after_text.after.now
    c.in-Some.first c.in-Some.ensures c.if-first-eq39.true c.in-Some-after_text.ensures

pub returns-in-Some-sign : goal.returns-in-Some-sign
returns-in-Some-sign c = longest_sign c.args.bytes.now c.in-Some.rest.now c.in-Some-sign.after.now c.in-Some.first
    c.in-Some-sign.n c.in-Some.ensures (sym c.if-is_letter.ensures) (sym c.if-is_digit.ensures) c.if-first-eq39.false
    c.in-Some-sign.ensures.0 c.in-Some-sign.ensures.1

pub returns-in-None-sign : goal.returns-in-None-sign
returns-in-None-sign c = none_sign c.args.bytes.now c.in-Some.rest.now c.in-Some.first c.in-Some.ensures
    (sym c.if-is_letter.ensures) (sym c.if-is_digit.ensures) c.if-first-eq39.false c.in-None-sign.ensures
