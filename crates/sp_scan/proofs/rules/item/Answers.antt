use Rattle.std.proofs.Common.{sym}
use Rattle.sp_scan.proofs.Breaches.{blank_item, comment_item}
use Rattle.sp_scan.proofs.rules.item.Goals as goal

pub returns-then-is_blank : goal.returns-then-is_blank
returns-then-is_blank c = blank_item c.args.bytes.now c.args.rest.now c.args.first c.requires
    (sym c.if-is_blank.ensures)

pub returns-in-Some : goal.returns-in-Some
returns-in-Some c = comment_item c.args.bytes.now c.in-Some.after.now c.in-Some.ensures
