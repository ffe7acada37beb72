use Rattle.std.proofs.Common.{◌≡◌, subst, ℕ, List, MatchOption}
use Rattle.sp_journal.specs.Births.{births}
use Rattle.sp_report.specs.GuessedOrder.{AreForked, Rises, names_of}
use Rattle.sp_report.proofs.NameOrder.{lines_rise}
use Rattle.sp_report.proofs.preorder.rising_names.Goals as goal

pub returns-then-rises : goal.returns-then-rises
returns-then-rises c =
    let s = births c.args.ledger.now.journal.entries in
    let order : List ℕ = c.in-Ok.value.order in
    let all = subst (λ o. MatchOption o (Unit {0}) (λ names. (names ≡ names_of s order) × AreForked s order))
    c.in-Some.is c.in-Ok-names_of.ensures in
    lines_rise s order c.in-Some.names c.processes-count.result c.processes-count.ensures.value
    c.processes-count.ensures.some (c.has_below.ensures c.if-not-has_below.false) all.0 all.1
    (subst Rises c.items.ensures (c.rises.ensures c.if-rises.true))
