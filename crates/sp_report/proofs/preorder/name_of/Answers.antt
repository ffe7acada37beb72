use Rattle.std.proofs.Common.{sym, ◌∙◌}
use Rattle.sp_journal.specs.Births.{births}
use Rattle.sp_journal.proofs.BirthLaws.{lawful, name_by_birth}
use Rattle.sp_report.proofs.NameOrder.{ok_child}
use Rattle.sp_report.proofs.preorder.name_of.Goals as goal

pub returns-in-Some-known : goal.returns-in-Some-known
returns-in-Some-known c =
    let s = births c.args.ledger.now.journal.entries in
    ok_child s c.args.process c.in-Some.birth c.in-Some-known.parent.now c.with_pair.result
    (name_by_birth s (lawful _ c.requires.ledger.nameable) c.args.process c.requires.there c.in-Some.birth
    (sym c.in-Some.is ∙ c.birth.ensures)) (c.in-Some-known.ensures s c.requires.names) c.with_pair.ensures
