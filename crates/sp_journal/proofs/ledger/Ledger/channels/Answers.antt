use Rattle.std.proofs.Common.{arith}
use Rattle.sp_journal.proofs.BirthLaws.{lawful}
use Rattle.sp_journal.proofs.ledger.Ledger.channels.Goals as goal

pub returns-clause-few : goal.returns-clause-few
returns-clause-few c =
    let l = lawful c.args.self.now.journal.entries c.requires.nameable in
    let f = l.few_channels in
    let e = c.requires.channels in
    let n = c.len.ensures in
    omega arith
