use Rattle.std.proofs.Common.{refl}
use Rattle.sp_journal.specs.Births.{births}
use Rattle.sp_journal.proofs.NumberlessEvents.{gives_no_numbers}
use Rattle.sp_journal.proofs.LedgerLaws.{other_ledger}
use Rattle.sp_journal.proofs.ledger.Ledger.add.Goals as goal

pub returns-in_ok-push-in-Send : goal.returns-in_ok-push-in-Send
returns-in_ok-push-in-Send c =
    let l = c.args.self.now in
    record {
      ledger = other_ledger l _ c.args.entry.process c.requires.ledger c.args.entry.event c.requires.next
          (gives_no_numbers (births l.journal.entries) c.args.entry.process c.args.entry.event c.in-Send.is)
          c.in_ok-push-in-Send.ensures.ok refl refl refl (λ q. refl);
      added = c.in_ok-push-in-Send.ensures.ok;
      kept = tt;
    }
