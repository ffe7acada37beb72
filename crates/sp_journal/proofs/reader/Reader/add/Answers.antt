use Rattle.std.proofs.Common.{refl}
use Rattle.sp_base.proofs.Facts.{on_ok}
use Rattle.sp_journal.specs.Reader.{births_read}
use Rattle.sp_journal.proofs.NumberlessEvents.{gives_no_numbers}
use Rattle.sp_journal.proofs.ReadingLaws.{other_reader}
use Rattle.sp_journal.proofs.reader.Reader.add.Goals as goal

pub returns-in-Send : goal.returns-in-Send
returns-in-Send c =
    let r = c.args.self.now in
    let e = c.args.entry in
    record {
      reader = on_ok c.add.result c.add.ensures.added
          (λ added. other_reader r _ e.process c.requires.reader c.add.ensures.ledger e.event
          (gives_no_numbers (births_read r) e.process e.event c.in-Send.is) added refl refl);
      added = c.add.ensures.added;
      version = on_ok c.add.result c.add.ensures.added (λ _. refl);
    }
