use Rattle.sp_journal.proofs.Walk.{any_entry, kept_whole, still_nameable}
use Rattle.sp_journal.proofs.ledger.Ledger.of.Goals as goal

pub loop-entry-preserved : goal.loop-entry-preserved
loop-entry-preserved c =
    let es = c.items-entry-items.result.now in
    let h = c.loop-entry.invariant in (
      c.in_ok-add.ensures.ledger,
      kept_whole es c.loop-entry.entry-index c.loop-entry-test.true
          c.loop-entry.ledger.journal.entries c.add.new.self.journal.entries h.1 c.in_ok-add.ensures.added,
      still_nameable es c.loop-entry.entry-index any_entry c.loop-entry-test.true h.2,
    )
