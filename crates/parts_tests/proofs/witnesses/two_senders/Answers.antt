use Rattle.std.proofs.Common.{◌≡◌, List, [], ◌∷◌, rules, sym, ◌∙◌, subst}
use Rattle.sp_base.specs.declared.fault.Fault.TheVariants as fault
use Rattle.sp_journal.specs.declared.entry.Entry.{Entry}
use Rattle.sp_journal.specs.declared.entry.Event.TheVariants as event
use Rattle.sp_journal.specs.Births.{first_births, IsNameable, NameableFrom}
use Rattle.sp_witness.specs.OccurrenceNumbers.{witness_journal}
use Rattle.parts_tests.proofs.witnesses.two_senders.Goals as goal

abbrev ran : List Entry
ran =
    record { process = 0; event = event.Open } ∷ record { process = 0; event = event.Fork 2 }
    ∷ record { process = 1; event = event.Send 0 } ∷ record { process = 2; event = event.Send 0 } ∷ []

abbrev shown : List Entry
shown =
    record { process = 0; event = event.Open } ∷ record { process = 0; event = event.Fork 2 }
    ∷ record { process = 1; event = event.Send 0 } ∷ record { process = 2; event = event.Fault fault.F6 } ∷ []

-- the witness by computation
pub is_witness-requires-clause-a_journal : goal.is_witness-requires-clause-a_journal
is_witness-requires-clause-a_journal g c =
    let e : c.of.result ≡ ran = c.of.ensures ∙ c.in_ok-run.ensures.items
    ∙ (λ i. c.entry.ensures i ∷ c.entry-2.ensures i ∷ c.entry-3.ensures i ∷ c.entry-4.ensures i ∷ []) in
    let n : NameableFrom first_births shown = search rules in
    subst (λ es. IsNameable (witness_journal (record { entries = es }) 2 3)) (sym e) n
