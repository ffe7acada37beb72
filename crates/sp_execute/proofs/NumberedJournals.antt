-- The witness is clean but for its last entry, so it can be numbered.
use Rattle.std.proofs.Common.{◌≡◌, ℕ, List, [], ◌∷◌, ◌++◌, slice_get, sym, ap, ◌∙◌, subst}
use Rattle.sp_base.specs.declared.fault.Fault.TheVariants as fault
use Rattle.sp_journal.specs.declared.entry.Journal.{Journal}
use Rattle.sp_journal.specs.declared.entry.Way.{Way}
use Rattle.sp_journal.specs.Names.{Channel, Faulted, Occurrence}
use Rattle.sp_journal.specs.Births.{first_births, occurrences, occurrences_from, NameableFrom}
use Rattle.sp_meaning.specs.LocalWork.{RunInput}
use Rattle.sp_meaning.specs.Runs.{StateOf}
use Rattle.sp_meaning.specs.Along.{IsAlong, IsClean}
use Rattle.sp_execute.specs.NumberedRuns.{Numbered}
use Rattle.sp_witness.specs.Witness.{who_at, entry_list, first_part, witness}
use Rattle.sp_witness.specs.Contention.{Shows}
use Rattle.sp_witness.specs.OccurrenceNumbers.{entries_by_numbers}
use Rattle.sp_execute.specs.NumberedJournals.{IsWitness}
use Rattle.sp_witness.proofs.NumberLookups.{found}
use Rattle.sp_witness.proofs.Cleanness.{front_clean}

pub is_witness : (g : RunInput) (turn : ℕ) (j : Journal) (w : Way) (c : Channel) (earlier later : ℕ)
    → IsClean (occurrences j) → Shows g turn (occurrences j) w c earlier later
    → ((os : List Occurrence) (o : Occurrence) → IsClean os → (n : ℕ) (s : StateOf g)
    → IsAlong g turn (os ++ o ∷ []) n s → Numbered (os ++ o ∷ [])) → IsWitness g turn j w c earlier later
is_witness g turn j w c earlier later clean shows numbering =
    let os = occurrences j in
    let front = first_part os earlier later ++ entry_list (slice_get os earlier) in
    let ok : IsClean front = front_clean os earlier later clean in
    let n : Numbered (witness os earlier later) =
    numbering front (record { who = who_at os later; what = Faulted fault.F6 }) ok shows.size shows.state
    shows.along in
    let is : entries_by_numbers (witness os earlier later) ≡ n.entries = ap entries_by_numbers (sym n.names)
    ∙ found n.entries n.nameable in
    record {
      nameable = subst (NameableFrom first_births) (sym is) n.nameable;
      names = ap (occurrences_from first_births) is ∙ n.names;
      shows = shows;
    }
