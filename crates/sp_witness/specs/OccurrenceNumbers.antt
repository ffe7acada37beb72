-- All of this belongs to what the program promises (docs/promise.txt).
-- A journal of occurrences as entries: processes and channels get their numbers in the order of these entries. A
-- witness keeps the names of the run that it is taken from, and has numbers of its own.
use Rattle.std.specs.Prelude.{ℕ, zero, suc, if◌then◌else◌, List, [], ◌∷◌}
use Rattle.sp_journal.specs.declared.entry.Way.TheVariants as way
use Rattle.sp_journal.specs.declared.entry.Event.{Event}
use Rattle.sp_journal.specs.declared.entry.Event.TheVariants as event
use Rattle.sp_journal.specs.declared.entry.Entry.{Entry}
use Rattle.sp_journal.specs.declared.entry.Journal.{Journal}
use Rattle.sp_journal.specs.Names.{Name, Channel, same_name, same_channel, Happening, Opened, Forked, Offered, Ended}
use Rattle.sp_journal.specs.Names.{Faulted, Laid, Paused, Occurrence}
use Rattle.sp_journal.specs.Births.{Births, first_births, births_after_entry, channel, occurrences}
use Rattle.sp_witness.specs.Witness.{witness}

-- the number below n of the process with this name
abbrev pub process_number : (ℕ → Name) → ℕ → Name → ℕ
process_number name zero p = 0
process_number name (suc n) p = if same_name (name n) p then n else process_number name n p

-- the number below n of the channel with this name
abbrev pub channel_number : Births → ℕ → Channel → ℕ
channel_number s zero c = 0
channel_number s (suc n) c = if same_channel (channel s n) c then n else channel_number s n c

-- an event by numbers, with what was given before it
abbrev pub event_of : Births → Happening → Event
event_of s Opened = event.Open
event_of s (Forked n) = event.Fork n
event_of s (Offered way.Send c) = event.Send (channel_number s s.channels c)
event_of s (Offered way.Receive c) = event.Receive (channel_number s s.channels c)
event_of s Ended = event.End
event_of s (Faulted f) = event.Fault f
event_of s Laid = event.Laid
event_of s Paused = event.Pause

-- an entry by numbers, with what was given before it
abbrev pub numbered_entry : Births → Occurrence → Entry
numbered_entry s o = record { process = process_number s.name s.processes o.who; event = event_of s o.what }

-- the entries of further occurrences
abbrev pub entries_by_numbers_from : Births → List Occurrence → List Entry
entries_by_numbers_from s [] = []
entries_by_numbers_from s (o ∷ os) =
    numbered_entry s o ∷ entries_by_numbers_from (births_after_entry s (numbered_entry s o)) os

-- the entries of these occurrences
abbrev pub entries_by_numbers : List Occurrence → List Entry
entries_by_numbers os = entries_by_numbers_from first_births os

-- the witness of a journal's two offers, as a journal
abbrev pub witness_journal : Journal → ℕ → ℕ → Journal
witness_journal j earlier later = record { entries = entries_by_numbers (witness (occurrences j) earlier later) }
