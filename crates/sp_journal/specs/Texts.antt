-- All of this belongs to what the program promises (docs/promise.txt).
-- The texts of a journal: a heading, and then a line for each entry. Printing and reading promise the same definition,
-- which makes the two inverse; the reports print entries by it too.
use Rattle.std.specs.Prelude.{◌≡◌, ℕ, ◌+◌, List, [], ◌∷◌, ◌++◌, length, codes, decimal}
use Rattle.sp_base.specs.Faults.{fault_name}
use Rattle.sp_base.specs.Names.{name_text, channel_text}
use Rattle.sp_journal.specs.declared.entry.Way.{Way}
use Rattle.sp_journal.specs.declared.entry.Way.TheVariants as way
use Rattle.sp_journal.specs.declared.entry.Event.{Event}
use Rattle.sp_journal.specs.declared.entry.Event.TheVariants as event
use Rattle.sp_journal.specs.declared.entry.Entry.{Entry}
use Rattle.sp_journal.specs.declared.entry.Journal.{Journal}
use Rattle.sp_journal.specs.declared.version.Version.{Version}
use Rattle.sp_journal.specs.declared.version.Version.TheVariants as version
use Rattle.sp_journal.specs.Names.{proc_name, chan_name}
use Rattle.sp_journal.specs.Births.{Births, first_births, births_after_entry, births, channel, CanFollow, IsNameable}

-- the word of a direction
abbrev pub way_text : Way → List ℕ
way_text way.Send = codes "send"
way_text way.Receive = codes "receive"

-- an offer with the name of its channel
abbrev pub offer_text : Births → Way → ℕ → List ℕ
offer_text s w c = way_text w ++ codes " " ++ channel_text (chan_name (channel s c))

-- an event behind the name of its process
abbrev pub event_text : Births → Event → List ℕ
event_text s (event.Fork n) = codes "fork " ++ decimal n
event_text s event.Open = codes "open"
event_text s (event.Send c) = offer_text s way.Send c
event_text s (event.Receive c) = offer_text s way.Receive c
event_text s event.End = codes "end"
event_text s (event.Fault f) = codes "fault " ++ fault_name f
event_text s event.Laid = codes "laid"
event_text s event.Pause = codes "pause"

-- an entry, as `0/0.1 send 0#0`
abbrev pub entry_text : Births → Entry → List ℕ
entry_text s e = name_text (proc_name (s.name e.process)) ++ codes " " ++ event_text s e.event

-- each entry on a line of its own, with what was given before it
abbrev pub entries_text : Births → List Entry → List ℕ
entries_text s [] = []
entries_text s (e ∷ es) = (entry_text s e ++ codes "\n") ++ entries_text (births_after_entry s e) es

-- version 1 has no `pause`
abbrev pub CanHold : Version → Event → Type 0
CanHold version.One event.Pause = ⊥
CanHold _ _ = Unit {0}

-- so for each entry
abbrev pub AreHeld : Version → List Entry → Type 0
AreHeld v [] = Unit {0}
AreHeld v (e ∷ es) = CanHold v e.event × AreHeld v es

-- the first line
abbrev pub heading : Version → List ℕ
heading version.One = codes "superpascal journal 1\n"
heading version.Two = codes "superpascal journal 2\n"

-- the first line, and then each entry on a line of its own
abbrev pub journal_text : Version → Journal → List ℕ
journal_text v j = heading v ++ entries_text first_births j.entries

-- these bytes are the text of a nameable journal in a version that can hold it
pub record IsTextOf (v : Version) (j : Journal) (bytes : List ℕ) : Type 0 where
  pub nameable : IsNameable j
  pub held : AreHeld v j.entries
  pub text : bytes ≡ journal_text v j

-- line n is the first that is not the text of a next entry, or it is the first line and no heading
pub data IsFirstBad (n : ℕ) (bytes : List ℕ) : Type 0 where
  bad_heading : n ≡ 1 → ((v : Version) (rest : List ℕ) → bytes ≡ heading v ++ rest → ⊥) → IsFirstBad n bytes
  bad_entry : (v : Version) (j : Journal) (text rest : List ℕ) → IsTextOf v j text → bytes ≡ text ++ rest
      → (rest ≡ [] → ⊥)
      → n ≡ length j.entries + 2
      → ((e : Entry) (more : List ℕ) → CanFollow (births j.entries) e → CanHold v e.event
      → rest ≡ (entry_text (births j.entries) e ++ codes "\n") ++ more → ⊥)
      → IsFirstBad n bytes
