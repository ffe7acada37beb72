-- None of this belongs to what the program promises: it is for contracts between crates.
-- How far a text has been read: the entries so far, and that every journal with this text begins with them. No public
-- contract cites these; the proof of the reader keeps them from line to line.
use Rattle.std.specs.Prelude.{◌≡◌, ℕ, List, ◌++◌}
use Rattle.sp_journal.specs.declared.entry.Entry.{Entry}
use Rattle.sp_journal.specs.declared.entry.Journal.{Journal}
use Rattle.sp_journal.specs.declared.version.Version.{Version}
use Rattle.sp_journal.specs.Births.{Births, births, NameableFrom}
use Rattle.sp_journal.specs.Texts.{entries_text, journal_text, AreHeld, IsTextOf}

-- these further entries can come next, and the rest of the text is theirs
pub record IsTextOfRest (v : Version) (s : Births) (rest : List ℕ) (more : List Entry) : Type 0 where
  pub nameable : NameableFrom s more
  pub held : AreHeld v more
  pub text : rest ≡ entries_text s more

-- the bytes are the text of these entries and the rest, and each journal of which they are the text begins with them
pub record Begun (bytes : List ℕ) (v : Version) (es : List Entry) (rest : List ℕ) : Type 0 where
  pub whole : IsTextOf v (record { entries = es }) (journal_text v (record { entries = es }))
  pub joined : bytes ≡ journal_text v (record { entries = es }) ++ rest
  pub begins : (w : Version) (k : Journal) → IsTextOf w k bytes → (w ≡ v) × (more : List Entry)
      × (k.entries ≡ es ++ more) × IsTextOfRest v (births es) rest more
