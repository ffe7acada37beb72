-- None of this belongs to what the program promises: it is for contracts between crates.
-- What a reader of a journal's text keeps, and what it makes of a line. No public contract cites these; the parts of
-- the reader promise them to each other, so that each line is looked at once.
use Rattle.std.specs.Prelude.{◌≡◌, ℕ, ◌-◌, ◌<◌, List, ◌∷◌, ◌++◌, Option, Some, None}
use Rattle.std.specs.HashMap.{get_by_text}
use Rattle.std.specs.Fmt.{decimal}
use Rattle.sp_base.specs.Names.{name_text, channel_text}
use Rattle.sp_journal.specs.declared.entry.Birth.{Birth}
use Rattle.sp_journal.specs.declared.entry.Entry.{Entry}
use Rattle.sp_journal.specs.declared.version.Version.{Version}
use Rattle.sp_journal.specs.declared.reader.Reader.{Reader}
use Rattle.sp_journal.specs.Names.{Name, proc_name, chan_name}
use Rattle.sp_journal.specs.Births.{Births, births, channel, CanFollow}
use Rattle.sp_journal.specs.Ledger.{IsLedger}
use Rattle.sp_journal.specs.Texts.{entry_text, CanHold}

-- the text of a fork: the names of its children go on with a point and their number
abbrev pub family_text : Name → ℕ → List ℕ
family_text p f = name_text (proc_name p) ++ 47 ∷ decimal f

-- what has been read so far
abbrev pub births_read : Reader → Births
births_read r = births r.ledger.journal.entries

-- by the text of each fork that has children the number of the first one, and by the name of each channel its number
pub record IsReader (r : Reader) : Type 0 where
  pub ledger : IsLedger r.ledger
  pub families : (q : ℕ) (b : Birth) → q < (births_read r).processes → (births_read r).birth q ≡ Some b
      → get_by_text r.families (family_text ((births_read r).name b.parent) b.fork) ≡ Some (q - b.child)
  pub channels : (c : ℕ) → c < (births_read r).channels
      → get_by_text r.channels (channel_text (chan_name (channel (births_read r) c))) ≡ Some c

-- what can come next, in this version
abbrev pub CanCome : Version → Births → Entry → Type 0
CanCome v s e = CanFollow s e × CanHold v e.event

-- the line is the text of this entry, which can come next, and of no other; or it is the text of none
abbrev pub IsEntryOfLine : Version → Births → List ℕ → Option Entry → Type 0
IsEntryOfLine v s line (Some e) = CanCome v s e × (line ≡ entry_text s e)
    × ((d : Entry) → CanCome v s d → line ≡ entry_text s d → d ≡ e)
IsEntryOfLine v s line None = (d : Entry) → CanCome v s d → line ≡ entry_text s d → ⊥
