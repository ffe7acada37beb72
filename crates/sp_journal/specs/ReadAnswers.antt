-- Some of this belongs to what the program promises (docs/promise.txt).
-- What reading the text of a journal answers: the contract of `read_journal`. It says both that the answer is right
-- and that there is no other, so that a text stands for one journal.
use Rattle.std.specs.Prelude.{◌≡◌, ℕ, List, codes, Option, Some, None, Result, Ok, Err}
use Rattle.sp_journal.specs.declared.entry.Journal.{Journal}
use Rattle.sp_journal.specs.declared.version.Version.{Version}
use Rattle.sp_journal.specs.declared.version.Version.TheVariants as version
use Rattle.sp_journal.specs.declared.journal_reader.ReadError.{ReadError}
use Rattle.sp_journal.specs.declared.journal_reader.ReadError.TheVariants as error
use Rattle.sp_journal.specs.Texts.{IsTextOf, IsFirstBad}

-- these bytes are the text of some nameable journal
abbrev pub IsText : List ℕ → Type 0
IsText bytes = (v : Version) × (j : Journal) × IsTextOf v j bytes

-- a journal that is read is nameable and the bytes are its text in some version; a bad line is the first one
abbrev pub ReadsJournal : List ℕ → Result Journal ReadError → Type 0
ReadsJournal bytes (Ok j) = (v : Version) × IsTextOf v j bytes
ReadsJournal bytes (Err (error.BadLine n)) = IsFirstBad n bytes
ReadsJournal bytes (Err error.Memory) = Unit {0}

-- no other journal has this text, in any version; and bytes with a bad line are the text of none
abbrev pub ReadsAlone : List ℕ → Result Journal ReadError → Type 0
ReadsAlone bytes (Ok j) = (v : Version) (k : Journal) → IsTextOf v k bytes → k ≡ j
ReadsAlone bytes (Err (error.BadLine n)) = (v : Version) (k : Journal) → IsTextOf v k bytes → ⊥
ReadsAlone bytes (Err error.Memory) = Unit {0}

-- the first line of a version, without its line feed
abbrev pub first_line : Version → List ℕ
first_line version.One = codes "superpascal journal 1"
first_line version.Two = codes "superpascal journal 2"

-- the version of which this is the first line, or of none
abbrev pub IsVersionOf : List ℕ → Option Version → Type 0
IsVersionOf line (Some v) = line ≡ first_line v
IsVersionOf line None = (v : Version) → line ≡ first_line v → ⊥
