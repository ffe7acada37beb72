-- All of this belongs to what the program promises (docs/promise.txt).
-- Entries of a journal by names, as the journal has them: those of `sp_journal`, under the names by which the meaning
-- speaks of them.
use Rattle.std.specs.Prelude.{Bool, true, false}
pub use Rattle.sp_journal.specs.Names.{Happening, Opened, Forked, Offered, Ended, Faulted, Laid, Paused, Occurrence}

-- the entry of a fault
abbrev pub is_fault : Happening → Bool
is_fault (Faulted f) = true
is_fault _ = false
