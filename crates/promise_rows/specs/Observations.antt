-- None of this belongs to what the program promises: it is for contracts between crates.
-- A call that keeps the promise, and what is seen of it: the rows say by it what must have come, and what cannot. It is
-- said without the words of the promise's own definitions, so that none of these can be changed unseen.
use Rattle.std.specs.Prelude.{◌≡◌, ◌⊎◌, ℕ, List, [], Some}
use Rattle.superpascal.specs.Calls.{Call}
use Rattle.superpascal.specs.Promise.{Promise}

-- A call for these words. The input is told, and so is what the output and the notes have got: nothing before the call,
-- and these bytes behind it.
pub record Observed (c : Call) (asked : List (List ℕ)) (given out told : List ℕ) : Type 0 where
  pub promise : Promise c
  pub words : c.words ≡ asked
  pub input : c.source.left ≡ Some given
  pub output_before : c.output.written ≡ Some []
  pub output_after : c.output.written' ≡ Some out
  pub notes_before : c.notes.written ≡ Some []
  pub notes_after : c.notes.written' ≡ Some told

-- nothing outside fails: no count of faults is above 0 behind the call
pub record IsQuiet (c : Call) : Type 0 where
  pub library : (name : List ℕ) → c.files.after name ≡ 0
  pub source : c.source.after ≡ 0
  pub output : c.output.after ≡ 0
  pub notes : c.notes.after ≡ 0

-- the library holds these bytes under this name
abbrev pub Holds : Call → List ℕ → List ℕ → Type 0
Holds c name bytes = c.files.held name ≡ Some bytes

-- the call has ended with this status and with that, or for want of memory
abbrev pub Ends : Call → ℕ → Type 0 → Type 0
Ends c status P = ((c.outcome.status ≡ status) × P) ⊎ (c.outcome.status ≡ 8)
