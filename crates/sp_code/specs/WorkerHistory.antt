-- None of this belongs to what the program promises: it is for contracts between crates.
-- Histories of one worker that hands in what it holds, with each of its asks. The runner's contract shows each
-- worker's notes to be such, and the law of first in, first out needs it.
use Rattle.std.specs.Prelude.{◌≡◌, ℕ, List, [], ◌∷◌, length, Option, Some}
use Rattle.sp_journal.specs.declared.entry.Note.{Note}
use Rattle.sp_journal.specs.declared.entry.Birth.{Birth}
use Rattle.sp_code.specs.Control.{Control, Doing, Unborn, Joining, Ended}
use Rattle.sp_code.specs.Agreement.{Among}

-- each note gives what the one before it got: at first o
abbrev pub OneByOne : Option ℕ → List Note → Type 0
OneByOne o [] = Unit {0}
OneByOne o (n ∷ ns) = (n.given ≡ o) × OneByOne n.got ns

-- how many children a process still waits for
abbrev pub left_of : Doing → ℕ
left_of (Joining n) = n
left_of _ = 0

-- it is there, and has not ended
abbrev pub IsLive : Doing → Type 0
IsLive Unborn = ⊥
IsLive Ended = ⊥
IsLive _ = Unit {0}

-- each process waits for as many children as it has that have not ended
pub record HasChildren (k : Control) : Type 0 where
  pub children : ℕ → List ℕ
  pub count : (p : ℕ) → length (children p) ≡ left_of (k.doing p)
  pub all : (q : ℕ) (b : Birth) → k.births.birth q ≡ Some b → IsLive (k.doing q) → Among q (children b.parent)
