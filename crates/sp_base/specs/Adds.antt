-- None of this belongs to what the program promises: it is for contracts between crates.
-- What a writer has after a call, if memory was not refused up to then: a writer that was refused memory is lost.
use Rattle.std.specs.Prelude.{◌≡◌, List, ◌++◌, false}
use Rattle.sp_base.specs.declared.writer.Writer.{Writer}

-- if the new writer is not lost, the old one was not, and this holds
abbrev pub Keeps : {T : Type 0} → Writer T → Writer T → Type 0 → Type 0
Keeps old new P = new.is_lost ≡ false → (old.is_lost ≡ false) × P

-- if the new writer is not lost, the old one was not, and these items stand behind the old ones
abbrev pub Adds : {T : Type 0} → Writer T → Writer T → List T → Type 0
Adds old new xs = Keeps old new (new.items.items ≡ old.items.items ++ xs)

-- for loops: if the new writer is not lost, the old one was not, and the new items and the rest are the old ones
-- and the whole
abbrev pub Covers : {T : Type 0} → Writer T → Writer T → (rest whole : List T) → Type 0
Covers old new rest whole = Keeps old new (new.items.items ++ rest ≡ old.items.items ++ whole)
