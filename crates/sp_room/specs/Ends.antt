-- None of this belongs to what the program promises: it is for contracts between crates.
-- What a clause reads of a room that was closed: its object and its history. The contracts of the end of a run, here
-- and in the kernel and the runner, cite it.
use Rattle.std.specs.Prelude.{List}
use Rattle.sp_room.specs.declared.settled.Settled.{Settled}

module _ {O A G N : Type 0} where
  -- the object as it was left
  abbrev pub object_of : Settled O A G N → O
  object_of s = s.object

  -- the history
  abbrev pub notes_of : Settled O A G N → List N
  notes_of s = s.notes
