-- None of this belongs to what the program promises: it is for contracts between crates.
-- What is told while a journal is followed.
use Rattle.sp_journal.specs.declared.entry.Entry.{Entry}
use Rattle.sp_lines.specs.declared.entry_place.Told.{Told}
use Rattle.sp_lines.specs.EntryPlaces.{EntryTells}
use Rattle.sp_kernel.specs.declared.kernel.Kernel.{Kernel}
use Rattle.sp_kernel.specs.Kernels.{system_of, code_run_of}
use Rattle.sp_replay.specs.FollowInvariant.{EventMade}

-- the entry was made, and this is told of it
pub record ToldMade (x : Kernel) (e : Entry) (w : Told) (y : Kernel) : Type 0 where
  pub made : EventMade x e.process e.event y
  pub tells : EntryTells (code_run_of x) (system_of x) e.process e.event w (system_of y)
