-- None of this belongs to what the program promises: it is for contracts between crates.
-- Entries of faults: the law that a journal has one at most is said by it.
use Rattle.std.specs.Prelude.{◌≡◌}
use Rattle.sp_base.specs.declared.fault.Fault.{Fault}
use Rattle.sp_journal.specs.declared.entry.Event.{Event}
use Rattle.sp_journal.specs.declared.entry.Event.TheVariants as event

-- the event is a fault
abbrev pub IsFaulty : Event → Type 0
IsFaulty e = (f : Fault) × (e ≡ event.Fault f)
