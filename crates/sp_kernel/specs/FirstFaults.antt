-- None of this belongs to what the program promises: it is for contracts between crates.
-- The run of a program whose frame has more cells than the limit: its only entry, and its end.
use Rattle.std.specs.Prelude.{[]}
use Rattle.sp_base.specs.declared.fault.Fault.TheVariants as fault
use Rattle.sp_journal.specs.declared.entry.Entry.{Entry}
use Rattle.sp_journal.specs.declared.entry.Event.TheVariants as event
use Rattle.sp_journal.specs.declared.outcome.End.{End}
use Rattle.sp_journal.specs.declared.outcome.End.TheVariants as end
use Rattle.sp_journal.specs.Names.{proc_name}

-- process 0 has F12
abbrev pub first_fault : Entry
first_fault = record { process = 0; event = event.Fault fault.F12 }

-- the run ends by it
abbrev pub first_fault_end : End
first_fault_end = end.Fault (proc_name []) fault.F12
