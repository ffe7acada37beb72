-- None of this belongs to what the program promises: it is for contracts between crates.
-- The code and the journals of the rows.
use Rattle.std.specs.Prelude.{pos, [], ◌∷◌, None, false}
use Rattle.sp_code.specs.declared.code.Layout.{Layout}
use Rattle.sp_code.specs.declared.code.Parts.{Parts}
use Rattle.sp_code.specs.declared.instr.Instr.TheVariants as i
use Rattle.sp_journal.specs.declared.entry.Entry.{Entry}
use Rattle.sp_journal.specs.declared.entry.Event.{Event}
use Rattle.sp_journal.specs.declared.entry.Event.TheVariants as event
use Rattle.sp_journal.specs.declared.entry.Journal.{Journal}
use Rattle.sp_journal.specs.declared.entry.Way.TheVariants as way
use Rattle.sp_journal.specs.declared.outcome.Waiter.{Waiter}
use Rattle.sp_journal.specs.Names.{chan_name, proc_name}

-- the program's frame has one variable of one cell
abbrev pub main : Layout
main = record { block = 0; entry = 0; parent = None; answer = false; sizes = 1 ∷ []; variables = 2 ∷ []; formals = [] }

-- the code of `x := 6; write(x * 7)`, but that its first instruction names a variable that is not there
abbrev pub no_variable : Parts
no_variable = record {
  instrs = i.Addr 0 3 ∷ i.Const (pos 6) ∷ i.Store ∷ i.Addr 0 2 ∷ i.Load ∷ i.Const (pos 7) ∷ i.Mul ∷ i.WriteInt ∷ i.End
      ∷ [];
  layouts = main ∷ [];
  forks = [];
  texts = [];
}

abbrev pub by_root : Event → Entry
by_root e = record { process = 0; event = e }

-- the root ends
abbrev pub one_end : Journal
one_end = record { entries = by_root event.End ∷ [] }

-- and ends again
abbrev pub two_ends : Journal
two_ends = record { entries = by_root event.End ∷ by_root event.End ∷ [] }

-- the root waits to receive on its first channel
abbrev pub root_waits : Waiter
root_waits = record {
  process = proc_name [];
  way = way.Receive;
  channel = chan_name (record { owner = []; nth = 0 });
}
