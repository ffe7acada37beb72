use Rattle.std.proofs.Common.{◌≡◌, ◌≤◌, ◌++◌, take, drop}
use Rattle.sp_journal.specs.Births.{first_births, births, NameableFrom}
use Rattle.sp_witness.specs.TableNumbers.{first_table, renumbered_entries, table_of}
use Rattle.sp_witness.specs.Passes.{table_in}
use Rattle.sp_witness.proofs.numbers.renumbered.Given as goal

abbrev pub invariant-loop-at : goal.invariant-loop-at
invariant-loop-at l = record {
  nameable : NameableFrom (births (take l.at l.front)) (drop l.at l.front);
  process : l.process ≡ (births (take l.at l.front)).processes;
  channel : l.channel ≡ (births (take l.at l.front)).channels;
  next_process : l.numbers.next_process ≤ l.process;
  next_channel : l.numbers.next_channel ≤ l.channel;
  entries : l.entries ++ renumbered_entries (births (take l.at l.front)) (table_in l.numbers) (drop l.at l.front)
      (drop l.at l.marks)
      ≡ renumbered_entries first_births first_table l.front l.marks;
  table : table_of (births (take l.at l.front)) (table_in l.numbers) (drop l.at l.front) (drop l.at l.marks)
      ≡ table_of first_births first_table l.front l.marks;
}
