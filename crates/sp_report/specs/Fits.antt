-- None of this belongs to what the program promises: it is for contracts between crates.
-- What a table of conditions holds, and that what processes wait for is there. No public contract cites these; the
-- parts of the report of those that wait keep them.
use Rattle.std.specs.Prelude.{◌≡◌, ℕ, ◌+◌, ◌<◌, ◌≤◌, false, nat_eq, unwrap_or}
use Rattle.std.specs.HashMap as hash
use Rattle.sp_journal.specs.Births.{Births}
use Rattle.sp_report.specs.declared.condition.Condition.{Condition}
use Rattle.sp_report.specs.declared.condition.Condition.TheVariants as condition
use Rattle.sp_report.specs.declared.table.Table.{Table}
use Rattle.sp_report.specs.Conditions.{Conditions}

-- the table as the definition sees it
abbrev pub table_conditions : Table → Conditions
table_conditions t = record {
  of = λ q. unwrap_or (hash.get nat_eq t.of q) condition.Unstarted;
  pending = λ c. hash.get nat_eq t.pending c;
  faulted = t.faulted;
}

-- if the new table is not lost, the old one was not, and the new one has these conditions
abbrev pub Becomes : Table → Table → Conditions → Type 0
Becomes old new t = new.is_lost ≡ false → (old.is_lost ≡ false) × (table_conditions new ≡ t)

-- what a process waits for is there
abbrev pub ConditionFits : Births → Condition → Type 0
ConditionFits s (condition.Offering w c) = c < s.channels
ConditionFits s (condition.Joining first n left) = first + n ≤ s.processes
ConditionFits _ _ = Unit {0}

-- so for each process
abbrev pub ConditionsFit : Births → Conditions → Type 0
ConditionsFit s t = (q : ℕ) → ConditionFits s (t.of q)
