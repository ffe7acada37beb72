-- None of this belongs to what the program promises: it is for contracts between crates.
-- The text of a census: how many entries of each kind a journal has. The contract of the census promises it, by
-- counting in the whole list.
use Rattle.std.specs.Prelude.{ℕ, Bool, true, false, List, [], ◌∷◌, ◌++◌, codes, count_by, decimal}
use Rattle.std.specs.List.{flat_map}
use Rattle.sp_journal.specs.declared.entry.Event.{Event}
use Rattle.sp_journal.specs.declared.entry.Event.TheVariants as event
use Rattle.sp_journal.specs.declared.entry.Entry.{Entry}
use Rattle.sp_report.specs.declared.census.EntryKind.{EntryKind}
use Rattle.sp_report.specs.declared.census.EntryKind.TheVariants as kind

-- the entries of each kind; a pause is of none
abbrev pub is_counted : EntryKind → Event → Bool
is_counted kind.Forks (event.Fork n) = true
is_counted kind.Opens event.Open = true
is_counted kind.Sends (event.Send c) = true
is_counted kind.Receives (event.Receive c) = true
is_counted kind.Ends event.End = true
is_counted kind.Faults (event.Fault f) = true
is_counted kind.Laid event.Laid = true
is_counted _ _ = false

-- how many entries are of a kind
abbrev pub count_of : EntryKind → List Entry → ℕ
count_of k es = count_by (λ e. is_counted k e.event) es

-- the word of a kind
abbrev pub kind_name : EntryKind → List ℕ
kind_name kind.Forks = codes "forks"
kind_name kind.Opens = codes "opens"
kind_name kind.Sends = codes "sends"
kind_name kind.Receives = codes "receives"
kind_name kind.Ends = codes "ends"
kind_name kind.Faults = codes "faults"
kind_name kind.Laid = codes "laid"

-- as `sends 31`
abbrev pub count_line : List Entry → EntryKind → List ℕ
count_line es k = kind_name k ++ codes " " ++ decimal (count_of k es) ++ codes "\n"

-- the kinds in the order of the lines
abbrev pub kinds : List EntryKind
kinds = kind.Forks ∷ kind.Opens ∷ kind.Sends ∷ kind.Receives ∷ kind.Ends ∷ kind.Faults ∷ kind.Laid ∷ []

-- the name of the report, and a line for each kind
abbrev pub census_text : List Entry → List ℕ
census_text es = codes "census\n" ++ flat_map (count_line es) kinds
