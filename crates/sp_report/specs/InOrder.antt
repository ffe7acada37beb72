-- All of this belongs to what the program promises (docs/promise.txt).
-- Processes in the order of their names. The reports of trees and of those that wait are said by it; a name is put in
-- its place, so that no sort has to be spoken of.
use Rattle.std.specs.Prelude.{ℕ, List, [], ◌∷◌}
use Rattle.std.specs.BTreeMap.{insert_entry}
use Rattle.sp_base.specs.declared.name.ProcName.{ProcName}
use Rattle.sp_base.specs.Order.{name_cmp}
use Rattle.sp_journal.specs.Births.{Births}
use Rattle.sp_journal.specs.Names.{proc_name}

-- a process by its name and its number
abbrev pub NamedProcess : Type 0
NamedProcess = ProcName × ℕ

-- these in order already, and each of the others at its place among those before it
abbrev pub sorted_onto : Births → List NamedProcess → List ℕ → List NamedProcess
sorted_onto s es [] = es
sorted_onto s es (q ∷ qs) = sorted_onto s (insert_entry name_cmp es (proc_name (s.name q)) q) qs

-- these processes in the order of their names
abbrev pub sorted_by_name : Births → List ℕ → List NamedProcess
sorted_by_name s qs = sorted_onto s [] qs
