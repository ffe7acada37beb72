-- None of this belongs to what the program promises: it is for contracts between crates.
-- The text of a tree of processes: each in the order of names, indented by its depth. The contract of the tree
-- promises it.
use Rattle.std.specs.Prelude.{ℕ, ◌-◌, List, [], ◌∷◌, ◌++◌, codes, decimal}
use Rattle.std.specs.List.{flat_map}
use Rattle.sp_base.specs.declared.name.Pair.{Pair}
use Rattle.sp_base.specs.declared.name.ProcName.{ProcName}
use Rattle.sp_journal.specs.declared.entry.Entry.{Entry}
use Rattle.sp_journal.specs.Births.{Births, births}
use Rattle.sp_journal.specs.Queue.{numbers}
use Rattle.sp_report.specs.InOrder.{NamedProcess, sorted_by_name}

-- two spaces for each pair
abbrev pub indent : List Pair → List ℕ
indent ps = flat_map (λ p. codes "  ") ps

-- the last pair, as `2.1`
abbrev pub last_pair : List Pair → List ℕ
last_pair [] = []
last_pair (p ∷ []) = decimal p.fork ++ codes "." ++ decimal p.child
last_pair (p ∷ (q ∷ ps)) = last_pair (q ∷ ps)

-- a process that was forked, as `    2.1`
abbrev pub tree_line : ProcName → List ℕ
tree_line n = indent n.pairs ++ last_pair n.pairs ++ codes "\n"

-- a line for each
abbrev pub tree_lines : List NamedProcess → List ℕ
tree_lines ns = flat_map (λ n. tree_line n.0) ns

-- every process but the root
abbrev pub forked_processes : Births → List ℕ
forked_processes s = numbers 1 (s.processes - 1)

-- the root, and then the others in order of names
abbrev pub tree_text : List Entry → List ℕ
tree_text es = codes "tree\n0\n" ++ tree_lines (sorted_by_name (births es) (forked_processes (births es)))
