-- None of this belongs to what the program promises: it is for contracts between crates.
-- The text on the processes that wait: who waits for what, in the order of names. The contract of that report promises
-- it.
use Rattle.std.specs.Prelude.{ℕ, Bool, true, false, not, List, [], ◌++◌, codes, filter}
use Rattle.std.specs.List.{flat_map}
use Rattle.sp_base.specs.Names.{name_text}
use Rattle.sp_journal.specs.declared.entry.Entry.{Entry}
use Rattle.sp_journal.specs.Births.{Births, births}
use Rattle.sp_journal.specs.Names.{proc_name}
use Rattle.sp_journal.specs.Queue.{numbers}
use Rattle.sp_journal.specs.Texts.{offer_text}
use Rattle.sp_report.specs.declared.condition.Condition.{Condition}
use Rattle.sp_report.specs.declared.condition.Condition.TheVariants as condition
use Rattle.sp_report.specs.Conditions.{Conditions, conditions}
use Rattle.sp_report.specs.InOrder.{NamedProcess, sorted_by_name}

-- it sends, receives or joins
abbrev pub is_waiting : Condition → Bool
is_waiting (condition.Offering w c) = true
is_waiting (condition.Joining first n left) = true
is_waiting _ = false

-- it has ended
abbrev pub has_ended : Condition → Bool
has_ended condition.Ended = true
has_ended _ = false

-- these children, each after a space
abbrev pub children_text : Births → List ℕ → List ℕ
children_text s qs = flat_map (λ q. codes " " ++ name_text (proc_name (s.name q))) qs

-- those that have not ended, in order
abbrev pub unended_children : Conditions → ℕ → ℕ → List ℕ
unended_children t first n = filter (λ q. not (has_ended (t.of q))) (numbers first n)

-- what a process waits for, as `send 0#0` or `join 0/0.0 0/0.1`
abbrev pub wait_text : Births → Conditions → Condition → List ℕ
wait_text s t (condition.Offering w c) = offer_text s w c
wait_text s t (condition.Joining first n left) = codes "join" ++ children_text s (unended_children t first n)
wait_text _ _ _ = []

-- the line of a process that waits
abbrev pub waiting_line : Births → Conditions → NamedProcess → List ℕ
waiting_line s t n = name_text n.0 ++ codes " " ++ wait_text s t (t.of n.1) ++ codes "\n"

abbrev pub waiting_lines : Births → Conditions → List NamedProcess → List ℕ
waiting_lines s t ns = flat_map (waiting_line s t) ns

-- the processes that wait
abbrev pub processes_waiting : Births → Conditions → List ℕ
processes_waiting s t = filter (λ q. is_waiting (t.of q)) (numbers 0 s.processes)

-- a line for each process that waits, in order of names
abbrev pub waiting_text : List Entry → List ℕ
waiting_text es = codes "waiting\n" ++ waiting_lines (births es) (conditions es)
    (sorted_by_name (births es) (processes_waiting (births es) (conditions es)))
