-- All of this belongs to what the program promises (docs/promise.txt).
-- The text of `where`: for each process that has not ended its name, its place in the text and what it does, and below
-- it its calls and variables. A process that works is at its next instruction; one that waits, joins or was laid is at
-- the instruction at which its last turn ended. Shown is the place of the statement, and for the process that met the
-- fault that of the part of the statement.
use Rattle.std.specs.Prelude.{ℕ, ◌==◌, List, [], ◌++◌, Option, Some, None, Bool, true, false, if◌then◌else◌}
use Rattle.std.specs.Prelude.{slice_get, filter, codes}
use Rattle.std.specs.List.{flat_map}
use Rattle.sp_base.specs.declared.fault.Fault.{Fault}
use Rattle.sp_base.specs.declared.place.Place.{Place}
use Rattle.sp_base.specs.declared.name.ProcName.{ProcName}
use Rattle.sp_base.specs.Faults.{fault_name}
use Rattle.sp_base.specs.Names.{name_text}
use Rattle.sp_journal.specs.declared.entry.Entry.{Entry}
use Rattle.sp_journal.specs.Births.{Births}
use Rattle.sp_journal.specs.Queue.{numbers}
use Rattle.sp_cell.specs.Map.{Plain}
use Rattle.sp_code.specs.declared.instr.Instr.{Instr}
use Rattle.sp_code.specs.declared.instr.Instr.TheVariants as i
use Rattle.sp_code.specs.Machine.{Stop, Sends, Receives, Config, At}
use Rattle.sp_code.specs.Memory.{Memory}
use Rattle.sp_code.specs.System.{Condition, Absent, Working, Waits, Joins, Laid, Gone, Over}
pub use Rattle.sp_kernel.specs.Faults.{fault_in}
use Rattle.sp_machine.specs.Calls.{returns}
use Rattle.sp_report.specs.InOrder.{NamedProcess, sorted_by_name}
use Rattle.sp_lines.specs.JumpTargets.{landing}
use Rattle.sp_base.specs.Places.{place_text}
use Rattle.sp_where.specs.Places.{statement_at, part_at}
use Rattle.sp_where.specs.Values.{cell_channel_text}
use Rattle.sp_where.specs.StateVariables.{Known}
use Rattle.sp_where.specs.StateCalls.{frames_text}

-- the first line of a process up to what it does, as `0/0.1 18:3 `
abbrev pub line_start : ProcName → Place → List ℕ
line_start name at = name_text name ++ codes " " ++ place_text at ++ codes " "

-- nothing but its end is left of what the process is in
abbrev pub is_end : Option Instr → Bool
is_end (Some i.End) = true
is_end (Some i.Return) = true
is_end _ = false

-- the process has not ended
abbrev pub is_live : Condition Plain → Bool
is_live Absent = false
is_live Gone = false
is_live (Over c) = false
is_live _ = true

-- the lines below the first one of process q
abbrev pub config_text : Known → ℕ → Config (Memory Plain) → List ℕ
config_text w q (At pc stack n) = frames_text w q n.store (returns stack) n.frames

abbrev pub lines_below : Known → ℕ → Condition Plain → List ℕ
lines_below w q (Working c) = config_text w q c
lines_below w q (Waits stop c) = config_text w q c
lines_below w q (Joins left c) = config_text w q c
lines_below w q (Laid c) = config_text w q c
lines_below _ _ _ = []

-- a process that works, and goes on at this instruction
abbrev pub working_line : Known → ProcName → ℕ → List ℕ
working_line w name pc = line_start name (statement_at w.marks (landing w.code.instrs pc))
    ++ (if is_end (slice_get w.code.instrs (landing w.code.instrs pc)) then codes "runs to its end\n"
    else codes "runs\n")

-- one that waits at an offer; none waits at another stop. last: the instruction at which its last turn ended
abbrev pub waiting_line : Known → ProcName → (last : ℕ) → Stop → List ℕ
waiting_line w name last (Sends c k cs) = line_start name (statement_at w.marks last)
    ++ (codes "send " ++ cell_channel_text w.births c ++ codes "\n")
waiting_line w name last (Receives c k a) = line_start name (statement_at w.marks last)
    ++ (codes "receive " ++ cell_channel_text w.births c ++ codes "\n")
waiting_line _ _ _ _ = []

-- process q, which was stopped, by the process that met the fault
abbrev pub laid_line : Known → ProcName → (q last : ℕ) → Option (ℕ × Fault) → List ℕ
laid_line w name q last None = line_start name (statement_at w.marks last) ++ codes "laid\n"
laid_line w name q last (Some z) = if z.0 == q then
    line_start name (part_at w.marks last) ++ (codes "fault " ++ fault_name z.1 ++ codes "\n") else
    line_start name (statement_at w.marks last) ++ codes "laid\n"

-- the first line of process q in this condition
abbrev pub first_line : Known → Option (ℕ × Fault) → ProcName → (q last : ℕ) → Condition Plain → List ℕ
first_line w fault name q last (Working (At pc stack n)) = working_line w name pc
first_line w fault name q last (Waits stop c) = waiting_line w name last stop
first_line w fault name q last (Joins left c) = line_start name (statement_at w.marks last) ++ codes "join\n"
first_line w fault name q last (Laid c) = laid_line w name q last fault
first_line _ _ _ _ _ _ = []

-- a process by its name and its number
abbrev pub named_text : Known → Option (ℕ × Fault) → (ℕ → ℕ) → (ℕ → Condition Plain) → NamedProcess → List ℕ
named_text w fault last condition n = first_line w fault n.0 n.1 (last n.1) (condition n.1)
    ++ lines_below w n.1 (condition n.1)

-- the processes that have not ended, of those that the entries made
abbrev pub live_processes : Births → (ℕ → Condition Plain) → List ℕ
live_processes s condition = filter (λ q. is_live (condition q)) (numbers 0 s.processes)

-- the text of `where`, with these entries: each process that has not ended, in the order of names
abbrev pub where_text : Known → List Entry → (ℕ → ℕ) → (ℕ → Condition Plain) → List ℕ
where_text w es last condition = codes "where\n"
    ++ flat_map (named_text w (fault_in es) last condition)
    (sorted_by_name w.births (live_processes w.births condition))
