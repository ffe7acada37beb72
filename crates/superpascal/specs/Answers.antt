-- All of this belongs to what the program promises (docs/promise.txt).
-- What a call has to write, and its status: the table of endings. The contracts of `ending` and `writing` promise it,
-- and the headline and the statuses are said by it.
use Rattle.std.specs.Prelude.{ℕ, ◌==◌, List, [], ◌++◌, Option, Some, None, unwrap_or, Bool, ◌||◌, codes, decimal}
use Rattle.sp_codefile.specs.VerifyAnswers.{rule_of}
use Rattle.sp_execute.specs.declared.execution.Ran.{Ran}
use Rattle.sp_kernel.specs.declared.closed.Closed.{Closed}
use Rattle.sp_print.specs.OutcomeLines.{refusal_text}
use Rattle.sp_verify_rules.specs.Verdict.{number}
use Rattle.superpascal.specs.declared.ending.Ending.{Ending}
use Rattle.superpascal.specs.declared.ending.Ending.TheVariants as e
use Rattle.superpascal.specs.declared.ending.Answer.{Answer}

-- the number of each ending
abbrev pub status_of : Ending → ℕ
status_of e.Done = 0
status_of e.NoEnd = 0
status_of e.Accepted = 0
status_of (e.Refused r) = 1
status_of e.BadWords = 2
status_of e.Fault = 3
status_of e.Deadlock = 4
status_of e.ReadFault = 5
status_of e.TooLong = 7
status_of e.OutOfMemory = 8
status_of e.LongJournal = 9
status_of (e.BadJournal n) = 9
status_of (e.Unfit n) = 9
status_of e.LongCode = 10
status_of e.LongFile = 10
status_of (e.BadCode n) = 10
status_of (e.Rejected v i) = 10

-- the answer has an output: that of a run, a replay or an execution, or the text that the command asks for, if any
abbrev pub has_output : Ending → Bool
has_output x = status_of x == 0 || (status_of x == 3 || status_of x == 4)

-- the line of a call that is the same for every text
abbrev pub fixed_line : Ending → Option (List ℕ)
fixed_line e.BadWords = Some (codes "bad words\n")
fixed_line e.ReadFault = Some (codes "read fault\n")
fixed_line e.TooLong = Some (codes "input too long\n")
fixed_line e.OutOfMemory = Some (codes "out of memory\n")
fixed_line e.LongJournal = Some (codes "journal too long\n")
fixed_line e.LongCode = Some (codes "code file too long\n")
fixed_line e.LongFile = Some (codes "code file too long\n")
fixed_line _ = None

-- the line of a call that has no output
abbrev pub line_of : Ending → List ℕ
line_of (e.Refused r) = refusal_text r
line_of (e.BadJournal n) = codes "bad journal " ++ decimal n ++ codes "\n"
line_of (e.Unfit n) = codes "journal unfit " ++ decimal n ++ codes "\n"
line_of (e.BadCode n) = codes "bad code " ++ decimal n ++ codes "\n"
line_of (e.Rejected v i) = codes "rejected V" ++ decimal (number (rule_of v)) ++ codes " " ++ decimal i ++ codes "\n"
line_of x = unwrap_or (fixed_line x) []

-- an answer by its parts
abbrev pub answer_of : Ending → Option Ran → Option Closed → Option (List ℕ) → List ℕ → Answer
answer_of x ran run output notes = record { ending = x; ran = ran; executed = run; output = output; notes = notes }

-- the notes: those of the run, of the refusal, of the journal or of the code, or a line that is the same for every text
abbrev pub notes_by : Ending → List ℕ → List ℕ
notes_by x notes = unwrap_or (fixed_line x) notes

abbrev pub notes_of : Answer → List ℕ
notes_of a = notes_by a.ending a.notes

-- the text that stands for the output, or else what the run of the program wrote, or that of a code file
abbrev pub output_by : Option (List ℕ) → Option Ran → Option Closed → List ℕ
output_by (Some text) ran executed = text
output_by None (Some r) executed = r.closed.output
output_by None None (Some x) = x.output
output_by None None None = []

abbrev pub output_of : Answer → List ℕ
output_of a = output_by a.output a.ran a.executed
