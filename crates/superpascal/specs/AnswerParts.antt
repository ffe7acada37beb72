-- None of this belongs to what the program promises: it is for contracts between crates.
-- What the answers of a call are made of. The contracts of `answers`, `notes` and `runs` promise it.
use Rattle.std.specs.Option.{option_map_or}
use Rattle.std.specs.Prelude.{◌≡◌, ◌⊎◌, List, [], ℕ, Option, Some, None, codes}
use Rattle.sp_base.specs.declared.halt.Halt.{Halt}
use Rattle.sp_base.specs.declared.halt.Halt.TheVariants as halt
use Rattle.sp_code.specs.declared.code.Parts.{Parts}
use Rattle.sp_execute.specs.declared.execution.Ran.{Ran}
use Rattle.sp_generate.specs.GeneratorAnswers.{IsCodeOf}
use Rattle.sp_journal.specs.declared.outcome.End.{End}
use Rattle.sp_journal.specs.Births.{IsNameable}
use Rattle.sp_print.specs.OutcomeLines.{HasLines, end_text}
use Rattle.sp_replay.specs.declared.replayer.ReplayError.{ReplayError}
use Rattle.sp_replay.specs.declared.replayer.ReplayError.TheVariants as error
use Rattle.sp_tree.specs.Bare.{without_places}
use Rattle.sp_tree.specs.PlainChecked as c
use Rattle.superpascal.specs.declared.ending.Ending.{Ending}
use Rattle.superpascal.specs.declared.ending.Ending.TheVariants as e
use Rattle.superpascal.specs.declared.ending.Answer.{Answer}
use Rattle.superpascal.specs.Answers.{line_of}
use Rattle.superpascal.specs.Causes.{answer_without_output}
use Rattle.superpascal.specs.Runs.{HasTree}

-- the line of an ending, where it is not the same for every text; else nothing
abbrev pub own_line : Ending → List ℕ
own_line (e.Refused r) = line_of (e.Refused r)
own_line (e.BadJournal n) = line_of (e.BadJournal n)
own_line (e.Unfit n) = line_of (e.Unfit n)
own_line (e.BadCode n) = line_of (e.BadCode n)
own_line (e.Rejected v i) = line_of (e.Rejected v i)
own_line _ = []

-- the answer to what ends so without an output
abbrev pub ending_answer : Ending → Answer
ending_answer x = record { ending = x; ran = None; executed = None; output = None; notes = own_line x }

-- how a text of which nothing is made ends its command
abbrev pub ending_of_halt : Halt → Ending
ending_of_halt (halt.Refused r) = e.Refused r
ending_of_halt halt.Memory = e.OutOfMemory

-- how a journal that is not followed ends its command
abbrev pub ending_of_error : ReplayError → Ending
ending_of_error (error.Unfit n) = e.Unfit n
ending_of_error error.Memory = e.OutOfMemory

-- this answer, or want of memory
abbrev pub AnswersEnding : Ending → Answer → Type 0
AnswersEnding x a = (a ≡ ending_answer x) ⊎ (a ≡ answer_without_output e.OutOfMemory)

-- the text has this tree, which breaks no rule, and this is its code
pub record HasCode (text : List ℕ) (tree : c.Program) (parts : Parts) : Type 0 where
  pub has : HasTree text tree
  pub code : IsCodeOf (without_places tree) parts

-- the run can be told: its journal gives names, and it did not end by want of memory
abbrev pub IsTellable : Ran → Type 0
IsTellable r = IsNameable r.closed.journal × HasLines r.closed.end

-- the end, if there is one, has lines
abbrev pub HasEndLines : Option End → Type 0
HasEndLines None = Unit {0}
HasEndLines (Some x) = HasLines x

-- the lines of the end, or that there is none
abbrev pub lines_of_replay : Option End → List ℕ
lines_of_replay end = option_map_or end_text end (codes "no end\n")
