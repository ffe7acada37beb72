-- What holds of commands, of input and of the ends of runs, form by form.
use Rattle.std.proofs.Common.{◌≡◌, inl, inr, ℕ, ◌<◌, ◌≤◌, List, length, Option, Some, None, true, refl, ap, arith}
use Rattle.sp_execute.specs.declared.execution.Ran.{Ran}
use Rattle.sp_journal.specs.declared.outcome.End.{End}
use Rattle.sp_journal.specs.declared.outcome.End.TheVariants as ends
use Rattle.sp_print.specs.OutcomeLines.{HasLines}
use Rattle.sp_words.specs.declared.command.Command.{Command}
use Rattle.sp_words.specs.declared.command.Command.TheVariants as command
use Rattle.sp_words.specs.declared.requests.Telling.{Telling}
use Rattle.sp_words.specs.declared.requests.Telling.TheVariants as told
use Rattle.superpascal.specs.Answers.{has_output, notes_by, output_of, status_of}
use Rattle.superpascal.specs.Calls.{IsFinal}
use Rattle.superpascal.specs.Causes.{IsTooLong}
use Rattle.superpascal.specs.Runs.{Reports, ending_of, run_answer, told_output}
use Rattle.superpascal.specs.Texts.{HasLongCode, AcceptedFor, IsAcceptedText, Makes, asks_build, asks_run, asks_text}
use Rattle.superpascal.proofs.Laws.{Laws}

pub no_command : (o : Option Command) (c : Command) → o ≡ Some c → o ≡ None → ⊥
no_command o c h k = cc

pub one_command : (o : Option Command) (c d : Command) → o ≡ Some c → o ≡ Some d → d ≡ c
one_command o c d h k = cc

pub one_size : (m n x y : ℕ) → command.Gen m x ≡ command.Gen n y → m ≡ n
one_size m n x y h = cc

-- input that was read is not too long
pub not_too_long : (x y : List ℕ) → x ≡ y → length x ≤ 16777216 → IsTooLong y → ⊥
not_too_long x y e h k = let i : length x ≡ length y = ap length e in omega arith

-- the ending of a run
pub final : (x : End) → HasLines x → IsFinal (status_of (ending_of x)) × (has_output (ending_of x) ≡ true)
final ends.Done h = (inl refl, refl)
final (ends.Deadlock ws) h = (inr (inr refl), refl)
final (ends.Fault n y) h = (inr (inl refl), refl)
final ends.Memory h = absurd h

-- the notes of a run stand as they are
pub run_notes_stand : (x : End) (notes : List ℕ) → HasLines x → notes_by (ending_of x) notes ≡ notes
run_notes_stand ends.Done notes h = refl
run_notes_stand (ends.Deadlock ws) notes h = refl
run_notes_stand (ends.Fault n y) notes h = refl
run_notes_stand ends.Memory notes h = absurd h

-- the output is that of the run, or the text that stands for it
pub output_stands : (reports : Reports) (t : Telling) (r : Ran) → output_of (run_answer reports t r) ≡ told_output t r
output_stands reports (told.Reports show) r = refl
output_stands reports told.Witness r = refl

-- a command that answers from a text alone runs nothing
pub text_or_run : (d : Command) → asks_text d → asks_run d → ⊥
text_or_run (command.Run asked) q r = q
text_or_run (command.Gen size workers) q r = q
text_or_run _ _ r = r

-- a command that writes a code file answers from a text alone
pub build_text : (d : Command) → asks_build d → asks_text d
build_text (command.Run asked) q = q
build_text (command.Gen size workers) q = q
build_text (command.Replay asked) q = q
build_text (command.Exec asked) q = q
build_text _ _ = tt

-- what it refuses, and of what it makes something
pub build_keeps : (d : Command) (text : List ℕ) → asks_build d → IsAcceptedText text → AcceptedFor d text
build_keeps (command.Sets file) text q k = absurd q
build_keeps (command.Format file) text q k = absurd q
build_keeps (command.Exec asked) text q k = absurd q
build_keeps _ _ _ k = k

-- a code file is not too long
pub build_short : (l : Laws) (d : Command) (text out line : List ℕ) → asks_build d → Makes d text out line
    → HasLongCode text → ⊥
build_short l (command.Build file) text out line q ((is_text, short), _) (other, has, long) = apart out other
    (l.code_text text out other is_text has) short long
  where
    apart : (a b : List ℕ) → a ≡ b → length a ≤ 67108864 → 67108864 < length b → ⊥
    apart a b e h k = let i : length a ≡ length b = ap length e in omega arith
build_short _ _ _ _ _ q _ _ = q
