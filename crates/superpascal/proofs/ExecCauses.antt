-- From what the steps of the run of a code file give to the cause of its answer.
use Rattle.std.proofs.Common.{◌≡◌, inl, inr, ◌≤◌, List, ℕ, length, Result, Ok, Err, refl, sym, ap, subst}
use Rattle.sp_code.specs.declared.code.Parts.{Parts}
use Rattle.sp_codefile.specs.CodeText.{IsTextOf}
use Rattle.sp_kernel.specs.declared.closed.Closed.{Closed}
use Rattle.sp_words.specs.declared.requests.ExecRequest.{ExecRequest}
use Rattle.sp_words.specs.declared.command.Command.TheVariants as command
use Rattle.superpascal.specs.declared.ending.Answer.{Answer}
use Rattle.superpascal.specs.declared.ending.Ending.{Ending}
use Rattle.superpascal.specs.declared.ending.Ending.TheVariants as e
use Rattle.superpascal.specs.AnswerParts.{ending_answer}
use Rattle.superpascal.specs.Causes.{by_code_line, by_execution, by_length, by_library, by_long_file, by_memory}
use Rattle.superpascal.specs.Causes.{by_rejection, by_source, Files, IsKnownAs, IsUntouched, Stream}
use Rattle.superpascal.specs.Executions.{IsExecutionOf}
use Rattle.superpascal.specs.Runs.{Reports}
use Rattle.superpascal.specs.Steps.{AnswersCommand, CommandCause, DecodesTo, GivesFile, GivesInput, HasInput}
use Rattle.superpascal.specs.Steps.{TellsExecution}
use Rattle.superpascal.specs.Steps.{VerifiesTo}
use Rattle.superpascal.specs.Texts.{CanRead, IsFileOf, IsSoundFile}
use Rattle.superpascal.proofs.Parts.{when_told}

-- ---- the code of a file

module _ (f : Files) (name bytes : List ℕ) (t : IsKnownAs (f.held name) bytes) (short : length bytes ≤ 67108864) where
  -- the bytes are the text of no code
  pub not_decoded : (x : Ending) → DecodesTo bytes (Err x) → GivesFile f name (Err x)
  not_decoded x (inl (n, h, bad)) = inr (bytes, t, short, inl (n, h, bad))
  not_decoded x (inr h) = inl (inr (inr h))

  pub given_file : (code : Parts) → IsTextOf code bytes → (r : Result Parts Ending) → VerifiesTo code r
      → GivesFile f name r
  given_file code text (Ok given) (same, verified) = (
    bytes,
    t,
    subst (λ (x : Parts). IsFileOf x bytes) (sym same) (record { text = text; short = short; verified = verified }),
  )
  given_file code text (Err x) (inl (v, i, h, rejected)) = inr
      (bytes, t, short, inr (code, v, i, h, text, rejected))
  given_file code text (Err x) (inr h) = inl (inr (inr h))

-- ---- its run

module _ (f : Files) (s : Stream) (reports : Reports) (b : ExecRequest) where
  abbrev Due_execution : Answer → Type 0
  Due_execution a = CommandCause f s reports (command.Exec b) a

  -- no code comes of the file
  pub execution_unready : IsUntouched s → (x : Ending) → GivesFile f b.file (Err x) → Due_execution (ending_answer x)
  execution_unready u x (inl (inl h)) =
      (by_long_file b refl (record { long = h.1; answer = ap ending_answer h.0 }), inl u)
  execution_unready u x (inl (inr (inl h))) = (
    by_library (record { name = b.file; loads = inl refl; rose = h.1; answer = ap ending_answer h.0 }),
    inl u,
  )
  execution_unready u x (inl (inr (inr h))) = (by_memory (ap ending_answer h), inl u)
  execution_unready u x (inr (bytes, t, short, inl (n, h, bad))) = (
    by_code_line b n refl (record { bytes = bytes; loaded = t; short = short; bad = bad; answer = ap ending_answer h }),
    inl u,
  )
  execution_unready u x (inr (bytes, t, short, inr (code, v, i, h, text, rejected))) = (
    by_rejection b v i refl (record {
      bytes = bytes;
      code = code;
      loaded = t;
      short = short;
      text = text;
      rejected = rejected;
      answer = ap ending_answer h;
    }),
    inl u,
  )

  module _ (bytes : List ℕ) (t : IsKnownAs (f.held b.file) bytes) (code : Parts) (file : IsFileOf code bytes) where
    may_read : CanRead f.held (command.Exec b)
    may_read = when_told IsSoundFile (f.held b.file) bytes t (code, file)

    -- memory was wanting for the run, or for what is told of it
    pub execution_wanting : (x : Ending) → x ≡ e.OutOfMemory → Due_execution (ending_answer x)
    execution_wanting x h = (by_memory (ap ending_answer h), inr may_read)

    -- the input is not read
    pub execution_unread : (x : Ending) → GivesInput s (Err x) → Due_execution (ending_answer x)
    execution_unread x (inl h) =
        (by_source (record { reads = may_read; rose = h.1; answer = ap ending_answer h.0 }), inr may_read)
    execution_unread x (inr (inl h)) =
        (by_length (record { reads = may_read; long = h.1; answer = ap ending_answer h.0 }), inr may_read)
    execution_unread x (inr (inr h)) = execution_wanting x h

    pub execution_told : (input : List ℕ) → HasInput s input → (run : Closed)
        → IsExecutionOf bytes input b.limits run → (r : Result Answer Ending) → TellsExecution run r
        → AnswersCommand f s reports (command.Exec b) r
    execution_told input i run is (Ok a) k = (
      by_execution b refl (record {
        bytes = bytes;
        input = input;
        run = run;
        loaded = t;
        read = i.read;
        fits = i.fits;
        at_end = i.at_end;
        is_execution = is;
        answer = k;
      }),
      inr may_read,
    )
    execution_told input i run is (Err x) k = execution_wanting x k
