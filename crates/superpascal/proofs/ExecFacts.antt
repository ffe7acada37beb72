-- What follows of `exec` from the answer of a call, its cause and its writing: from these to the clauses on code files.
use Rattle.std.proofs.Common.{◌≡◌, ◌⊎◌, inl, inr, ℕ, ◌<◌, ◌≤◌, List, length, Option, Some, None, refl, sym, ◌∙◌, ap}
use Rattle.std.proofs.Common.{subst, arith}
use Rattle.std.specs.Prelude.{◌++◌, IfSome, codes, decimal}
use Rattle.sp_code.specs.declared.code.Parts.{Parts}
use Rattle.sp_codefile.specs.CodeText.{IsFirstBad, IsText, IsTextOf}
use Rattle.sp_codefile.specs.VerifyAnswers.{rule_of}
use Rattle.sp_codefile.specs.declared.verifier.VRule.{VRule}
use Rattle.sp_kernel.specs.declared.closed.Closed.{Closed}
use Rattle.sp_print.specs.OutcomeLines.{HasLines, end_text}
use Rattle.sp_verify_rules.specs.Verdict.{IsRejected, number}
use Rattle.sp_words.specs.Words.{command_of}
use Rattle.sp_words.specs.declared.command.Command.{Command}
use Rattle.sp_words.specs.declared.command.Command.TheVariants as command
use Rattle.sp_words.specs.declared.requests.ExecRequest.{ExecRequest}
use Rattle.sp_words.specs.declared.requests.ReplayRequest.{ReplayRequest}
use Rattle.superpascal.specs.declared.ending.Ending.{Ending}
use Rattle.superpascal.specs.declared.ending.Ending.TheVariants as e
use Rattle.superpascal.specs.declared.ending.Answer.{Answer}
use Rattle.superpascal.specs.Answers.{line_of, notes_of, output_of, status_of}
use Rattle.superpascal.specs.Calls.{WroteAll, Call, IsAnswered, IsFinal, IsOutside, WrotePart, SaysEnding}
use Rattle.superpascal.specs.Causes.{Files, HasExecuted, IsBadCode, IsLongFile, IsRefusedFor, IsRejectedCode, IsKnownAs}
use Rattle.superpascal.specs.Causes.{IsTooLong, Stream}
use Rattle.superpascal.specs.ExecPromise.{Executing, IsExecutionOfWords, IsFaultyFile}
use Rattle.superpascal.specs.Executions.{IsExecutionOf, execution_answer}
use Rattle.superpascal.specs.Runs.{Reports, ending_of}
use Rattle.superpascal.specs.Texts.{IsSoundFile, Makes, asks_build}
use Rattle.superpascal.specs.WrittenParts.{AreWritten}
use Rattle.superpascal.proofs.RunCommands.{not_exec}
use Rattle.superpascal.proofs.Forms.{final, no_command, not_too_long, one_command, run_notes_stand}
use Rattle.superpascal.proofs.CallFacts.{due_why, ending, final_or, outside, outside_says, says, undisplaced}
use Rattle.superpascal.proofs.CodeFiles.{not_bad, not_long, not_rejected, one_place, one_rule}
use Rattle.superpascal.proofs.Laws.{Laws}
use Rattle.superpascal.proofs.Parts.{when_told}
use Rattle.superpascal.proofs.ReplayFacts.{if_told, told_of}
use Rattle.superpascal.proofs.Tellable.{execution_ends}
use Rattle.superpascal.proofs.Why.{HasEnded, HasExecutedFor, HasRanFor, HasReplayedFor, executed_of, same_file, why}

-- ---- words

one_executed : (a b : ExecRequest) → command.Exec b ≡ command.Exec a → b ≡ a
one_executed a b h = cc

not_generated : (b : ExecRequest) (size workers : ℕ) → command.Exec b ≡ command.Gen size workers → ⊥
not_generated b size workers h = cc

not_followed : (b : ExecRequest) (x : ReplayRequest) → command.Exec b ≡ command.Replay x → ⊥
not_followed b x h = cc

-- ---- from the ending

-- what comes of a code file
data ExecutionCause (f : Files) (s : Stream) (b : ExecRequest) (a : Answer) (x : Ending) : Type 0 where
  came_run : HasExecuted f s b a → ExecutionCause f s b a x
  came_long : IsLongFile f b a → ExecutionCause f s b a x
  came_bad : (n : ℕ) → IsBadCode f b n a → ExecutionCause f s b a x
  came_rejected : (v : VRule) (i : ℕ) → IsRejectedCode f b v i a → ExecutionCause f s b a x
  came_refused : status_of x ≡ 1 → IsRefusedFor f (command.Exec b) a → ExecutionCause f s b a x
  came_outside : IsOutside (status_of x) → ExecutionCause f s b a x

module _ (f : Files) (s : Stream) (reports : Reports) (w : Option Command) (a : Answer) (b : ExecRequest)
    (v : w ≡ Some (command.Exec b)) where
  abbrev Why : Ending → Type 0
  Why = why f s reports w a

  -- what holds of the execution that the words ask for holds of this one
  this : (P : ExecRequest → Type 0) (x : ExecRequest) → w ≡ Some (command.Exec x) → P x → P b
  this P x u h = subst P (one_executed b x (one_command w (command.Exec b) (command.Exec x) v u)) h

  not_ran : HasRanFor f s reports w a → ⊥
  not_ran (c, u, inl (asked, p, h)) = not_exec asked b (sym p ∙ one_command w (command.Exec b) c v u)
  not_ran (c, u, inr (size, workers, p, h)) =
      not_generated b size workers (sym (one_command w (command.Exec b) c v u) ∙ p)

  not_replayed : HasReplayedFor f s reports w a → ⊥
  not_replayed (x, u, h) = not_followed b x (sym (one_command w (command.Exec b) (command.Replay x) v u))

  follows_not : (x : ReplayRequest) → w ≡ Some (command.Replay x) → ⊥
  follows_not x u = not_followed b x (sym (one_command w (command.Exec b) (command.Replay x) v u))

  ran_here : HasExecutedFor f s reports w a → HasExecuted f s b a
  ran_here (x, u, h) = this (λ y. HasExecuted f s y a) x u h

  ended_here : HasEnded f s reports w a → HasExecuted f s b a
  ended_here (inl k) = absurd (not_ran k)
  ended_here (inr (inl k)) = absurd (not_replayed k)
  ended_here (inr (inr k)) = ran_here k

  came : (x : Ending) → Why x → ExecutionCause f s b a x
  came e.Done k = came_run (ended_here k)
  came e.Deadlock k = came_run (ended_here k)
  came e.Fault k = came_run (ended_here k)
  came e.Accepted (c, u, h) = absurd
      (subst (λ (y : Command). Makes y h.text h.output h.line) (one_command w (command.Exec b) c v u) h.makes)
  came (e.Refused r) (c, u, h) = came_refused refl
      (subst (λ (y : Command). IsRefusedFor f y a) (one_command w (command.Exec b) c v u) h)
  came e.BadWords k = absurd (no_command w (command.Exec b) v k)
  came e.ReadFault k = came_outside (omega arith, omega arith)
  came e.TooLong k = came_outside (omega arith, omega arith)
  came e.OutOfMemory k = came_outside (omega arith, omega arith)
  came e.LongCode (c, u, h) =
      absurd (subst (λ (y : Command). asks_build y) (one_command w (command.Exec b) c v u) h.builds)
  came e.LongFile (x, u, h) = came_long (this (λ y. IsLongFile f y a) x u h)
  came (e.BadCode n) (x, u, h) = came_bad n (this (λ y. IsBadCode f y n a) x u h)
  came (e.Rejected r n) (x, u, h) = came_rejected r n (this (λ y. IsRejectedCode f y r n a) x u h)
  came _ k = absurd (follows_not k.0 k.1)

  -- a final status comes where the file has run
  ran_only : (x : Ending) → Why x → IsFinal (status_of x) → HasExecuted f s b a
  ran_only e.Done k i = ended_here k
  ran_only e.Deadlock k i = ended_here k
  ran_only e.Fault k i = ended_here k
  ran_only e.NoEnd k i = absurd (follows_not k.0 k.1)
  ran_only e.Accepted (c, u, h) i = absurd
      (subst (λ (y : Command). Makes y h.text h.output h.line) (one_command w (command.Exec b) c v u) h.makes)
  ran_only _ k (inl i) = absurd (omega arith)
  ran_only _ k (inr (inl i)) = absurd (omega arith)
  ran_only _ k (inr (inr i)) = absurd (omega arith)

  -- what is wrong with a file, where status 10 comes
  faulty : (x : Ending) → Why x → status_of x ≡ 10 → IfSome (f.held b.file) IsFaultyFile
  faulty e.LongFile (x, u, h) i = let m = this (λ y. IsLongFile f y a) x u h in mapped (f.held b.file) m.long
    where
      mapped : (o : Option (List ℕ)) → IfSome o (λ bytes. 67108864 < length bytes) → IfSome o IsFaultyFile
      mapped None h = tt
      mapped (Some bytes) h = inl h
  faulty (e.BadCode n) (x, u, h) i =
      let m = this (λ y. IsBadCode f y n a) x u h in when_told IsFaultyFile (f.held b.file) m.bytes m.loaded
      (inr (inl (n, m.bad)))
  faulty (e.Rejected r n) (x, u, h) i =
      let m = this (λ y. IsRejectedCode f y r n a) x u h in
      when_told IsFaultyFile (f.held b.file) m.bytes m.loaded (inr (inr (m.code, r, n, m.text, m.rejected)))
  faulty e.LongCode (c, u, h) i = absurd
      (subst (λ (y : Command). asks_build y) (one_command w (command.Exec b) c v u) h.builds)
  faulty _ k i = absurd (omega arith)

-- ---- of a call

module _ (c : Call) (k : IsAnswered c) (l : Laws) where
  abbrev is_status : ℕ
  is_status = c.outcome.status

  -- the run that is given back
  module _ (r : Closed) (h : c.outcome.executed ≡ Some r) where
    given : k.answer.executed ≡ Some r
    given = sym k.executed ∙ h

    has_executed : HasExecutedFor c.files c.source c.reports (command_of c.words) k.answer
    has_executed = executed_of c.files c.source c.reports (command_of c.words) k.answer r k.cause given

    same_run : (x : Closed) → k.answer ≡ execution_answer x → x ≡ r
    same_run x i = same_file k.answer (execution_answer x) x r i refl given

    ends : has_executed.2.run ≡ r
    ends = same_run has_executed.2.run has_executed.2.answer

    is_answer : k.answer ≡ execution_answer r
    is_answer = has_executed.2.answer ∙ ap execution_answer ends

    has_lines : HasLines r.end
    has_lines = subst (λ (x : Closed). HasLines x.end) ends
        (execution_ends _ _ _ has_executed.2.run has_executed.2.is_execution)

    run_ending : ending c k l ≡ ending_of r.end
    run_ending = ap (λ (z : Answer). z.ending) is_answer

    run_status : (is_status ≡ status_of (ending_of r.end)) ⊎ (is_status ≡ 6)
    run_status = go k.written.status_is
      where
        go : (is_status ≡ status_of (ending c k l)) ⊎ (is_status ≡ 6) → (is_status ≡ status_of (ending_of r.end))
            ⊎ (is_status ≡ 6)
        go (inl i) = inl (i ∙ ap status_of run_ending)
        go (inr i) = inr i

    run_of_words : IsExecutionOfWords c r
    run_of_words =
        let m = has_executed.2 in (
          has_executed.0,
          has_executed.1,
          m.at_end,
          m.bytes,
          m.input,
          m.loaded,
          m.read,
          subst
              (IsExecutionOf m.bytes m.input has_executed.0.limits) ends m.is_execution,
        )

    run_written : AreWritten c r.output (end_text r.end)
    run_written =
        let out = ap output_of is_answer in
        let notes : notes_of k.answer ≡ end_text r.end = ap notes_of is_answer
        ∙ run_notes_stand r.end (end_text r.end) has_lines in
        record {
          whole = λ n. (
            subst (WroteAll c.output) out (k.written.all_written n).0,
            subst (WroteAll c.notes) notes
                (k.written.all_written n).1,
          );
          part_of_output = subst (WrotePart c.output) out k.written.part_of_output;
          part_of_notes = subst (WrotePart c.notes) notes k.written.part_of_notes;
        }

    -- of the file and the input that are told
    module _ (b : ExecRequest) (bytes input : List ℕ) (v : command_of c.words ≡ Some (command.Exec b))
        (t : c.files.held b.file ≡ Some bytes) (left : c.source.left ≡ Some input) where
      run_machine : IsExecutionOf bytes input b.limits r
      run_machine =
          let m = ran_here c.files c.source c.reports (command_of c.words) k.answer b v has_executed in
          let same : m.run ≡ r = same_run m.run m.answer in
          let this_file : m.bytes ≡ bytes = told_of (c.files.held b.file) m.bytes bytes t m.loaded in
          let this_input : m.input ≡ input = told_of c.source.left m.input input left m.read in
          subst (IsExecutionOf bytes input b.limits) same
          (subst (λ (y : List ℕ). IsExecutionOf bytes y b.limits m.run) this_input
          (subst (λ (y : List ℕ). IsExecutionOf y m.input b.limits m.run) this_file m.is_execution))

  -- the answer that was due, whatever displaced its status
  due_run : (b : ExecRequest) → command_of c.words ≡ Some (command.Exec b) → (a : IsAnswered c)
      → IsFinal (status_of a.answer.ending) → (r : Closed) × (c.outcome.executed ≡ Some r)
  due_run b v a i =
      let m = ran_only c.files c.source c.reports (command_of c.words) a.answer b v a.answer.ending (due_why c a l) i in
      (m.run, a.executed ∙ ap (λ (z : Answer). z.executed) m.answer)

  -- ---- what is said of a file

  module _ (b : ExecRequest) (bytes : List ℕ) (v : command_of c.words ≡ Some (command.Exec b))
      (t : c.files.held b.file ≡ Some bytes) where
    abbrev Came_here : Type 0
    Came_here = ExecutionCause c.files c.source b k.answer (ending c k l)

    came_here : Came_here
    came_here = came c.files c.source c.reports (command_of c.words) k.answer b v (ending c k l) (due_why c k l)

    not_refused : IsRefusedFor c.files (command.Exec b) k.answer → ⊥
    not_refused h = if_told (λ x. ⊥) (c.files.held b.file) bytes t h.breaks

    this_file : (x : List ℕ) → IsKnownAs (c.files.held b.file) x → x ≡ bytes
    this_file x h = told_of (c.files.held b.file) x bytes t h

    too_short : length bytes ≤ 67108864 → 67108864 < length bytes → ⊥
    too_short x y = omega arith

    is_long : IsLongFile c.files b k.answer → 67108864 < length bytes
    is_long h = if_told (λ x. 67108864 < length x) (c.files.held b.file) bytes t h.long

    is_bad : (n : ℕ) → IsBadCode c.files b n k.answer → IsFirstBad n bytes
    is_bad n h = subst (IsFirstBad n) (this_file h.bytes h.loaded) h.bad

    is_text : (n : VRule) (i : ℕ) (h : IsRejectedCode c.files b n i k.answer) → IsTextOf h.code bytes
    is_text n i h = subst (IsTextOf h.code) (this_file h.bytes h.loaded) h.text

    is_sound : HasExecuted c.files c.source b k.answer → IsSoundFile bytes
    is_sound h = subst IsSoundFile (this_file h.bytes h.loaded) (h.is_execution.code, h.is_execution.file)

    says_long : 67108864 < length bytes → SaysEnding c e.LongFile
    says_long long = go came_here
      where
        go : Came_here → SaysEnding c e.LongFile
        go (came_run h) = absurd (not_long bytes (is_sound h) long)
        go (came_long h) = says c k l e.LongFile (ap notes_of h.answer) (ap (λ (z : Answer). z.ending) h.answer)
        go (came_bad n h) = absurd (too_short
            (subst (λ (x : List ℕ). length x ≤ 67108864) (this_file h.bytes h.loaded) h.short) long)
        go (came_rejected r n h) = absurd
            (too_short (subst (λ (x : List ℕ). length x ≤ 67108864) (this_file h.bytes h.loaded) h.short) long)
        go (came_refused i h) = absurd (not_refused h)
        go (came_outside o) = outside_says c k l e.LongFile o

    says_bad : length bytes ≤ 67108864 → (IsText bytes → ⊥)
        → ((n : ℕ) × IsFirstBad n bytes × SaysEnding c (e.BadCode n))
        ⊎ IsOutside is_status
    says_bad short none = go came_here
      where
        go : Came_here → ((n : ℕ) × IsFirstBad n bytes × SaysEnding c (e.BadCode n)) ⊎ IsOutside is_status
        go (came_run h) = let x = is_sound h in absurd (none (x.0, x.1.text))
        go (came_long h) = absurd (too_short short (is_long h))
        go (came_bad n h) = inl (
          n,
          is_bad n h,
          says c k l (e.BadCode n) (ap notes_of h.answer)
              (ap (λ (z : Answer). z.ending) h.answer),
        )
        go (came_rejected r n h) = absurd (none (h.code, is_text r n h))
        go (came_refused i h) = absurd (not_refused h)
        go (came_outside o) = inr (outside c k l o)

    says_rejected : length bytes ≤ 67108864 → (code : Parts) → IsTextOf code bytes → (r : VRule) (i : ℕ)
        → IsRejected code (rule_of r) i → SaysEnding c (e.Rejected r i)
    says_rejected short code text r i rejected = go came_here
      where
        same_line : (x : VRule) (j : ℕ) (h : IsRejectedCode c.files b x j k.answer)
            → line_of (e.Rejected x j) ≡ line_of (e.Rejected r i)
        same_line x j h =
            let here : IsRejected code (rule_of x) j = subst (λ (y : Parts). IsRejected y (rule_of x) j)
            (l.code h.code code bytes (is_text x j h) text) h.rejected in
            lines x r j i (ap number (one_rule code (rule_of x) (rule_of r) j i here rejected))
            (one_place code (rule_of x) (rule_of r) j i here rejected)
          where
            line : ℕ → ℕ → List ℕ
            line n m = codes "rejected V" ++ decimal n ++ codes " " ++ decimal m ++ codes "\n"

            lines : (x y : VRule) (j i : ℕ) → number (rule_of x) ≡ number (rule_of y) → j ≡ i
                → line_of (e.Rejected x j) ≡ line_of (e.Rejected y i)
            lines x y j i h m = ap (λ (n : ℕ). line n j) h ∙ ap (line (number (rule_of y))) m

        said : (x : VRule) (j : ℕ) → IsRejectedCode c.files b x j k.answer → SaysEnding c (e.Rejected x j)
            → SaysEnding c (e.Rejected r i)
        said x j h (inl m) = inl (m.0, subst (WroteAll c.notes) (same_line x j h) m.1)
        said x j h (inr m) = inr m

        go : Came_here → SaysEnding c (e.Rejected r i)
        go (came_run h) = absurd (not_rejected l code bytes (is_sound h) text (rule_of r) i rejected)
        go (came_long h) = absurd (too_short short (is_long h))
        go (came_bad n h) = absurd ((is_bad n h).whole (code, text))
        go (came_rejected x j h) = said x j h
            (says c k l (e.Rejected x j) (ap notes_of h.answer) (ap (λ (z : Answer). z.ending) h.answer))
        go (came_refused m h) = absurd (not_refused h)
        go (came_outside o) = outside_says c k l (e.Rejected r i) o

    never_refused : is_status ≡ 1 → ⊥
    never_refused n = go came_here
      where
        one : status_of (ending c k l) ≡ 1
        one = undisplaced c k l 1 (λ p. absurd (omega arith)) n

        ended : (h : HasExecuted c.files c.source b k.answer) → status_of (ending c k l) ≡ 1 → ⊥
        ended h i = go (final h.run.end (execution_ends _ _ _ h.run h.is_execution)).0
            (sym (ap (λ (z : Answer). status_of z.ending) h.answer) ∙ i)
          where
            go : IsFinal (status_of (ending_of h.run.end)) → status_of (ending_of h.run.end) ≡ 1 → ⊥
            go (inl m) i = omega arith
            go (inr (inl m)) i = omega arith
            go (inr (inr m)) i = omega arith

        ten : (x : Ending) → status_of x ≡ 10 → k.answer.ending ≡ x → status_of (ending c k l) ≡ 1 → ⊥
        ten x m i j = apart (status_of x) m (sym (ap status_of i) ∙ j)
          where
            apart : (n : ℕ) → n ≡ 10 → n ≡ 1 → ⊥
            apart n h i = omega arith

        go : Came_here → ⊥
        go (came_run h) = ended h one
        go (came_long h) = ten e.LongFile refl (ap (λ (z : Answer). z.ending) h.answer) one
        go (came_bad m h) = ten (e.BadCode m) refl (ap (λ (z : Answer). z.ending) h.answer) one
        go (came_rejected r m h) = ten (e.Rejected r m) refl (ap (λ (z : Answer). z.ending) h.answer) one
        go (came_refused m h) = not_refused h
        go (came_outside o) = apart o one
          where
            apart : IsOutside (status_of (ending c k l)) → status_of (ending c k l) ≡ 1 → ⊥
            apart o i = omega (arith, o.0, i)

    -- of the input that is told
    module _ (input : List ℕ) (left : c.source.left ≡ Some input) (sound : IsSoundFile bytes) where
      runs_well : length input ≤ 16777216 → IsFinal is_status ⊎ IsOutside is_status
      runs_well fits = go came_here
        where
          go : Came_here → IsFinal is_status ⊎ IsOutside is_status
          go (came_run h) =
              final_or c k l (subst IsFinal (sym (ap (λ (z : Answer). status_of z.ending) h.answer))
              (final h.run.end (execution_ends _ _ _ h.run h.is_execution)).0)
          go (came_long h) = absurd (not_long bytes sound (is_long h))
          go (came_bad n h) = absurd (not_bad bytes n sound (is_bad n h))
          go (came_rejected r n h) = absurd (not_rejected l h.code bytes sound (is_text r n h) (rule_of r) n h.rejected)
          go (came_refused i h) = absurd (not_refused h)
          go (came_outside o) = inr (outside c k l o)

      long_input : IsTooLong input → IsOutside is_status
      long_input long = go came_here
        where
          go : Came_here → IsOutside is_status
          go (came_run h) = absurd
              (not_too_long h.input input (told_of c.source.left h.input input left h.read) h.fits long)
          go (came_long h) = absurd (not_long bytes sound (is_long h))
          go (came_bad n h) = absurd (not_bad bytes n sound (is_bad n h))
          go (came_rejected r n h) = absurd (not_rejected l h.code bytes sound (is_text r n h) (rule_of r) n h.rejected)
          go (came_refused i h) = absurd (not_refused h)
          go (came_outside o) = outside c k l o

  -- want of memory gives no run back
  no_run : is_status ≡ 8 → c.outcome.executed ≡ None
  no_run h = k.executed ∙ none (ending c k l) (due_why c k l) (undisplaced c k l 8 (λ p. absurd (omega arith)) h)
    where
      none : (x : Ending) → why c.files c.source c.reports (command_of c.words) k.answer x → status_of x ≡ 8
          → k.answer.executed ≡ None
      none e.OutOfMemory m i = ap (λ (z : Answer). z.executed) m
      none _ m i = absurd (omega arith)

  pub executing : Executing c
  executing = record {
    given = due_run;
    runs = run_of_words;
    due = λ r h a.
        let i : status_of a.answer.ending ≡ status_of (ending_of r.end) = answer_status a r h in
        (i, subst IsFinal (sym i) (final r.end (has_lines r h)).0);
    by_end = run_status;
    machine = λ b bytes v t input left r h. run_machine r h b bytes input v t left;
    written = run_written;
    accepted = λ b bytes v t input left sound fits. runs_well b bytes v t input left sound fits;
    rejected = λ b bytes v t short code text r i m. says_rejected b bytes v t short code text r i m;
    bad = λ b bytes v t short none. says_bad b bytes v t short none;
    long = λ b bytes v t long. says_long b bytes v t long;
    only = λ b v h. faulty c.files c.source c.reports (command_of c.words) k.answer b v (ending c k l) (due_why c k l)
        (undisplaced c k l 10 (λ p. absurd (omega arith)) h);
    no_refusal = λ b bytes v t h. never_refused b bytes v t h;
    long_input = λ b bytes v t input left sound long. long_input b bytes v t input left sound long;
    memory = no_run;
  }
    where
      -- of any answer that was due
      answer_status : (a : IsAnswered c) (r : Closed) → c.outcome.executed ≡ Some r
          → status_of a.answer.ending ≡ status_of (ending_of r.end)
      answer_status a r h =
          let given : a.answer.executed ≡ Some r = sym a.executed ∙ h in
          let m = executed_of c.files c.source c.reports (command_of c.words) a.answer r a.cause given in
          let same : m.2.run ≡ r = same_file a.answer (execution_answer m.2.run) m.2.run r m.2.answer refl given in
          ap (λ (z : Answer). status_of z.ending) m.2.answer ∙ ap (λ (z : Closed). status_of (ending_of z.end)) same
