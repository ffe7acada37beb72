-- What follows from the answer of a call, its cause and its writing: from these to the clauses of the contract.
use Rattle.std.proofs.Common.{◌≡◌, ◌≢◌, ◌⊎◌, inl, inr, ℕ, ◌<◌, ◌≤◌, List, [], length, Option, Some, None, false, refl}
use Rattle.std.proofs.Common.{sym, ◌∙◌, ap, subst, arith}
use Rattle.std.proofs.lemmas.Bool.{true≢false}
use Rattle.sp_base.specs.declared.halt.Refusal.{Refusal}
use Rattle.sp_execute.specs.declared.execution.Ran.{Ran}
use Rattle.sp_execute.specs.Follows.{IsMeant as IsDefined, IsUnfitAt}
use Rattle.sp_execute.specs.Runs.{run_input}
use Rattle.sp_front.specs.Checks.{IsProgramOf}
use Rattle.sp_gen.specs.GeneratedText.{generated_text}
use Rattle.sp_journal.specs.declared.entry.Journal.{Journal}
use Rattle.sp_journal.specs.declared.outcome.End.{End}
use Rattle.sp_journal.specs.ReadAnswers.{IsText}
use Rattle.sp_journal.specs.Texts.{IsFirstBad}
use Rattle.sp_replay.specs.declared.replayer.Replayed.{Replayed}
use Rattle.sp_tree.specs.Bare.{without_places}
use Rattle.sp_tree.specs.Plain.{Program}
use Rattle.sp_words.specs.Ranges.{default_limits}
use Rattle.sp_words.specs.Words.{command_of}
use Rattle.sp_words.specs.declared.command.Command.{Command}
use Rattle.sp_words.specs.declared.command.Command.TheVariants as command
use Rattle.sp_words.specs.declared.requests.View.{View}
use Rattle.sp_words.specs.declared.requests.View.TheVariants as view
use Rattle.sp_words.specs.declared.requests.RunRequest.{RunRequest}
use Rattle.sp_words.specs.declared.requests.ReplayRequest.{ReplayRequest}
use Rattle.superpascal.specs.declared.ending.Ending.{Ending}
use Rattle.superpascal.specs.declared.ending.Ending.TheVariants as e
use Rattle.superpascal.specs.declared.ending.Answer.{Answer}
use Rattle.superpascal.specs.AnswerParts.{HasEndLines}
use Rattle.superpascal.specs.Answers.{has_output, line_of, notes_by, notes_of, output_of, status_of}
use Rattle.superpascal.specs.Calls.{WroteAll, Call, Exactly, Failed, IsAnswered, IsFinal, IsOutside, IsUnwritten}
use Rattle.superpascal.specs.Calls.{OfText, WrotePart, SaysEnding}
use Rattle.superpascal.specs.Causes.{Cause, by_words, before_words, by_command, HasGenerated, HasRead, HasReplayed}
use Rattle.superpascal.specs.Causes.{HasRun, IsNotLoaded, IsNotRead, IsTooLong, IsUntouched, ReadsAfterRules}
use Rattle.superpascal.specs.Causes.{answer_with_line, answer_without_output}
use Rattle.superpascal.specs.ReplayPromise.{Following, IsMeantAlong, PrintsReplay}
use Rattle.superpascal.specs.Headline.{Headline, IsMeant, Prints}
use Rattle.superpascal.specs.Replays.{IsJournalOf, IsWritten, ending_of_replay, replay_notes}
use Rattle.superpascal.specs.Runs.{IsRunOf, Reports, ending_of, generated_answer, generated_output, run_answer}
use Rattle.superpascal.specs.Runs.{told_notes, told_output}
use Rattle.superpascal.specs.Statuses.{InputIsTooLong, OutsideWorks, IsRunOfWords, IsRegularStatus, ReadsFail, Statuses}
use Rattle.superpascal.specs.Texts.{FirstBrokenFor, CanRead, HasLongCode, IsDisjointText, IsJournalText, AcceptedFor}
use Rattle.superpascal.specs.Texts.{IsAcceptedText, Makes, asks_build, asks_text}
use Rattle.superpascal.specs.Traces.{IsStateOf, IsTraceOf}
use Rattle.superpascal.specs.TracePromise.{Tells, Tracing}
use Rattle.superpascal.specs.WitnessPromise.{IsShown}
use Rattle.superpascal.specs.WrittenParts.{AreWritten, Writing, WritesLine}
use Rattle.superpascal.proofs.Laws.{Laws, disjoint_text, keeps_all, made_asks, made_once}
use Rattle.superpascal.proofs.RunCommands.{not_gen, one_asked}
use Rattle.superpascal.proofs.ReplayFacts.{if_told, meant_along, not_followed, not_unfit, replay_notes_stand}
use Rattle.superpascal.proofs.ReplayFacts.{same_entry}
use Rattle.superpascal.proofs.ReplayFacts.{told_of, written_is}
use Rattle.superpascal.proofs.Tellable.{ends_of, replay_ends}
use Rattle.superpascal.proofs.Why.{HasRanFor, ran_of, same_ran, why, why_of}
use Rattle.superpascal.proofs.Forms.{one_command, one_size, not_too_long, final, run_notes_stand, output_stands}
use Rattle.superpascal.proofs.EndingFacts.{words_only, words_due, read_fails, input_long, no_memory, ran_keeps}
use Rattle.superpascal.proofs.EndingFacts.{refusal_due, refused_only, kept_by, made_only, long_only}
use Rattle.superpascal.proofs.EndingFacts.{long_code_due, made_due, ends_well, run_there, long_due, ReplayCause}
use Rattle.superpascal.proofs.EndingFacts.{came_followed, came_unfit, came_bad, came_long, came_outside, came}
use Rattle.superpascal.proofs.EndingFacts.{followed_only, long_said, journal_refused}

-- ---- of a call

module _ (c : Call) (k : IsAnswered c) (l : Laws) where
  abbrev pub status : ℕ
  status = c.outcome.status

  abbrev pub ending : Ending
  ending = k.answer.ending

  pub due_why : why c.files c.source c.reports (command_of c.words) k.answer ending
  due_why = why_of c.files c.source c.reports (command_of c.words) k.answer k.cause

  -- a status other than 6 is that of the answer
  pub same_status : status ≢ 6 → status ≡ status_of ending
  same_status h = go k.written.status_is
    where
      go : (status ≡ status_of ending) ⊎ (status ≡ 6) → status ≡ status_of ending
      go (inl i) = i
      go (inr i) = absurd (h i)

  pub not_six : (n : ℕ) → (n ≡ 6 → ⊥) → status ≡ n → status ≢ 6
  not_six n other h i = other (sym h ∙ i)

  pub undisplaced : (n : ℕ) → (n ≡ 6 → ⊥) → status ≡ n → status_of ending ≡ n
  undisplaced n other h = sym (same_status (not_six n other h)) ∙ h

  due : (n : ℕ) → (status_of ending ≡ n) ⊎ IsOutside (status_of ending) → (status ≡ n) ⊎ IsOutside status
  due n d = go k.written.status_is d
    where
      go : (status ≡ status_of ending) ⊎ (status ≡ 6) → (status_of ending ≡ n) ⊎ IsOutside (status_of ending)
          → (status ≡ n) ⊎ IsOutside status
      go (inr i) h = inr (omega arith, omega arith)
      go (inl i) (inl h) = inl (i ∙ h)
      go (inl i) (inr h) = inr (subst IsOutside (sym i) h)

  pub outside : IsOutside (status_of ending) → IsOutside status
  outside h = go k.written.status_is
    where
      go : (status ≡ status_of ending) ⊎ (status ≡ 6) → IsOutside status
      go (inr i) = (omega arith, omega arith)
      go (inl i) = subst IsOutside (sym i) h

  -- no ending has the status of a failed write
  never_six : (x : Ending) → status_of x ≡ 6 → ⊥
  never_six e.Done h = absurd (omega arith)
  never_six _ h = absurd (omega arith)

  pub says_due : (x : Ending) → ((status_of ending ≡ status_of x) × (notes_of k.answer ≡ line_of x))
      ⊎ IsOutside (status_of ending) → SaysEnding c x
  says_due x d = go k.written.status_is d
    where
      go : (status ≡ status_of ending) ⊎ (status ≡ 6)
          → ((status_of ending ≡ status_of x) × (notes_of k.answer ≡ line_of x)) ⊎ IsOutside (status_of ending)
          → SaysEnding c x
      go (inr i) h = inr (omega arith, omega arith)
      go (inl i) (inl h) = inl (
        i ∙ h.0,
        subst (WroteAll c.notes) h.1 (k.written.all_written (not_six (status_of x) (never_six x) (i ∙ h.0))).1,
      )
      go (inl i) (inr h) = inr (subst IsOutside (sym i) h)

  -- the line of an answer that is its ending's
  pub says : (x : Ending) → notes_of k.answer ≡ line_of x → ending ≡ x → SaysEnding c x
  says x line i = says_due x (inl (ap status_of i, line))

  pub outside_says : (x : Ending) → IsOutside (status_of ending) → SaysEnding c x
  outside_says x o = says_due x (inr o)

  pub final_or : IsFinal (status_of ending) → IsFinal status ⊎ IsOutside status
  final_or f = go k.written.status_is
    where
      go : (status ≡ status_of ending) ⊎ (status ≡ 6) → IsFinal status ⊎ IsOutside status
      go (inr i) = inr (omega arith, omega arith)
      go (inl i) = inl (subst IsFinal (sym i) f)

  pub final_status : IsFinal status → IsFinal (status_of ending)
  final_status (inl h) = inl (undisplaced 0 (λ p. absurd (omega arith)) h)
  final_status (inr (inl h)) = inr (inl (undisplaced 3 (λ p. absurd (omega arith)) h))
  final_status (inr (inr h)) = inr (inr (undisplaced 4 (λ p. absurd (omega arith)) h))

  -- ---- the run that is given back

  given : (r : Ran) → c.outcome.ran ≡ Some r → k.answer.ran ≡ Some r
  given r h = sym k.ran ∙ h

  -- what it is, of a run of the words or of a generated program
  module _ (r : Ran) (h : c.outcome.ran ≡ Some r) where
    has_ran : HasRanFor c.files c.source c.reports (command_of c.words) k.answer
    has_ran = ran_of c.files c.source c.reports (command_of c.words) k.answer r k.cause (given r h)

    same_run : (reports : Reports) (b : RunRequest) (x : Ran) → k.answer ≡ run_answer reports b.telling x → x ≡ r
    same_run reports b x i = same_ran k.answer (run_answer reports b.telling x) x r i refl (given r h)

    same_generated : (size : ℕ) (x : Ran) → k.answer ≡ generated_answer size x → x ≡ r
    same_generated size x i = same_ran k.answer (generated_answer size x) x r i refl (given r h)

    run_ending : ending ≡ ending_of r.closed.end
    run_ending = go has_ran
      where
        go : HasRanFor c.files c.source c.reports (command_of c.words) k.answer → ending ≡ ending_of r.closed.end
        go (d, u, inl (b, p, m)) = ap (λ (z : Answer). z.ending) m.answer
            ∙ ap (λ (z : Ran). ending_of z.closed.end) (same_run c.reports b m.ran m.answer)
        go (d, u, inr (size, workers, p, m)) = ap (λ (z : Answer). z.ending) m.answer
            ∙ ap (λ (z : Ran). ending_of z.closed.end) (same_generated size m.ran m.answer)

    run_status : (status ≡ status_of (ending_of r.closed.end)) ⊎ (status ≡ 6)
    run_status = go k.written.status_is
      where
        go : (status ≡ status_of ending) ⊎ (status ≡ 6) → (status ≡ status_of (ending_of r.closed.end)) ⊎ (status ≡ 6)
        go (inl i) = inl (i ∙ ap status_of run_ending)
        go (inr i) = inr i

    runs_words : IsRunOfWords c r
    runs_words = go has_ran
      where
        go : HasRanFor c.files c.source c.reports (command_of c.words) k.answer → IsRunOfWords c r
        go (d, u, inl (b, p, m)) =
            inl (
              b,
              u ∙ ap Some p,
              m.at_end,
              m.text,
              m.input,
              m.loaded,
              m.read,
              subst
                  (IsRunOf m.text m.input b.workers b.limits) (same_run c.reports b m.ran m.answer) m.is_run,
            )
        go (d, u, inr (size, workers, p, m)) = inr (
          size,
          workers,
          u
              ∙ ap Some p,
          subst (IsRunOf (generated_text size) [] workers default_limits)
              (same_generated size m.ran m.answer) m.is_run,
        )

    written : (output notes : List ℕ) → output_of k.answer ≡ output → notes_of k.answer ≡ notes
        → AreWritten c output notes
    written output notes i j = record {
      whole = λ n. (
        subst (WroteAll c.output) i (k.written.all_written n).0,
        subst (WroteAll c.notes) j
            (k.written.all_written n).1,
      );
      part_of_output = subst (WrotePart c.output) i k.written.part_of_output;
      part_of_notes = subst (WrotePart c.notes) j k.written.part_of_notes;
    }

    -- of a run that the words ask for
    module _ (b : RunRequest) (v : command_of c.words ≡ Some (command.Run b)) where
      of_run : (P : RunRequest → Type 0) → ((x : RunRequest) → HasRun c.files c.source c.reports x k.answer → P x) → P b
      of_run P q = go has_ran
        where
          go : HasRanFor c.files c.source c.reports (command_of c.words) k.answer → P b
          go (d, u, inl (x, p, m)) = subst P (one_asked b x (sym p ∙ one_command _ (command.Run b) d v u)) (q x m)
          go (d, u, inr (size, workers, p, m)) =
              absurd (not_gen b size workers (sym (one_command _ (command.Run b) d v u)
              ∙ p))

      run_written : AreWritten c (told_output b.telling r) (told_notes c.reports b.telling r)
      run_written = of_run (λ x. AreWritten c (told_output x.telling r) (told_notes c.reports x.telling r))
          (λ x m. go x m)
        where
          go : (x : RunRequest) → HasRun c.files c.source c.reports x k.answer
              → AreWritten c (told_output x.telling r) (told_notes c.reports x.telling r)
          go x m =
              let same : m.ran ≡ r = same_run c.reports x m.ran m.answer in
              written (told_output x.telling r) (told_notes c.reports x.telling r)
              (ap output_of m.answer ∙ (output_stands c.reports x.telling m.ran ∙ ap (told_output x.telling) same))
              (ap notes_of m.answer
              ∙ (run_notes_stand m.ran.closed.end (told_notes c.reports x.telling m.ran)
              (ends_of _ _ _ _ m.ran m.is_run) ∙ ap (told_notes c.reports x.telling) same))

      -- with the text and the input that are told
      run_meant : (text input : List ℕ) → c.files.held b.file ≡ Some text → c.source.left ≡ Some input
          → IsMeant b text input r
      run_meant text input t left = of_run (λ x. c.files.held x.file ≡ Some text
          → IsMeant x text input r) (λ x m i. go x m i) t
        where
          go : (x : RunRequest) → HasRun c.files c.source c.reports x k.answer → c.files.held x.file ≡ Some text
              → IsMeant x text input r
          go x m i =
              let same : m.ran ≡ r = same_run c.reports x m.ran m.answer in
              let this : m.text ≡ text = told_of (c.files.held x.file) m.text text i m.loaded in
              let that : m.input ≡ input = told_of c.source.left m.input input left m.read in
              meant x text input r (subst (IsRunOf text input x.workers x.limits) same
              (subst (λ y. IsRunOf text y x.workers x.limits m.ran) that
              (subst (λ y. IsRunOf y m.input x.workers x.limits m.ran) this m.is_run)))
            where
              meant : (x : RunRequest) (text input : List ℕ) (r : Ran) → IsRunOf text input x.workers x.limits r
                  → IsMeant x text input r
              meant x text input r h = (without_places h.tree, (h.tree, h.has.accepted.0, refl), h.meant)

      run_disjoint : (text : List ℕ) → c.files.held b.file ≡ Some text → IsDisjointText text
      run_disjoint text t =
          disjoint_text l text
          (ran_keeps c.files c.source c.reports (command_of c.words) k.answer (command.Run b) text v t has_ran)

      -- the witness of its race
      pub run_shown : (text input : List ℕ) → c.files.held b.file ≡ Some text → c.source.left ≡ Some input
          → IsShown b text input r
      run_shown text input t left = of_run (λ x. c.files.held x.file ≡ Some text
          → IsShown x text input r) (λ x m i. go x m i) t
        where
          go : (x : RunRequest) → HasRun c.files c.source c.reports x k.answer → c.files.held x.file ≡ Some text
              → IsShown x text input r
          go x m i =
              let same : m.ran ≡ r = same_run c.reports x m.ran m.answer in
              let this : m.text ≡ text = told_of (c.files.held x.file) m.text text i m.loaded in
              let that : m.input ≡ input = told_of c.source.left m.input input left m.read in
              shown x text input r (subst (IsRunOf text input x.workers x.limits) same
              (subst (λ y. IsRunOf text y x.workers x.limits m.ran) that
              (subst (λ y. IsRunOf y m.input x.workers x.limits m.ran) this m.is_run)))
            where
              shown : (x : RunRequest) (text input : List ℕ) (r : Ran) → IsRunOf text input x.workers x.limits r
                  → IsShown x text input r
              shown x text input r h = (without_places h.tree, (h.tree, h.has.accepted.0, refl), h.shown)

    generated_written : (size workers : ℕ) → command_of c.words ≡ Some (command.Gen size workers)
        → AreWritten c (generated_output size r) []
    generated_written size workers v = go has_ran
      where
        of_size : (n x : ℕ) → n ≡ size → HasGenerated n x k.answer → AreWritten c (generated_output size r) []
        of_size n x i m =
            let same : m.ran ≡ r = same_generated n m.ran m.answer in
            written (generated_output size r) []
            (ap output_of m.answer ∙ (ap (generated_output n) same ∙ ap (λ y. generated_output y r) i))
            (ap notes_of m.answer ∙ run_notes_stand m.ran.closed.end [] (ends_of _ _ _ _ m.ran m.is_run))

        go : HasRanFor c.files c.source c.reports (command_of c.words) k.answer
            → AreWritten c (generated_output size r) []
        go (d, u, inl (b, p, m)) = absurd (not_gen b size workers (sym p
            ∙ one_command _ (command.Gen size workers) d v u))
        go (d, u, inr (n, x, p, m)) = of_size n x (one_size n size x workers (sym p
            ∙ one_command _ (command.Gen size workers) d v u)) m

  -- ---- the clauses

  refuses : OfText c (λ d text. (r : Refusal) → FirstBrokenFor d text r → SaysEnding c (e.Refused r))
  refuses d text v t r b = says_due (e.Refused r)
      (refusal_due c.files c.source c.reports (command_of c.words) k.answer d text v t l r b ending refl due_why)

  refuses_only : OfText c (λ d text. status ≡ 1 → (r : Refusal) × FirstBrokenFor d text r)
  refuses_only d text v t h = refused_only c.files c.source c.reports
      (command_of c.words) k.answer d text v t ending due_why (undisplaced 1 (λ p. absurd (omega arith)) h)

  makes_it : OfText c (λ d text. asks_text d → Exactly status 0 ((out line : List ℕ) × Makes d text out line))
  makes_it d text v t q = (
    λ h. let m = made_only c.files c.source c.reports (command_of c.words) k.answer d text v t q ending due_why
        (undisplaced 0 (λ p. absurd (omega arith)) h) in (m.0.output, m.0.line, m.1),
    λ m. due 0 (made_due c.files c.source c.reports (command_of c.words) k.answer d text v t q l m ending due_why),
  )

  long_exactly : OfText c (λ d text. asks_build d → Exactly status 10 (HasLongCode text))
  long_exactly d text v t q = (
    λ h. long_only c.files c.source c.reports (command_of c.words) k.answer d text v t q ending due_why
        (undisplaced 10 (λ p. absurd (omega arith)) h),
    λ m. due 10 (long_code_due c.files c.source c.reports
        (command_of c.words) k.answer d text v t q l m ending due_why),
  )

  made_written : OfText c (λ d text. (out line : List ℕ) → Makes d text out line → status ≡ 0 → WroteAll c.output out
      × WroteAll c.notes line)
  made_written d text v t out line m h =
      let n = made_only c.files c.source c.reports (command_of c.words) k.answer d text v t
      (made_asks d text out line m) ending due_why (undisplaced 0 (λ p. absurd (omega arith)) h) in
      let once = made_once l text d n.0.output out n.0.line line n.1 m in
      let all = k.written.all_written (not_six 0 (λ p. absurd (omega arith)) h) in (
        subst (WroteAll c.output) (ap output_of n.0.answer ∙ once.0) all.0,
        subst (WroteAll c.notes) (ap notes_of n.0.answer
            ∙ once.1) all.1,
      )

  reads_fail : status ≡ 5 → ReadsFail c
  reads_fail h = go (read_fails c.files c.source c.reports (command_of c.words) k.answer ending due_why
      (undisplaced 5 (λ p. absurd (omega arith)) h))
    where
      go : ((d : Command) × (command_of c.words ≡ Some d)
          × (IsNotLoaded c.files d k.answer ⊎ IsNotRead c.files c.source d k.answer)) → ReadsFail c
      go (d, v, inl m) = (d, v, inl (m.name, m.loads, m.rose))
      go (d, v, inr m) = (d, v, inr (m.reads, m.rose))

  too_long_is : status ≡ 7 → InputIsTooLong c
  too_long_is h = let m = input_long c.files c.source c.reports (command_of c.words) k.answer ending due_why
      (undisplaced 7 (λ p. absurd (omega arith)) h) in (m.0, m.1, m.2.reads, m.2.long)

  no_run_of_memory : status ≡ 8 → IsUnwritten c.output × (c.outcome.ran ≡ None)
  no_run_of_memory h =
      let m : k.answer ≡ answer_without_output e.OutOfMemory = no_memory c.files c.source c.reports
      (command_of c.words) k.answer ending due_why (undisplaced 8 (λ p. absurd (omega arith)) h) in
      (k.written.untouched (ap (λ (z : Answer). has_output z.ending) m), k.ran ∙ ap (λ (z : Answer). z.ran) m)

  complete_is : OfText c (λ d text. AcceptedFor d text → OutsideWorks c d → IsRegularStatus d status)
  complete_is d text v t kept q =
      subst (IsRegularStatus d) (sym (same_status not_displaced))
      (ends_well c.files c.source c.reports
      (command_of c.words) k.answer d text v t l kept q.library q.source q.input ending due_why)
    where
      not_displaced : status ≢ 6
      not_displaced h = go (k.written.displaced h)
        where
          go : Failed c.output ⊎ Failed c.notes → ⊥
          go (inl m) = q.output m
          go (inr m) = q.notes m

  source_is : IsUntouched c.source ⊎ ((d : Command) × (command_of c.words ≡ Some d) × CanRead c.files.held d)
  source_is = go k.cause
    where
      reads : (d : Command) → command_of c.words ≡ Some d → ReadsAfterRules c.files c.source d → IsUntouched c.source
          ⊎ ((b : Command) × (command_of c.words ≡ Some b) × CanRead c.files.held b)
      reads d v (inl u) = inl u
      reads d v (inr m) = inr (d, v, m)

      go : Cause c.files c.source c.reports (command_of c.words) k.answer → IsUntouched c.source
          ⊎ ((d : Command) × (command_of c.words ≡ Some d) × CanRead c.files.held d)
      go (by_words n h u) = inl u
      go (before_words h u) = inl u
      go (by_command d v h r) = reads d v r

  -- ---- of a replay

  module _ (b : ReplayRequest) (text bytes : List ℕ) (v : command_of c.words ≡ Some (command.Replay b))
      (t : c.files.held b.file ≡ Some text) (u : c.files.held b.journal ≡ Some bytes) where
    abbrev Came_here : Type 0
    Came_here = ReplayCause c.files c.source c.reports (command_of c.words) k.answer b ending

    came_here : IsAcceptedText text → Came_here
    came_here kept = came c.files c.source c.reports (command_of c.words) k.answer b text v t l kept ending due_why

    -- a journal that is read is the text of one
    read_is : (h : HasRead c.files c.source b) → IsJournalOf bytes h.journal
    read_is h = subst (λ x. IsJournalOf x h.journal)
        (told_of (c.files.held b.journal) h.bytes bytes u h.told) h.is_journal

    is_short : (h : HasRead c.files c.source b) → length bytes ≤ 67108864
    is_short h = (read_is h).short

    too_short : length bytes ≤ 67108864 → 67108864 < length bytes → ⊥
    too_short x y = omega arith

    input_fits : (input : List ℕ) → c.source.left ≡ Some input → (h : HasRead c.files c.source b) → IsTooLong input → ⊥
    input_fits input left h long =
        not_too_long h.input input (told_of c.source.left h.input input left h.read) h.fits long

    followed_long : IsAcceptedText text → IsJournalText bytes → (input : List ℕ) → c.source.left ≡ Some input
        → IsTooLong input → IsOutside (status_of ending)
    followed_long kept is input left long = go (came_here kept)
      where
        go : Came_here → IsOutside (status_of ending)
        go (came_followed h) = absurd (input_fits input left h.has_read long)
        go (came_unfit n h) = absurd (input_fits input left h.has_read long)
        go (came_bad n h) = absurd (if_told _ (c.files.held b.journal) bytes u h.no_text is.0)
        go (came_long h) = absurd (too_short is.1 (if_told _ (c.files.held b.journal) bytes u h.long))
        go (came_outside o) = o

    says_long : IsAcceptedText text → 67108864 < length bytes → SaysEnding c e.LongJournal
    says_long kept long = go (came_here kept)
      where
        go : Came_here → SaysEnding c e.LongJournal
        go (came_followed h) = absurd (too_short (is_short h.has_read) long)
        go (came_unfit n h) = absurd (too_short (is_short h.has_read) long)
        go (came_bad n h) = absurd (too_short (if_told _ (c.files.held b.journal) bytes u h.short) long)
        go (came_long h) = says e.LongJournal (ap notes_of h.answer)
            (ap (λ (z : Answer). z.ending) h.answer)
        go (came_outside o) = outside_says e.LongJournal o

    says_bad : IsAcceptedText text → length bytes ≤ 67108864 → (IsText bytes → ⊥)
        → ((n : ℕ) × IsFirstBad n bytes × SaysEnding c (e.BadJournal n)) ⊎ IsOutside status
    says_bad kept short none = go (came_here kept)
      where
        go : Came_here → ((n : ℕ) × IsFirstBad n bytes × SaysEnding c (e.BadJournal n)) ⊎ IsOutside status
        go (came_followed h) = let j = read_is h.has_read in absurd (none (j.version, h.has_read.journal, j.text))
        go (came_unfit n h) = let j = read_is h.has_read in absurd (none (j.version, h.has_read.journal, j.text))
        go (came_bad n h) = inl (
          n,
          if_told _ (c.files.held b.journal) bytes u h.bad,
          says (e.BadJournal n)
              (ap notes_of h.answer) (ap (λ (z : Answer). z.ending) h.answer),
        )
        go (came_long h) = absurd (too_short short (if_told _ (c.files.held b.journal) bytes u h.long))
        go (came_outside o) = inr (outside o)

    -- of one that was followed
    module _ (f : IsFinal status) where
      not_displaced : status ≢ 6
      not_displaced = go f
        where
          go : IsFinal status → status ≢ 6
          go (inl i) = not_six 0 (λ p. absurd (omega arith)) i
          go (inr (inl i)) = not_six 3 (λ p. absurd (omega arith)) i
          go (inr (inr i)) = not_six 4 (λ p. absurd (omega arith)) i

      followed_here : HasReplayed c.files c.source b k.answer
      followed_here = followed_only c.files c.source c.reports (command_of c.words) k.answer b text v t ending due_why
          (final_status f)

      out_written : (h : HasReplayed c.files c.source b k.answer) → WroteAll c.output h.out
      out_written h = subst (WroteAll c.output) (ap output_of h.answer) (k.written.all_written not_displaced).0

      prints : (h : HasReplayed c.files c.source b k.answer) → PrintsReplay c b h.replayed
      prints h = record {
        status = same_status not_displaced ∙ ap (λ (z : Answer). status_of z.ending) h.answer;
        output = λ i. subst (WroteAll c.output)
            (subst (λ (x : View). IsWritten x h.has_read.text h.has_read.input b.limits h.has_read.journal h.replayed
            h.out) i h.written) (out_written h);
        notes = subst (WroteAll c.notes) (ap notes_of h.answer
            ∙ replay_notes_stand h.replayed.end (replay_notes h.replayed.end)
            (replay_ends _ _ _ _ h.replayed h.is_replay)) (k.written.all_written not_displaced).1;
        at_end = h.has_read.at_end;
      }

    module _ (input : List ℕ) (left : c.source.left ≡ Some input) where
      is_followed : IsFinal status → (r : Replayed) × IsMeantAlong b text bytes input r × PrintsReplay c b r
      is_followed f = let h = followed_here f in (
        h.replayed,
        meant_along c.files c.source b l h.has_read text bytes input t u left h.replayed h.is_replay,
        prints f h,
      )

      -- one whose entries are told
      is_traced : b.view ≡ view.Entries → IsFinal status → Tells c bytes (IsTraceOf text input b.limits)
      is_traced i f =
          let h = followed_here f in
          let j = h.has_read.journal in
          let told : IsTraceOf text input b.limits j h.out =
          subst (λ (x : View). IsWritten x text input b.limits j h.replayed h.out) i
          (written_is c.files c.source b l h.has_read text bytes input t u left h.replayed h.out h.written) in
          record {
            journal = j;
            is_journal = read_is h.has_read;
            out = h.out;
            is_text = told;
            written = out_written f h;
          }

      -- one whose state is told
      is_placed : b.view ≡ view.State → IsFinal status → Tells c bytes (IsStateOf text input b.limits)
      is_placed i f =
          let h = followed_here f in
          let j = h.has_read.journal in
          record {
            journal = j;
            is_journal = read_is h.has_read;
            out = h.out;
            is_text = subst (λ (x : View). IsWritten x text input b.limits j h.replayed h.out) i
                (written_is c.files c.source b l h.has_read text bytes input t u left h.replayed h.out h.written);
            written = out_written f h;
          }

      module _ (kept : IsAcceptedText text) (fits : length input ≤ 16777216) (p : Program) (is : IsProgramOf text p)
          (j : Journal) (of : IsJournalOf bytes j) where
        is_accepted : IsDefined (run_input p input b.limits) j.entries → IsFinal status ⊎ IsOutside status
        is_accepted d = go (came_here kept)
          where
            final_replay : (o : Option End) → HasEndLines o → IsFinal (status_of (ending_of_replay o))
            final_replay None h = inl refl
            final_replay (Some x) h = (final x h).0

            go : Came_here → IsFinal status ⊎ IsOutside status
            go (came_followed h) = final_or
                (subst IsFinal (sym (ap (λ (z : Answer). status_of z.ending) h.answer))
                (final_replay h.replayed.end (replay_ends _ _ _ _ h.replayed h.is_replay)))
            go (came_unfit n h) = absurd (not_unfit c.files c.source b l h.has_read text bytes input t u left p is j of
                n h.is_unfit d)
            go (came_bad n h) = absurd (if_told _ (c.files.held b.journal) bytes u h.no_text (of.version, j, of.text))
            go (came_long h) = absurd (too_short of.short (if_told _ (c.files.held b.journal) bytes u h.long))
            go (came_outside o) = inr (outside o)

        is_unfit : (n : ℕ) → IsUnfitAt (run_input p input b.limits) j.entries n → SaysEnding c (e.Unfit n)
        is_unfit n d = go (came_here kept)
          where
            go : Came_here → SaysEnding c (e.Unfit n)
            go (came_followed h) = absurd (not_followed c.files c.source b l h.has_read text bytes input t u left p is j
                of n h.replayed h.is_replay d)
            go (came_unfit m h) =
                subst (λ x. SaysEnding c (e.Unfit x))
                (same_entry c.files c.source b l h.has_read text bytes input t u left p is j of m n h.is_unfit d)
                (says (e.Unfit m) (ap notes_of h.answer) (ap (λ (z : Answer). z.ending) h.answer))
            go (came_bad m h) = absurd (if_told _ (c.files.held b.journal) bytes u h.no_text (of.version, j, of.text))
            go (came_long h) = absurd (too_short of.short (if_told _ (c.files.held b.journal) bytes u h.long))
            go (came_outside o) = outside_says (e.Unfit n) o

  pub following : Following c
  following = record {
    followed = λ b text bytes v t u input left f. is_followed b text bytes v t u input left f;
    accepted = λ b text bytes v t u input left kept fits p is j of d.
        is_accepted b text bytes v t u input left kept fits p is j of d;
    unfit = λ b text bytes v t u input left kept fits p is j of n d.
        is_unfit b text bytes v t u input left kept fits p is j of n d;
    bad = λ b text bytes v t u kept short none. says_bad b text bytes v t u kept short none;
    long = λ b text bytes v t u kept long. says_long b text bytes v t u kept long;
    only = λ h. journal_refused c.files c.source c.reports (command_of c.words) k.answer ending due_why
        (undisplaced 9 (λ p. absurd (omega arith)) h);
  }

  pub tracing : Tracing c
  tracing = record {
    traced = λ b text bytes v t u input left i f. is_traced b text bytes v t u input left i f;
    placed = λ b text bytes v t u input left i f. is_placed b text bytes v t u input left i f;
  }

  pub statuses : Statuses c
  statuses = record {
    bad_words = (
      λ h. words_only c.files c.source c.reports (command_of c.words) k.answer ending due_why
          (undisplaced 2 (λ p. absurd (omega arith)) h),
      λ h. due 2 (words_due c.files c.source c.reports (command_of c.words) k.answer h ending due_why),
    );
    refused = refuses;
    no_other_refused = refuses_only;
    made = makes_it;
    by_end = run_status;
    ran = λ d v n h. let m = run_there c.files c.source c.reports (command_of c.words) k.answer d v n ending due_why
        (final_status h) in (m.0, k.ran ∙ m.1);
    runs = runs_words;
    read_fault = reads_fail;
    write_fault = k.written.displaced;
    too_long = too_long_is;
    long_refused = λ b text v t kept input left long. outside
        (long_due c.files c.source c.reports
        (command_of c.words) k.answer b text v t l kept input left long ending due_why);
    long_unfollowed = λ b text bytes v t u kept is input left long. outside
        (followed_long b text bytes v t u kept is input left long);
    memory = no_run_of_memory;
    long_code = long_exactly;
    no_other_long = λ h. long_said c.files c.source c.reports (command_of c.words) k.answer ending due_why
        (undisplaced 10 (λ p. absurd (omega arith)) h);
    complete = complete_is;
    source = source_is;
    disjoint = λ d text v t q h. disjoint_text l text
        (keeps_all d text q (kept_by c.files c.source c.reports (command_of c.words) k.answer d text v t ending due_why
        (final_status h)));
  }

  pub headline : Headline c
  headline = record {
    refused = λ b text v t r h. refuses (command.Run b) text v t r h;
    no_other_refused = λ b text v t n. refuses_only (command.Run b) text v t n;
    disjoint = λ b text v t r h. run_disjoint r h b v text t;
    meant = λ b text v t input left r h. (run_meant r h b v text input t left, prints r h b v);
  }
    where
      prints : (r : Ran) → c.outcome.ran ≡ Some r → (b : RunRequest) → command_of c.words ≡ Some (command.Run b)
          → Prints c b.telling r
      prints r h b v = let m = run_written r h b v in
          record { status = run_status r h; whole = λ n. (m.whole n).0; part = m.part_of_output }

  -- the notes are the line of this ending, or that of a refusal
  abbrev Is_line : Ending → Type 0
  Is_line x = (notes_by x k.answer.notes ≡ line_of x) ⊎ ((r : Refusal) × (k.answer ≡ answer_with_line (e.Refused r)))

  -- the notes where there is no output
  line_is : (x : Ending) → why c.files c.source c.reports (command_of c.words) k.answer x → has_output x ≡ false
      → Is_line x
  line_is (e.BadCode n) (b, v, m) h = inl (ap (λ (z : Answer). z.notes) m.answer)
  line_is (e.Rejected r n) (b, v, m) h = inl (ap (λ (z : Answer). z.notes) m.answer)
  line_is (e.BadJournal n) (b, v, m) h = inl (ap (λ (z : Answer). z.notes) m.answer)
  line_is (e.Unfit n) (b, v, m) h = inl (ap (λ (z : Answer). z.notes) m.answer)
  line_is e.Done m h = absurd (true≢false h)
  line_is e.Deadlock m h = absurd (true≢false h)
  line_is e.Fault m h = absurd (true≢false h)
  line_is e.NoEnd m h = absurd (true≢false h)
  line_is e.Accepted m h = absurd (true≢false h)
  line_is (e.Refused q) (d, v, m) h = inr (m.refusal, m.answer)
  line_is _ _ _ = inl refl

  without_output : (x : Ending) → status_of x ≢ 0 → status_of x ≢ 3 → status_of x ≢ 4 → has_output x ≡ false
  without_output e.Done a b d = absurd (a refl)
  without_output e.Deadlock a b d = absurd (d refl)
  without_output e.Fault a b d = absurd (b refl)
  without_output e.Accepted a b d = absurd (a refl)
  without_output e.NoEnd a b d = absurd (a refl)
  without_output _ _ _ _ = refl

  pub writing : Writing c
  writing = record {
    made = made_written;
    ran = λ b v r h. run_written r h b v;
    generated = λ size workers v r h. generated_written r h size workers v;
    line = λ a b d g.
        let i : status ≡ status_of ending = same_status g in
        let n = without_output ending (λ m. a (i ∙ m)) (λ m. b (i ∙ m)) (λ m. d (i ∙ m)) in
        (writes_line i n (k.written.all_written g).1, k.written.untouched n);
  }
    where
      writes_line : status ≡ status_of ending → has_output ending ≡ false → WroteAll c.notes (notes_of k.answer)
          → WritesLine c
      writes_line i n m = go (line_is ending due_why n)
        where
          go : Is_line ending → WritesLine c
          go (inl h) = (ending, i, n, subst (WroteAll c.notes) h m)
          go (inr (r, h)) = (
            e.Refused r,
            i
                ∙ ap (λ (z : Answer). status_of z.ending) h,
            refl,
            subst (WroteAll c.notes) (ap notes_of h) m,
          )
