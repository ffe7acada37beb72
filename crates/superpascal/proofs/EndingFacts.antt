-- What follows from the ending of an answer and its cause: which status and which line are due, and what the text, the
-- input and the files then were.
use Rattle.std.proofs.Common.{◌≡◌, ◌⊎◌, inl, inr, ℕ, ◌<◌, ◌≤◌, List, [], length, Option, Some, None, refl, sym, ◌∙◌, ap}
use Rattle.std.proofs.Common.{subst, arith}
use Rattle.std.specs.Prelude.{IfSome}
use Rattle.sp_base.specs.declared.halt.Refusal.{Refusal}
use Rattle.sp_base.specs.declared.limits.Limits.{Limits}
use Rattle.sp_codefile.specs.VerifyAnswers.{rule_of}
use Rattle.sp_codefile.specs.declared.verifier.VRule.{VRule}
use Rattle.sp_execute.specs.declared.execution.Ran.{Ran}
use Rattle.sp_gen.specs.GeneratedText.{generated_text}
use Rattle.sp_outside.specs.Counts.{Rose}
use Rattle.sp_print.specs.OutcomeLines.{refusal_text}
use Rattle.sp_words.specs.Ranges.{default_limits}
use Rattle.sp_words.specs.declared.command.Command.{Command}
use Rattle.sp_words.specs.declared.command.Command.TheVariants as command
use Rattle.sp_words.specs.declared.requests.RunRequest.{RunRequest}
use Rattle.sp_words.specs.declared.requests.ExecRequest.{ExecRequest}
use Rattle.sp_words.specs.declared.requests.ReplayRequest.{ReplayRequest}
use Rattle.superpascal.specs.declared.ending.Ending.{Ending}
use Rattle.superpascal.specs.declared.ending.Ending.TheVariants as e
use Rattle.superpascal.specs.declared.ending.Answer.{Answer}
use Rattle.superpascal.specs.Answers.{line_of, notes_by, status_of}
use Rattle.superpascal.specs.Calls.{IsFinal, IsOutside}
use Rattle.superpascal.specs.Causes.{Files, HasMadeOutput, HasRead, HasReplayed, IsBadCode, IsBadJournal, IsLongCode}
use Rattle.superpascal.specs.Causes.{IsLongFile, IsLongJournal, IsNotLoaded, IsNotRead, IsRefusedFor, IsRejectedCode}
use Rattle.superpascal.specs.Causes.{IsKnownAs, IsTooLong, IsLongInput, IsUnfit, Stream, answer_without_output}
use Rattle.superpascal.specs.ReplayPromise.{IsNoJournal}
use Rattle.superpascal.specs.Replays.{IsUnfitFor}
use Rattle.superpascal.specs.Runs.{IsRunOf, Reports}
use Rattle.superpascal.specs.Statuses.{IsRegularStatus}
use Rattle.superpascal.specs.Texts.{FirstBrokenFor, CanRead, HasLongCode, IsSoundFile, AcceptedFor, IsAcceptedText}
use Rattle.superpascal.specs.Texts.{LoadsText, Makes, asks_build, asks_replay, asks_run}
use Rattle.superpascal.specs.Texts.{asks_text, text_of}
use Rattle.superpascal.proofs.Laws.{Laws, code_text_keeps, keeps_or, kept_or, made_asks, made_keeps, one_break}
use Rattle.superpascal.proofs.RunCommands.{not_exec, not_gen, not_run}
use Rattle.superpascal.proofs.CodeFiles.{not_bad, not_long, not_rejected}
use Rattle.superpascal.proofs.Parts.{if_mapped, when_told}
use Rattle.superpascal.proofs.ReplayFacts.{if_told, not_generated, one_followed, told_of, tree_keeps}
use Rattle.superpascal.proofs.Why.{HasEnded, HasExecutedFor, HasRanFor, HasReplayedFor, IsRanBy, why}
use Rattle.superpascal.proofs.Forms.{no_command, one_command, not_too_long, text_or_run, build_text, build_keeps}
use Rattle.superpascal.proofs.Forms.{build_short}

-- ---- from the ending

module _ (f : Files) (s : Stream) (reports : Reports) (w : Option Command) (a : Answer) where
  abbrev pub Why : Ending → Type 0
  Why = why f s reports w a

  -- a status that is due, or one of the outside
  abbrev pub Due_status : Ending → ℕ → Type 0
  Due_status x n = (status_of x ≡ n) ⊎ IsOutside (status_of x)

  -- the status and the line of an ending that are due
  abbrev pub Due_line : Ending → Ending → Type 0
  Due_line x y = ((status_of x ≡ status_of y) × (notes_by x a.notes ≡ line_of y)) ⊎ IsOutside (status_of x)

  pub words_only : (x : Ending) → Why x → status_of x ≡ 2 → w ≡ None
  words_only e.BadWords k h = k
  words_only _ k h = absurd (omega arith)

  ended_asked : w ≡ None → HasEnded f s reports w a → ⊥
  ended_asked h (inl k) = no_command _ _ k.1 h
  ended_asked h (inr (inl k)) = no_command _ _ k.1 h
  ended_asked h (inr (inr k)) = no_command _ _ k.1 h

  pub words_due : w ≡ None → (x : Ending) → Why x → Due_status x 2
  words_due h e.BadWords k = inl refl
  words_due h e.Done k = absurd (ended_asked h k)
  words_due h e.Deadlock k = absurd (ended_asked h k)
  words_due h e.Fault k = absurd (ended_asked h k)
  words_due h e.ReadFault k = inr (omega arith, omega arith)
  words_due h e.TooLong k = inr (omega arith, omega arith)
  words_due h e.OutOfMemory k = inr (omega arith, omega arith)
  words_due h _ k = absurd (no_command _ _ k.1 h)

  pub read_fails : (x : Ending) → Why x → status_of x ≡ 5 → (d : Command) × (w ≡ Some d)
      × (IsNotLoaded f d a ⊎ IsNotRead f s d a)
  read_fails e.ReadFault k h = k
  read_fails _ k h = absurd (omega arith)

  pub input_long : (x : Ending) → Why x → status_of x ≡ 7 → (d : Command) × (w ≡ Some d) × IsLongInput f s d a
  input_long e.TooLong k h = k
  input_long _ k h = absurd (omega arith)

  pub no_memory : (x : Ending) → Why x → status_of x ≡ 8 → a ≡ answer_without_output e.OutOfMemory
  no_memory e.OutOfMemory k h = k
  no_memory _ k h = absurd (omega arith)

  ran_there : (d : Command) → IsRanBy f s reports w a d → (r : Ran) × (a.ran ≡ Some r)
  ran_there d (inl (asked, p, h)) = (h.ran, ap (λ (z : Answer). z.ran) h.answer)
  ran_there d (inr (size, workers, p, h)) = (h.ran, ap (λ (z : Answer). z.ran) h.answer)

  module _ (d : Command) (text : List ℕ) (v : w ≡ Some d) (t : text_of f.held d ≡ Some text) where
    -- what is told of the text of the command holds of this one
    of_text : (P : List ℕ → Type 0) (c : Command) → w ≡ Some c → IfSome (text_of f.held c) P → P text
    of_text P c u h = if_told P (text_of f.held d) text t
        (subst (λ (x : Command). IfSome (text_of f.held x) P) (one_command w d c v u) h)

    run_keeps : (all input : List ℕ) (workers : ℕ) (r : Ran) (limits : Limits) → IsRunOf all input workers limits r
        → IsAcceptedText all
    run_keeps all input workers r limits h = (h.tree, h.has.accepted, h.has.short)

    told_keeps : (o : Option (List ℕ)) (all : List ℕ) → IsKnownAs o all → IsAcceptedText all → IfSome o IsAcceptedText
    told_keeps o all h k = when_told IsAcceptedText o all h k

    pub ran_keeps : HasRanFor f s reports w a → AcceptedFor d text
    ran_keeps (c, u, inl (asked, p, h)) =
        let same : command.Run asked ≡ d = sym p ∙ one_command w d c v u in
        let told = told_keeps (f.held asked.file) h.text h.loaded
        (run_keeps h.text h.input asked.workers h.ran asked.limits h.is_run) in
        let all : IsAcceptedText text = of_text IsAcceptedText (command.Run asked) (u ∙ ap Some p) told in
        subst (λ (x : Command). AcceptedFor x text) same all
    ran_keeps (c, u, inr (size, workers, p, h)) =
        let same : command.Gen size workers ≡ d = sym p ∙ one_command w d c v u in
        let all : IsAcceptedText text = of_text IsAcceptedText (command.Gen size workers) (u
        ∙ ap Some p) (run_keeps (generated_text size) [] workers h.ran default_limits h.is_run) in
        subst (λ (x : Command). AcceptedFor x text) same all

    -- a text of which a journal was loaded is kept
    followed_keeps : (b : ReplayRequest) → w ≡ Some (command.Replay b) → IfSome (f.held b.file) IsAcceptedText
        → AcceptedFor d text
    followed_keeps b u h = subst (λ (x : Command). AcceptedFor x text) (one_command w d (command.Replay b) v u)
        (of_text IsAcceptedText (command.Replay b) u h)

    replay_keeps : HasReplayedFor f s reports w a → AcceptedFor d text
    replay_keeps (b, u, h) =
        followed_keeps b u (told_keeps (f.held b.file) h.has_read.text h.has_read.loaded
        (tree_keeps h.has_read.text h.is_replay.tree h.is_replay.has))

    unfit_keeps : (b : ReplayRequest) (n : ℕ) → w ≡ Some (command.Replay b) → IsUnfit f s b n a → AcceptedFor d text
    unfit_keeps b n u h =
        followed_keeps b u (told_keeps (f.held b.file) h.has_read.text h.has_read.loaded
        (tree_keeps h.has_read.text h.is_unfit.tree h.is_unfit.has))

    -- a code file that has run is kept, and one that is at fault breaks no rule of texts
    executed_keeps : HasExecutedFor f s reports w a → AcceptedFor d text
    executed_keeps (b, u, h) =
        subst (λ (x : Command). AcceptedFor x text) (one_command w d (command.Exec b) v u)
        (of_text IsSoundFile (command.Exec b) u
        (when_told IsSoundFile (f.held b.file) h.bytes h.loaded (h.is_execution.code, h.is_execution.file)))

    executed_breaks : (b : ExecRequest) → w ≡ Some (command.Exec b) → (r : Refusal) → FirstBrokenFor d text r
        → ⊥
    executed_breaks b u r h =
        subst (λ (x : Command). FirstBrokenFor x text r) (sym (one_command w d (command.Exec b) v u)) h

    ended_keeps : HasEnded f s reports w a → AcceptedFor d text
    ended_keeps (inl k) = ran_keeps k
    ended_keeps (inr (inl k)) = replay_keeps k
    ended_keeps (inr (inr k)) = executed_keeps k

    makes : (c : Command) → w ≡ Some c → (h : HasMadeOutput f c a) → Makes d text h.output h.line
    makes c u h =
        subst (λ (x : Command). Makes x text h.output h.line) (one_command w d c v u)
        (subst (λ (x : List ℕ). Makes c x h.output h.line) (of_text (λ x. h.text ≡ x) c u h.loaded) h.makes)

    -- a text whose code is too long for a file is kept
    pub long_code : (c : Command) → w ≡ Some c → IsLongCode f c a → asks_build d × HasLongCode text
    long_code c u h = (
      subst asks_build (one_command w d c v u) h.builds,
      subst HasLongCode (of_text (λ x. h.text ≡ x) c u h.loaded) h.long,
    )

    long_keeps : (c : Command) → w ≡ Some c → IsLongCode f c a → AcceptedFor d text
    long_keeps c u h = let (builds, (out, is_text, _)) = long_code c u h in
        build_keeps d text builds (code_text_keeps text out is_text)

    breaks : (c : Command) → w ≡ Some c → (h : IsRefusedFor f c a) → FirstBrokenFor d text h.refusal
    breaks c u h = subst (λ (x : Command). FirstBrokenFor x text h.refusal) (one_command w d c v u)
        (of_text (λ x. FirstBrokenFor c x h.refusal) c u h.breaks)

    pub refusal_due : Laws → (r : Refusal) → FirstBrokenFor d text r → (x : Ending) → x ≡ a.ending → Why x
        → Due_line x (e.Refused r)
    refusal_due l r b e.Done i k = absurd (keeps_or l text d r (ended_keeps k) b)
    refusal_due l r b e.Deadlock i k = absurd (keeps_or l text d r (ended_keeps k) b)
    refusal_due l r b e.Fault i k = absurd (keeps_or l text d r (ended_keeps k) b)
    refusal_due l r b e.NoEnd i k = absurd (keeps_or l text d r (replay_keeps k) b)
    refusal_due l r b e.LongJournal i (c, u, h) = absurd (keeps_or l text d r (followed_keeps c u h.kept) b)
    refusal_due l r b (e.BadJournal n) i (c, u, h) = absurd (keeps_or l text d r (followed_keeps c u h.kept) b)
    refusal_due l r b (e.Unfit n) i (c, u, h) = absurd (keeps_or l text d r (unfit_keeps c n u h) b)
    refusal_due l r b e.LongCode i (c, u, h) = absurd (keeps_or l text d r (long_keeps c u h) b)
    refusal_due l r b e.LongFile i (c, u, h) = absurd (executed_breaks c u r b)
    refusal_due l r b (e.BadCode n) i (c, u, h) = absurd (executed_breaks c u r b)
    refusal_due l r b (e.Rejected v i) j (c, u, h) = absurd (executed_breaks c u r b)
    refusal_due l r b e.Accepted i (c, u, h) = absurd
        (keeps_or l text d r (made_keeps d text h.output h.line (makes c u h)) b)
    refusal_due l r b (e.Refused q) i (c, u, h) = inl (
      refl,
      ap (λ (z : Answer). z.notes) h.answer
          ∙ ap refusal_text (one_break l text d h.refusal r (breaks c u h) b),
    )
    refusal_due l r b e.BadWords i k = absurd (no_command _ _ v k)
    refusal_due l r b e.ReadFault i k = inr (omega arith, omega arith)
    refusal_due l r b e.TooLong i k = inr (omega arith, omega arith)
    refusal_due l r b e.OutOfMemory i k = inr (omega arith, omega arith)

    pub refused_only : (x : Ending) → Why x → status_of x ≡ 1 → (r : Refusal) × FirstBrokenFor d text r
    refused_only (e.Refused q) (c, u, h) i = (h.refusal, breaks c u h)
    refused_only _ k i = absurd (omega arith)

    -- where a program has run, or the text is accepted, no rule is broken
    pub kept_by : (x : Ending) → Why x → IsFinal (status_of x) → AcceptedFor d text
    kept_by e.Done k i = ended_keeps k
    kept_by e.Deadlock k i = ended_keeps k
    kept_by e.Fault k i = ended_keeps k
    kept_by e.NoEnd k i = replay_keeps k
    kept_by e.Accepted (c, u, h) i = made_keeps d text h.output h.line (makes c u h)
    kept_by _ k (inl i) = absurd (omega arith)
    kept_by _ k (inr (inl i)) = absurd (omega arith)
    kept_by _ k (inr (inr i)) = absurd (omega arith)

    not_ran : asks_text d → HasRanFor f s reports w a → ⊥
    not_ran q (c, u, inl (asked, p, h)) = subst asks_text (sym (one_command w d c v u) ∙ p) q
    not_ran q (c, u, inr (size, workers, p, h)) = subst asks_text (sym (one_command w d c v u) ∙ p) q

    not_followed_by : asks_text d → (b : ReplayRequest) → w ≡ Some (command.Replay b) → ⊥
    not_followed_by q b u = subst asks_text (sym (one_command w d (command.Replay b) v u)) q

    not_executed_by : asks_text d → (b : ExecRequest) → w ≡ Some (command.Exec b) → ⊥
    not_executed_by q b u = subst asks_text (sym (one_command w d (command.Exec b) v u)) q

    not_ended : asks_text d → HasEnded f s reports w a → ⊥
    not_ended q (inl k) = not_ran q k
    not_ended q (inr (inl k)) = not_followed_by q k.0 k.1
    not_ended q (inr (inr k)) = not_executed_by q k.0 k.1

    pub made_only : asks_text d → (x : Ending) → Why x → status_of x ≡ 0 → (h : HasMadeOutput f d a)
        × Makes d text h.output h.line
    made_only q e.Done k i = absurd (not_ended q k)
    made_only q e.NoEnd k i = absurd (not_followed_by q k.0 k.1)
    made_only q e.Accepted (c, u, h) i = subst (λ (y : Command). (z : HasMadeOutput f y a)
        × Makes d text z.output z.line) (one_command w d c v u) (h, makes c u h)
    made_only q _ k i = absurd (omega arith)

    -- the code is too long exactly where that is said
    pub long_only : asks_build d → (x : Ending) → Why x → status_of x ≡ 10 → HasLongCode text
    long_only q e.LongCode (c, u, h) i = (long_code c u h).1
    long_only q e.LongFile (c, u, h) i = absurd (not_executed_by (build_text d q) c u)
    long_only q (e.BadCode n) (c, u, h) i = absurd (not_executed_by (build_text d q) c u)
    long_only q (e.Rejected r n) (c, u, h) i = absurd (not_executed_by (build_text d q) c u)
    long_only q _ k i = absurd (omega arith)

    pub long_code_due : asks_build d → Laws → HasLongCode text → (x : Ending) → Why x → Due_status x 10
    long_code_due q l m e.Done k = absurd (not_ended (build_text d q) k)
    long_code_due q l m e.Deadlock k = absurd (not_ended (build_text d q) k)
    long_code_due q l m e.Fault k = absurd (not_ended (build_text d q) k)
    long_code_due q l m e.LongCode k = inl refl
    long_code_due q l m e.LongFile k = inl refl
    long_code_due q l m (e.BadCode n) k = inl refl
    long_code_due q l m (e.Rejected r n) k = inl refl
    long_code_due q l m e.Accepted (c, u, h) = absurd (build_short l d text h.output h.line q (makes c u h) m)
    long_code_due q l m (e.Refused r) (c, u, h) =
        absurd (keeps_or l text d h.refusal (build_keeps d text q (code_text_keeps text m.0 m.1)) (breaks c u h))
    long_code_due q l m e.BadWords k = absurd (no_command _ _ v k)
    long_code_due q l m e.ReadFault k = inr (omega arith, omega arith)
    long_code_due q l m e.TooLong k = inr (omega arith, omega arith)
    long_code_due q l m e.OutOfMemory k = inr (omega arith, omega arith)
    long_code_due q _ _ _ k = absurd (not_followed_by (build_text d q) k.0 k.1)

    pub made_due : asks_text d → Laws → ((out line : List ℕ) × Makes d text out line) → (x : Ending) → Why x
        → Due_status x 0
    made_due q l m e.Done k = inl refl
    made_due q l m e.NoEnd k = inl refl
    made_due q l m e.Deadlock k = absurd (not_ended q k)
    made_due q l m e.Fault k = absurd (not_ended q k)
    made_due q l m e.LongJournal k = absurd (not_followed_by q k.0 k.1)
    made_due q l m (e.BadJournal n) k = absurd (not_followed_by q k.0 k.1)
    made_due q l m (e.Unfit n) k = absurd (not_followed_by q k.0 k.1)
    made_due q l m e.LongFile k = absurd (not_executed_by q k.0 k.1)
    made_due q l m (e.BadCode n) k = absurd (not_executed_by q k.0 k.1)
    made_due q l m (e.Rejected r n) k = absurd (not_executed_by q k.0 k.1)
    made_due q l m e.LongCode (c, u, h) = let x = long_code c u h in absurd (build_short l d text m.0 m.1 x.0 m.2 x.1)
    made_due q l m e.Accepted k = inl refl
    made_due q l m (e.Refused r) (c, u, h) = absurd
        (keeps_or l text d h.refusal (made_keeps d text m.0 m.1 m.2) (breaks c u h))
    made_due q l m e.BadWords k = absurd (no_command _ _ v k)
    made_due q l m e.ReadFault k = inr (omega arith, omega arith)
    made_due q l m e.TooLong k = inr (omega arith, omega arith)
    made_due q l m e.OutOfMemory k = inr (omega arith, omega arith)

    -- what comes of a text that is kept where nothing fails outside
    module _ (l : Laws) (kept : AcceptedFor d text)
        (library : (name : List ℕ) → LoadsText f.held d name → Rose (f.before name) (f.after name)
        → ⊥) (source : Rose s.before s.after → ⊥)
        (fits : CanRead f.held d → (input : List ℕ) × (s.left ≡ Some input) × (length input ≤ 16777216)) where
      replay_asked : (b : ReplayRequest) → w ≡ Some (command.Replay b) → asks_replay d
      replay_asked b u = subst asks_replay (one_command w d (command.Replay b) v u) tt

      read_well : (c : Command) → w ≡ Some c → IsNotLoaded f c a ⊎ IsNotRead f s c a → ⊥
      read_well c u (inl h) = library h.name
          (subst (λ (x : Command). LoadsText f.held x h.name) (one_command w d c v u) h.loads) h.rose
      read_well c u (inr h) = source h.rose

      long_well : (c : Command) → w ≡ Some c → IsLongInput f s c a → ⊥
      long_well c u h =
          let i = fits (subst (λ (x : Command). CanRead f.held x) (one_command w d c v u) h.reads) in
          let k : IsTooLong i.0 = if_told IsTooLong s.left i.0 i.1 h.long in
          not_too_long i.0 i.0 refl i.2 k

      -- a code file of which a sound code comes is not at fault
      file_kept : (b : ExecRequest) → w ≡ Some (command.Exec b) → IsSoundFile text
      file_kept b u = subst (λ (x : Command). AcceptedFor x text)
          (sym (one_command w d (command.Exec b) v u)) kept

      long_file : (b : ExecRequest) → w ≡ Some (command.Exec b) → IsLongFile f b a → ⊥
      long_file b u h = not_long text (file_kept b u) (of_text (λ x. 67108864 < length x) (command.Exec b) u
          h.long)

      bad_file : (b : ExecRequest) → w ≡ Some (command.Exec b) → (n : ℕ) → IsBadCode f b n a → ⊥
      bad_file b u n h = not_bad h.bytes n
          (subst IsSoundFile (sym (of_text (λ x. h.bytes ≡ x) (command.Exec b) u h.loaded))
          (file_kept b u)) h.bad

      rejected_file : (b : ExecRequest) → w ≡ Some (command.Exec b) → (r : VRule) (n : ℕ)
          → IsRejectedCode f b r n a → ⊥
      rejected_file b u r n h =
          not_rejected l h.code h.bytes
          (subst IsSoundFile (sym (of_text (λ x. h.bytes ≡ x) (command.Exec b) u h.loaded))
          (file_kept b u)) h.text (rule_of r) n h.rejected

      pub ends_well : (x : Ending) → Why x → IsRegularStatus d (status_of x)
      ends_well e.Done k = inl (inl refl)
      ends_well e.Deadlock k = inl (inr (inr refl))
      ends_well e.Fault k = inl (inr (inl refl))
      ends_well e.NoEnd k = inl (inl refl)
      ends_well e.Accepted k = inl (inl refl)
      ends_well (e.Refused r) (c, u, h) = absurd (keeps_or l text d h.refusal kept (breaks c u h))
      ends_well e.BadWords k = absurd (no_command _ _ v k)
      ends_well e.ReadFault (c, u, h) = absurd (read_well c u h)
      ends_well e.TooLong (b, u, h) = absurd (long_well b u h)
      ends_well e.OutOfMemory k = inr (inl refl)
      ends_well e.LongJournal k = inr (inr (inl (replay_asked k.0 k.1, refl)))
      ends_well (e.BadJournal n) k = inr (inr (inl (replay_asked k.0 k.1, refl)))
      ends_well (e.Unfit n) k = inr (inr (inl (replay_asked k.0 k.1, refl)))
      ends_well e.LongCode (c, u, h) = inr (inr (inr ((long_code c u h).0, refl)))
      ends_well e.LongFile (c, u, h) = absurd (long_file c u h)
      ends_well (e.BadCode n) (c, u, h) = absurd (bad_file c u n h)
      ends_well (e.Rejected r n) (c, u, h) = absurd (rejected_file c u r n h)

  -- a command with a run, where the status is that of one
  followed_or_run : (d : Command) → w ≡ Some d → asks_run d → HasReplayedFor f s reports w a → ⊥
  followed_or_run d v n (b, u, h) = subst asks_run (sym (one_command w d (command.Replay b) v u)) n

  executed_or_run : (d : Command) → w ≡ Some d → asks_run d → HasExecutedFor f s reports w a → ⊥
  executed_or_run d v n (b, u, h) = subst asks_run (sym (one_command w d (command.Exec b) v u)) n

  ended_there : (d : Command) → w ≡ Some d → asks_run d → HasEnded f s reports w a → (r : Ran) × (a.ran ≡ Some r)
  ended_there d v n (inl (c, u, h)) = ran_there c h
  ended_there d v n (inr (inl k)) = absurd (followed_or_run d v n k)
  ended_there d v n (inr (inr k)) = absurd (executed_or_run d v n k)

  pub run_there : (d : Command) → w ≡ Some d → asks_run d → (x : Ending) → Why x → IsFinal (status_of x) → (r : Ran)
      × (a.ran ≡ Some r)
  run_there d v n e.Done k i = ended_there d v n k
  run_there d v n e.Deadlock k i = ended_there d v n k
  run_there d v n e.Fault k i = ended_there d v n k
  run_there d v n e.NoEnd k i = absurd (followed_or_run d v n k)
  run_there d v n e.Accepted (c, u, h) i = absurd
      (text_or_run d (subst asks_text (one_command w d c v u) (made_asks c h.text h.output h.line h.makes)) n)
  run_there d v n _ k (inl i) = absurd (omega arith)
  run_there d v n _ k (inr (inl i)) = absurd (omega arith)
  run_there d v n _ k (inr (inr i)) = absurd (omega arith)

  -- too long an input for a text that is kept
  module _ (b : RunRequest) (text : List ℕ) (v : w ≡ Some (command.Run b)) (t : f.held b.file ≡ Some text) (l : Laws)
      (kept : IsAcceptedText text)
      (input : List ℕ) (left : s.left ≡ Some input) (long : IsTooLong input) where
    text_is : text_of f.held (command.Run b) ≡ Some text
    text_is = t

    fits_not : (d : Command) → w ≡ Some d → IsRanBy f s reports w a d → ⊥
    fits_not d u (inl (asked, p, h)) =
        let same : h.input ≡ input = told_of s.left h.input input left h.read in
        not_too_long h.input input same h.fits long
    fits_not d u (inr (size, workers, p, h)) = not_gen b size workers (one_command w d (command.Run b) u v ∙ p)

    followed_not : (x : ReplayRequest) → w ≡ Some (command.Replay x) → ⊥
    followed_not x u = not_run x b (one_command w (command.Run b) (command.Replay x) v u)

    executed_not : (x : ExecRequest) → w ≡ Some (command.Exec x) → ⊥
    executed_not x u = not_exec b x (one_command w (command.Exec x) (command.Run b) u v)

    ended_not : HasEnded f s reports w a → ⊥
    ended_not (inl (c, u, h)) = fits_not c u h
    ended_not (inr (inl k)) = followed_not k.0 k.1
    ended_not (inr (inr k)) = executed_not k.0 k.1

    pub long_due : (x : Ending) → Why x → IsOutside (status_of x)
    long_due e.Done k = absurd (ended_not k)
    long_due e.Deadlock k = absurd (ended_not k)
    long_due e.Fault k = absurd (ended_not k)
    long_due e.LongFile k = absurd (executed_not k.0 k.1)
    long_due (e.BadCode n) k = absurd (executed_not k.0 k.1)
    long_due (e.Rejected r n) k = absurd (executed_not k.0 k.1)
    long_due e.LongCode (c, u, h) = absurd ((long_code (command.Run b) text v text_is c u h).0)
    long_due e.Accepted (c, u, h) = absurd (makes (command.Run b) text v text_is c u h)
    long_due (e.Refused r) (c, u, h) = absurd
        (kept_or l text h.refusal kept (breaks (command.Run b) text v text_is c u h))
    long_due e.BadWords k = absurd (no_command _ _ v k)
    long_due e.ReadFault k = (omega arith, omega arith)
    long_due e.TooLong k = (omega arith, omega arith)
    long_due e.OutOfMemory k = (omega arith, omega arith)
    long_due _ k = absurd (followed_not k.0 k.1)

  -- what comes of a journal and a text that is kept
  pub data ReplayCause (b : ReplayRequest) (x : Ending) : Type 0 where
    came_followed : HasReplayed f s b a → ReplayCause b x
    came_unfit : (n : ℕ) → IsUnfit f s b n a → ReplayCause b x
    came_bad : (n : ℕ) → IsBadJournal f b n a → ReplayCause b x
    came_long : IsLongJournal f b a → ReplayCause b x
    came_outside : IsOutside (status_of x) → ReplayCause b x

  module _ (b : ReplayRequest) (text : List ℕ) (v : w ≡ Some (command.Replay b))
      (t : f.held b.file ≡ Some text) where
    this : (P : ReplayRequest → Type 0) (x : ReplayRequest) → w ≡ Some (command.Replay x) → P x → P b
    this P x u h = subst P (one_followed b x (one_command w (command.Replay b) (command.Replay x) v u)) h

    replayed_by : HasReplayedFor f s reports w a → HasReplayed f s b a
    replayed_by (x, u, h) = this (λ y. HasReplayed f s y a) x u h

    not_ran_here : HasRanFor f s reports w a → ⊥
    not_ran_here (c, u, inl (asked, p, h)) = not_run b asked (sym (one_command w (command.Replay b) c v u) ∙ p)
    not_ran_here (c, u, inr (size, workers, p, h)) =
        not_generated b size workers (sym (one_command w (command.Replay b) c v u)
        ∙ p)

    not_executed_here : (x : ExecRequest) → w ≡ Some (command.Exec x) → ⊥
    not_executed_here x u = apart (one_command w (command.Exec x) (command.Replay b) u v)
      where
        apart : command.Replay b ≡ command.Exec x → ⊥
        apart h = cc

    ended_here : HasEnded f s reports w a → HasReplayed f s b a
    ended_here (inl k) = absurd (not_ran_here k)
    ended_here (inr (inl k)) = replayed_by k
    ended_here (inr (inr k)) = absurd (not_executed_here k.0 k.1)

    pub came : Laws → IsAcceptedText text → (x : Ending) → Why x → ReplayCause b x
    came l kept e.Done k = came_followed (ended_here k)
    came l kept e.Deadlock k = came_followed (ended_here k)
    came l kept e.Fault k = came_followed (ended_here k)
    came l kept e.NoEnd k = came_followed (replayed_by k)
    came l kept e.Accepted (c, u, h) = absurd (makes (command.Replay b) text v t c u h)
    came l kept (e.Refused r) (c, u, h) =
        absurd (kept_or l text h.refusal kept (breaks (command.Replay b) text v t c u h))
    came l kept e.BadWords k = absurd (no_command _ _ v k)
    came l kept e.ReadFault k = came_outside (omega arith, omega arith)
    came l kept e.TooLong k = came_outside (omega arith, omega arith)
    came l kept e.OutOfMemory k = came_outside (omega arith, omega arith)
    came l kept e.LongJournal (x, u, h) = came_long (this (λ y. IsLongJournal f y a) x u h)
    came l kept (e.BadJournal n) (x, u, h) = came_bad n (this (λ y. IsBadJournal f y n a) x u h)
    came l kept (e.Unfit n) (x, u, h) = came_unfit n (this (λ y. IsUnfit f s y n a) x u h)
    came l kept e.LongCode (c, u, h) = absurd (long_code (command.Replay b) text v t c u h).0
    came l kept e.LongFile k = absurd (not_executed_here k.0 k.1)
    came l kept (e.BadCode n) k = absurd (not_executed_here k.0 k.1)
    came l kept (e.Rejected r n) k = absurd (not_executed_here k.0 k.1)

    -- a final status comes where it was followed
    pub followed_only : (x : Ending) → Why x → IsFinal (status_of x) → HasReplayed f s b a
    followed_only e.Done k i = ended_here k
    followed_only e.Deadlock k i = ended_here k
    followed_only e.Fault k i = ended_here k
    followed_only e.NoEnd k i = replayed_by k
    followed_only e.Accepted (c, u, h) i = absurd (makes (command.Replay b) text v t c u h)
    followed_only _ k (inl i) = absurd (omega arith)
    followed_only _ k (inr (inl i)) = absurd (omega arith)
    followed_only _ k (inr (inr i)) = absurd (omega arith)

  -- why a code file is not written, or not run
  abbrev pub Code_refused : Type 0
  Code_refused = (d : Command) × (w ≡ Some d)
      × ((asks_build d × IfSome (text_of f.held d) HasLongCode) ⊎ ((b : ExecRequest) × (d ≡ command.Exec b)))

  pub long_said : (x : Ending) → Why x → status_of x ≡ 10 → Code_refused
  long_said e.LongCode (d, v, h) i =
      (d, v, inl (h.builds, when_told HasLongCode (text_of f.held d) h.text h.loaded h.long))
  long_said e.LongFile (b, v, h) i = (command.Exec b, v, inr (b, refl))
  long_said (e.BadCode n) (b, v, h) i = (command.Exec b, v, inr (b, refl))
  long_said (e.Rejected r n) (b, v, h) i = (command.Exec b, v, inr (b, refl))
  long_said _ k i = absurd (omega arith)

  -- why a journal is refused
  abbrev pub Refused_journal : Type 0
  Refused_journal = (b : ReplayRequest) × (w ≡ Some (command.Replay b)) × IfSome (f.held b.file) IsAcceptedText
      × (IfSome (f.held b.journal) IsNoJournal
      ⊎ ((h : HasRead f s b) × (n : ℕ) × IsUnfitFor h.text h.input b.limits h.journal n))

  pub journal_refused : (x : Ending) → Why x → status_of x ≡ 9 → Refused_journal
  journal_refused e.LongJournal (b, u, h) i =
      (b, u, h.kept, inl (if_mapped _ IsNoJournal (f.held b.journal) (λ x m. inl m) h.long))
  journal_refused (e.BadJournal n) (b, u, h) i =
      (b, u, h.kept, inl (if_mapped _ IsNoJournal (f.held b.journal) (λ x m. inr m) h.no_text))
  journal_refused (e.Unfit n) (b, u, h) i = (
    b,
    u,
    when_told IsAcceptedText (f.held b.file) h.has_read.text h.has_read.loaded
        (tree_keeps h.has_read.text h.is_unfit.tree h.is_unfit.has),
    inr (h.has_read, n, h.is_unfit),
  )
  journal_refused _ k i = absurd (omega arith)
