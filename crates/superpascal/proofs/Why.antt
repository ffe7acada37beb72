-- Why an answer is due, by its ending: it leads from an ending to its cause.
use Rattle.std.proofs.Common.{◌≡◌, ◌⊎◌, inl, inr, ℕ, Option, Some, None, refl, sym, ◌∙◌, ap, subst}
use Rattle.std.proofs.lemmas.Option.{none-some, same_Some}
use Rattle.sp_execute.specs.declared.execution.Ran.{Ran}
use Rattle.sp_journal.specs.declared.outcome.End.{End}
use Rattle.sp_journal.specs.declared.outcome.End.TheVariants as ends
use Rattle.sp_kernel.specs.declared.closed.Closed.{Closed}
use Rattle.sp_words.specs.declared.command.Command.{Command}
use Rattle.sp_words.specs.declared.command.Command.TheVariants as command
use Rattle.sp_words.specs.declared.requests.RunRequest.{RunRequest}
use Rattle.sp_words.specs.declared.requests.ExecRequest.{ExecRequest}
use Rattle.sp_words.specs.declared.requests.ReplayRequest.{ReplayRequest}
use Rattle.superpascal.specs.declared.ending.Ending.{Ending}
use Rattle.superpascal.specs.declared.ending.Ending.TheVariants as e
use Rattle.superpascal.specs.declared.ending.Answer.{Answer}
use Rattle.superpascal.specs.AnswerParts.{HasEndLines}
use Rattle.superpascal.specs.Causes.{Cause, by_words, before_words, by_command, Due, by_run, by_generated, by_text}
use Rattle.superpascal.specs.Causes.{by_code, by_rule, by_library, by_source, by_length, by_memory, by_replay, by_entry}
use Rattle.superpascal.specs.Causes.{by_line, by_size, by_execution, by_long_file, by_code_line, by_rejection, Files}
use Rattle.superpascal.specs.Causes.{HasExecuted, HasGenerated, HasMadeOutput, HasReplayed, HasRun, IsBadCode}
use Rattle.superpascal.specs.Causes.{IsBadJournal}
use Rattle.superpascal.specs.Causes.{IsLongCode, IsLongFile, IsLongJournal, IsNotLoaded, IsNotRead, IsRefusedFor}
use Rattle.superpascal.specs.Causes.{IsRejectedCode, IsLongInput, IsUnfit, Stream, answer_without_output}
use Rattle.superpascal.specs.Executions.{execution_answer}
use Rattle.superpascal.specs.Replays.{ending_of_replay, replay_answer}
use Rattle.superpascal.specs.Runs.{Reports, ending_of, generated_answer, run_answer}
use Rattle.superpascal.proofs.Tellable.{EndHasLines, ends_of, execution_ends, replay_ends}

module _ (f : Files) (s : Stream) (reports : Reports) (w : Option Command) (a : Answer) where
  -- a program has run for this command
  abbrev pub IsRanBy : Command → Type 0
  IsRanBy d = ((asked : RunRequest) × (d ≡ command.Run asked) × HasRun f s reports asked a)
      ⊎ ((size workers : ℕ) × (d ≡ command.Gen size workers) × HasGenerated size workers a)

  abbrev pub HasRanFor : Type 0
  HasRanFor = (d : Command) × (w ≡ Some d) × IsRanBy d

  -- a journal was followed for this command
  abbrev pub HasReplayedFor : Type 0
  HasReplayedFor = (asked : ReplayRequest) × (w ≡ Some (command.Replay asked)) × HasReplayed f s asked a

  -- a code file has run for this command
  abbrev pub HasExecutedFor : Type 0
  HasExecutedFor = (asked : ExecRequest) × (w ≡ Some (command.Exec asked)) × HasExecuted f s asked a

  -- a program or a code file came to its end, in a run or along a journal
  abbrev pub HasEnded : Type 0
  HasEnded = HasRanFor ⊎ (HasReplayedFor ⊎ HasExecutedFor)

  abbrev pub why : Ending → Type 0
  why e.Done = HasEnded
  why e.Deadlock = HasEnded
  why e.Fault = HasEnded
  why e.NoEnd = HasReplayedFor
  why e.Accepted = (d : Command) × (w ≡ Some d) × HasMadeOutput f d a
  why (e.Refused r) = (d : Command) × (w ≡ Some d) × IsRefusedFor f d a
  why e.BadWords = w ≡ None
  why e.ReadFault = (d : Command) × (w ≡ Some d) × (IsNotLoaded f d a ⊎ IsNotRead f s d a)
  why e.TooLong = (d : Command) × (w ≡ Some d) × IsLongInput f s d a
  why e.OutOfMemory = a ≡ answer_without_output e.OutOfMemory
  why e.LongJournal = (asked : ReplayRequest) × (w ≡ Some (command.Replay asked)) × IsLongJournal f asked a
  why (e.BadJournal n) = (asked : ReplayRequest) × (w ≡ Some (command.Replay asked)) × IsBadJournal f asked n a
  why (e.Unfit n) = (asked : ReplayRequest) × (w ≡ Some (command.Replay asked)) × IsUnfit f s asked n a
  why e.LongCode = (d : Command) × (w ≡ Some d) × IsLongCode f d a
  why e.LongFile = (asked : ExecRequest) × (w ≡ Some (command.Exec asked)) × IsLongFile f asked a
  why (e.BadCode n) = (asked : ExecRequest) × (w ≡ Some (command.Exec asked)) × IsBadCode f asked n a
  why (e.Rejected v i) = (asked : ExecRequest) × (w ≡ Some (command.Exec asked)) × IsRejectedCode f asked v i a

  by_end : (x : End) → EndHasLines x → HasEnded → why (ending_of x)
  by_end ends.Done p h = h
  by_end (ends.Deadlock ws) p h = h
  by_end (ends.Fault n y) p h = h
  by_end ends.Memory p h = absurd p

  by_replay_end : (o : Option End) → HasEndLines o → HasReplayedFor → why (ending_of_replay o)
  by_replay_end None p h = h
  by_replay_end (Some x) p h = by_end x p (inr (inl h))

  -- the ending of an answer that is known
  at : (b : Answer) → a ≡ b → why b.ending → why a.ending
  at b h k = subst why (sym (ap (λ (z : Answer). z.ending) h)) k

  why_due : (d : Command) → w ≡ Some d → Due f s reports d a → why a.ending
  why_due d v (by_run asked p h) = at (run_answer reports asked.telling h.ran) h.answer
      (by_end h.ran.closed.end (ends_of _ _ _ _ h.ran h.is_run) (inl (d, v, inl (asked, p, h))))
  why_due d v (by_generated size workers p h) = at (generated_answer size h.ran) h.answer
      (by_end h.ran.closed.end (ends_of _ _ _ _ h.ran h.is_run) (inl (d, v, inr (size, workers, p, h))))
  why_due d v (by_text h) = at _ h.answer (d, v, h)
  why_due d v (by_code h) = at _ h.answer (d, v, h)
  why_due d v (by_rule h) = at _ h.answer (d, v, h)
  why_due d v (by_library h) = at _ h.answer (d, v, inl h)
  why_due d v (by_source h) = at _ h.answer (d, v, inr h)
  why_due d v (by_length h) = at _ h.answer (d, v, h)
  why_due d v (by_replay asked p h) = at (replay_answer h.replayed.end h.out) h.answer
      (by_replay_end h.replayed.end (replay_ends _ _ _ _ h.replayed h.is_replay) (asked, v ∙ ap Some p, h))
  why_due d v (by_entry asked n p h) = at _ h.answer (asked, v ∙ ap Some p, h)
  why_due d v (by_line asked n p h) = at _ h.answer (asked, v ∙ ap Some p, h)
  why_due d v (by_size asked p h) = at _ h.answer (asked, v ∙ ap Some p, h)
  why_due d v (by_execution asked p h) =
      at (execution_answer h.run) h.answer
      (by_end h.run.end (execution_ends _ _ _ h.run h.is_execution) (inr (inr (asked, v ∙ ap Some p, h))))
  why_due d v (by_long_file asked p h) = at _ h.answer (asked, v ∙ ap Some p, h)
  why_due d v (by_code_line asked n p h) = at _ h.answer (asked, v ∙ ap Some p, h)
  why_due d v (by_rejection asked rule i p h) = at _ h.answer (asked, v ∙ ap Some p, h)
  why_due d v (by_memory h) = at _ h h

  pub why_of : Cause f s reports w a → why a.ending
  why_of (by_words n h u) = at _ h n
  why_of (before_words h u) = at _ h h
  why_of (by_command d v due reads) = why_due d v due

  -- a run that is given back has run for the command
  no_run : (b : Answer) (r : Ran) → a ≡ b → b.ran ≡ None → a.ran ≡ Some r → ⊥
  no_run b r h n k = none-some r (sym n ∙ sym (ap (λ (z : Answer). z.ran) h) ∙ k)

  ran_due : (d : Command) (r : Ran) → Due f s reports d a → a.ran ≡ Some r → IsRanBy d
  ran_due d r (by_run asked p h) k = inl (asked, p, h)
  ran_due d r (by_generated size workers p h) k = inr (size, workers, p, h)
  ran_due d r (by_text h) k = absurd (no_run _ r h.answer refl k)
  ran_due d r (by_code h) k = absurd (no_run _ r h.answer refl k)
  ran_due d r (by_rule h) k = absurd (no_run _ r h.answer refl k)
  ran_due d r (by_library h) k = absurd (no_run _ r h.answer refl k)
  ran_due d r (by_source h) k = absurd (no_run _ r h.answer refl k)
  ran_due d r (by_length h) k = absurd (no_run _ r h.answer refl k)
  ran_due d r (by_replay asked p h) k = absurd (no_run _ r h.answer refl k)
  ran_due d r (by_entry asked n p h) k = absurd (no_run _ r h.answer refl k)
  ran_due d r (by_line asked n p h) k = absurd (no_run _ r h.answer refl k)
  ran_due d r (by_size asked p h) k = absurd (no_run _ r h.answer refl k)
  ran_due d r (by_execution asked p h) k = absurd (no_run _ r h.answer refl k)
  ran_due d r (by_long_file asked p h) k = absurd (no_run _ r h.answer refl k)
  ran_due d r (by_code_line asked n p h) k = absurd (no_run _ r h.answer refl k)
  ran_due d r (by_rejection asked rule i p h) k = absurd (no_run _ r h.answer refl k)
  ran_due d r (by_memory h) k = absurd (no_run _ r h refl k)

  pub ran_of : (r : Ran) → Cause f s reports w a → a.ran ≡ Some r → HasRanFor
  ran_of r (by_words n h u) k = absurd (no_run _ r h refl k)
  ran_of r (before_words h u) k = absurd (no_run _ r h refl k)
  ran_of r (by_command d v due reads) k = (d, v, ran_due d r due k)

  -- a run of a code file that is given back has run for the command
  no_file : (b : Answer) (r : Closed) → a ≡ b → b.executed ≡ None → a.executed ≡ Some r → ⊥
  no_file b r h n k = none-some r (sym n ∙ sym (ap (λ (z : Answer). z.executed) h) ∙ k)

  executed_due : (d : Command) (r : Closed) → Due f s reports d a → a.executed ≡ Some r → (asked : ExecRequest)
      × (d ≡ command.Exec asked) × HasExecuted f s asked a
  executed_due d r (by_run asked p h) k = absurd (no_file _ r h.answer refl k)
  executed_due d r (by_generated size workers p h) k = absurd (no_file _ r h.answer refl k)
  executed_due d r (by_text h) k = absurd (no_file _ r h.answer refl k)
  executed_due d r (by_code h) k = absurd (no_file _ r h.answer refl k)
  executed_due d r (by_rule h) k = absurd (no_file _ r h.answer refl k)
  executed_due d r (by_library h) k = absurd (no_file _ r h.answer refl k)
  executed_due d r (by_source h) k = absurd (no_file _ r h.answer refl k)
  executed_due d r (by_length h) k = absurd (no_file _ r h.answer refl k)
  executed_due d r (by_replay asked p h) k = absurd (no_file _ r h.answer refl k)
  executed_due d r (by_entry asked n p h) k = absurd (no_file _ r h.answer refl k)
  executed_due d r (by_line asked n p h) k = absurd (no_file _ r h.answer refl k)
  executed_due d r (by_size asked p h) k = absurd (no_file _ r h.answer refl k)
  executed_due d r (by_execution asked p h) k = (asked, p, h)
  executed_due d r (by_long_file asked p h) k = absurd (no_file _ r h.answer refl k)
  executed_due d r (by_code_line asked n p h) k = absurd (no_file _ r h.answer refl k)
  executed_due d r (by_rejection asked rule i p h) k = absurd (no_file _ r h.answer refl k)
  executed_due d r (by_memory h) k = absurd (no_file _ r h refl k)

  pub executed_of : (r : Closed) → Cause f s reports w a → a.executed ≡ Some r → HasExecutedFor
  executed_of r (by_words n h u) k = absurd (no_file _ r h refl k)
  executed_of r (before_words h u) k = absurd (no_file _ r h refl k)
  executed_of r (by_command d v due reads) k = let x = executed_due d r due k in (x.0, v ∙ ap Some x.1, x.2)

-- the run of a code file of an answer that is known
pub same_file : (a b : Answer) (x r : Closed) → a ≡ b → b.executed ≡ Some x → a.executed ≡ Some r → x ≡ r
same_file a b x r h k m = same_Some x r (sym k ∙ sym (ap (λ (z : Answer). z.executed) h) ∙ m)

-- the run of an answer that is known
pub same_ran : (a b : Answer) (x r : Ran) → a ≡ b → b.ran ≡ Some x → a.ran ≡ Some r → x ≡ r
same_ran a b x r h k m = same_Some x r (sym k ∙ sym (ap (λ (z : Answer). z.ran) h) ∙ m)
