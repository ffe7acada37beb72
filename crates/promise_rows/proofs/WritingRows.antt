-- What is written.
use Rattle.std.proofs.Common.{◌≡◌, ◌≢◌, ◌⊎◌, inl, inr, ℕ, List, [], ◌∷◌, ◌++◌, length, Some, ◌∙◌, ap, arith}
use Rattle.std.specs.Prelude.{codes, decimal}
use Rattle.sp_execute.specs.declared.execution.Ran.{Ran}
use Rattle.sp_base.specs.declared.limits.Show.TheVariants as show
use Rattle.sp_journal.specs.declared.entry.Entry.{Entry}
use Rattle.sp_journal.specs.declared.entry.Journal.{Journal}
use Rattle.sp_journal.specs.declared.outcome.End.{End}
use Rattle.sp_journal.specs.declared.outcome.End.TheVariants as end
use Rattle.sp_journal.specs.declared.outcome.Verdict.{Verdict}
use Rattle.sp_journal.specs.declared.outcome.Verdict.TheVariants as verdict
use Rattle.sp_journal.specs.declared.version.Version.TheVariants as version
use Rattle.sp_journal.specs.Texts.{journal_text}
use Rattle.sp_print.specs.OutcomeLines.{end_text, verdict_text}
use Rattle.sp_words.specs.Words.{command_of}
use Rattle.superpascal.specs.Answers.{status_of}
use Rattle.superpascal.specs.Calls.{Call}
use Rattle.superpascal.specs.Runs.{end_lines, ending_of, generated_output}
use Rattle.promise_rows.specs.Files.{one_end, root_waits}
use Rattle.promise_rows.specs.Observations.{Observed}
use Rattle.promise_rows.proofs.AskedWords.{a_run, a_shown_run, gen_words, run_words, show_words}
use Rattle.promise_rows.proofs.Lines.{line_of_5, seven_text, three_text, zero_text}
use Rattle.promise_rows.proofs.Seen.{told_line, whole_notes, whole_output}

abbrev generated_with : List ℕ → List ℕ → List ℕ → List ℕ → List ℕ
generated_with size output entries lines = codes "size " ++ size ++ codes "\noutput " ++ output ++ codes "\nentries "
    ++ entries ++ codes "\n" ++ lines

-- the lines of the deadlock, with the number of the channel
abbrev waits_with : List ℕ → List ℕ
waits_with number = codes "deadlock\n" ++ ((codes "waits " ++ codes "0" ++ codes " " ++ codes "receive" ++ codes " "
    ++ (codes "0" ++ codes "#" ++ number) ++ codes "\n") ++ [])

module _ {c : Call} {input out notes : List ℕ} where
  pub a_generated_run_is_told : Observed c (codes "gen" ∷ codes "7" ∷ []) input out notes → (r : Ran)
      → c.outcome.ran ≡ Some r → r.closed.output ≡ codes "42" → length r.closed.journal.entries ≡ 3
      → r.closed.end ≡ end.Done → r.verdict ≡ verdict.Ordered → c.outcome.status ≢ 6
      → (out ≡ codes "size 7\noutput 42\nentries 3\ndone\nordered\n") × (notes ≡ [])
  a_generated_run_is_told o r e printed count done verdict n =
      let w = (o.promise.writing.generated 7 4 (ap command_of o.words ∙ gen_words) r e).whole n in
      let entries = decimal (length r.closed.journal.entries) in (
        whole_output o (generated_output 7 r) w.0
            ∙ ap (λ x. generated_with x r.closed.output entries (end_lines r)) seven_text
            ∙ ap (λ x. generated_with (codes "7") x entries (end_lines r)) printed
            ∙ ap (λ x. generated_with (codes "7") (codes "42") (decimal x) (end_lines r)) count
            ∙ ap (λ x. generated_with (codes "7") (codes "42") x (end_lines r)) three_text
            ∙ ap (λ (x : End). generated_with (codes "7") (codes "42") (codes "3")
            (end_text x ++ verdict_text r.verdict)) done
            ∙ ap (λ (x : Verdict). generated_with (codes "7") (codes "42") (codes "3")
            (codes "done\n" ++ verdict_text x)) verdict,
        whole_notes o [] w.1,
      )

  pub a_journal_is_shown : Observed c (codes "run" ∷ codes "--show" ∷ codes "journal" ∷ codes "a" ∷ []) input out notes
      → (r : Ran) → c.outcome.ran ≡ Some r → r.closed.journal ≡ one_end → c.outcome.status ≢ 6
      → (out ≡ r.closed.output) × (notes ≡ codes "superpascal journal 2\n0 end\n")
  a_journal_is_shown o r e j n =
      let w = (o.promise.writing.ran a_shown_run (ap command_of o.words ∙ show_words) r e).whole n in (
        whole_output o r.closed.output w.0,
        whole_notes o (journal_text version.Two r.closed.journal) w.1
            ∙ ap (λ (x : Journal). journal_text version.Two x) j,
      )

  pub a_read_fault_is_told : {words : List (List ℕ)} → Observed c words input out notes → c.outcome.status ≡ 5
      → (out ≡ []) × (notes ≡ codes "read fault\n")
  a_read_fault_is_told o e = told_line o 5 e (λ z. omega (arith, z)) (λ z. omega (arith, z)) (λ z. omega (arith, z))
      (λ z. omega (arith, z)) (codes "read fault\n") line_of_5

  pub a_deadlock_is_told : Observed c (codes "run" ∷ codes "a" ∷ []) input out notes
      → ((es : List Entry) → c.reports show.End es ≡ []) → (r : Ran) → c.outcome.ran ≡ Some r
      → r.closed.end ≡ end.Deadlock (root_waits ∷ []) → r.verdict ≡ verdict.Ordered → c.outcome.status ≢ 6
      → (c.outcome.status ≡ 4) × (notes ≡ codes "deadlock\nwaits 0 receive 0#0\nordered\n")
  a_deadlock_is_told o told r e last verdict n =
      let w = (o.promise.writing.ran a_run (ap command_of o.words ∙ run_words) r e).whole n in
      let reports = c.reports show.End r.closed.journal.entries in (
        status (o.promise.statuses.by_end r e),
        whole_notes o ((end_text r.closed.end ++ verdict_text r.verdict) ++ reports) w.1
            ∙ ap (λ (x : End). (end_text x ++ verdict_text r.verdict) ++ reports) last
            ∙ ap (λ (x : Verdict). (end_text (end.Deadlock (root_waits ∷ [])) ++ verdict_text x) ++ reports) verdict
            ∙ ap (λ (x : List ℕ). (end_text (end.Deadlock (root_waits ∷ [])) ++ codes "ordered\n") ++ x)
            (told r.closed.journal.entries)
            ∙ ap (λ x. (waits_with x ++ codes "ordered\n") ++ []) zero_text,
      )
    where
      status : (c.outcome.status ≡ status_of (ending_of r.closed.end)) ⊎ (c.outcome.status ≡ 6) → c.outcome.status ≡ 4
      status (inl h) = h ∙ ap (λ (x : End). status_of (ending_of x)) last
      status (inr h) = absurd (n h)
