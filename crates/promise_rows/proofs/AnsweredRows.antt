-- What stands of an answer that a failed write displaced.
use Rattle.std.proofs.Common.{◌≡◌, ◌≢◌, ◌⊎◌, inl, inr, ℕ, List, [], take}
use Rattle.superpascal.specs.declared.ending.Answer.{Answer}
use Rattle.superpascal.specs.Answers.{notes_of, output_of, status_of}
use Rattle.superpascal.specs.Calls.{Call, Failed, IsUnwritten, WroteAll}
use Rattle.promise_rows.specs.Observations.{Observed}
use Rattle.promise_rows.proofs.Seen.{no_notes, no_rise, part_of_notes, part_of_output, whole_notes, whole_output}

module _ {c : Call} {words : List (List ℕ)} {input out notes : List ℕ} (o : Observed c words input out notes) where
  pub parts_are_written : (d : Answer) × (c.outcome.ran ≡ d.ran) × (c.outcome.executed ≡ d.executed)
      × ((n : ℕ) × (out ≡ take n (output_of d))) × ((n : ℕ) × (notes ≡ take n (notes_of d)))
      × (c.output.after ≡ 0 → out ≡ output_of d)
      × (out ≢ output_of d → notes ≡ [])
  parts_are_written = (
    o.promise.answered.answer,
    o.promise.answered.ran,
    o.promise.answered.executed,
    part_of_output o (output_of o.promise.answered.answer) o.promise.answered.written.part_of_output,
    part_of_notes o (notes_of o.promise.answered.answer) o.promise.answered.written.part_of_notes,
    λ e. whole_output o (output_of o.promise.answered.answer) (o.promise.answered.written.whole_output
        (λ rose. no_rise c.output.before c.output.after e rose)),
    λ other. first other o.promise.answered.written.output_first,
  )
    where
      first : out ≢ output_of o.promise.answered.answer
          → IsUnwritten c.notes ⊎ WroteAll c.output (output_of o.promise.answered.answer) → notes ≡ []
      first other (inl u) = no_notes o u
      first other (inr w) = absurd (other (whole_output o (output_of o.promise.answered.answer) w))

  pub quiet_writes : c.outcome.status ≡ 6 → c.output.after ≡ 0 → c.notes.after ≡ 0 → ⊥
  quiet_writes e p q = go (o.promise.answered.written.displaced e)
    where
      go : Failed c.output ⊎ Failed c.notes → ⊥
      go (inl h) = no_rise c.output.before c.output.after p h
      go (inr h) = no_rise c.notes.before c.notes.after q h

  pub due_answer : c.outcome.status ≢ 6
      → (d : Answer) × (c.outcome.status ≡ status_of d.ending) × (out ≡ output_of d) × (notes ≡ notes_of d)
  due_answer n =
      let w = o.promise.answered.written.all_written n in (
        o.promise.answered.answer,
        status o.promise.answered.written.status_is,
        whole_output o (output_of o.promise.answered.answer) w.0,
        whole_notes o (notes_of o.promise.answered.answer) w.1,
      )
    where
      status : (c.outcome.status ≡ status_of o.promise.answered.answer.ending) ⊎ (c.outcome.status ≡ 6)
          → c.outcome.status ≡ status_of o.promise.answered.answer.ending
      status (inl e) = e
      status (inr e) = absurd (n e)
