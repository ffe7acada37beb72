-- What is seen of a call, from what the promise says of its sinks and of what is outside.
use Rattle.std.proofs.Common.{◌≡◌, ◌≢◌, ◌⊎◌, inl, inr, ℕ, zero, suc, ◌≤◌, List, [], Option, Some, refl, sym, ◌∙◌}
use Rattle.std.proofs.Common.{subst, arith, IfSome, length, take}
use Rattle.std.proofs.lemmas.Option.{same_Some}
use Rattle.sp_outside.specs.Counts.{Rose}
use Rattle.sp_outside.specs.Visible.{Grows}
use Rattle.superpascal.specs.Calls.{Call, IsOutside, IsUnwritten, WroteAll, WrotePart}
use Rattle.superpascal.specs.declared.ending.Ending.{Ending}
use Rattle.superpascal.specs.Answers.{line_of, status_of}
use Rattle.superpascal.specs.Causes.{IsTooLong}
use Rattle.superpascal.specs.Promise.{Promise}
use Rattle.superpascal.specs.Statuses.{InputIsTooLong, OutsideWorks, ReadsFail}
use Rattle.sp_words.specs.declared.command.Command.{Command}
use Rattle.promise_rows.specs.Observations.{IsQuiet, Observed}

-- a count that is 0 in the end did not rise
pub no_rise : (m n : ℕ) → n ≡ 0 → Rose m n → ⊥
no_rise m n e (inl h) = omega (arith, e, h)
no_rise m n e (inr h) = omega (arith, e, h)

-- what a sink has got, of which nothing was there before
pub grown : (a b : Option (List ℕ)) (all piece : List ℕ) → a ≡ Some [] → b ≡ Some all → Grows a b piece → all ≡ piece
grown a b all piece p q g = subst (λ x. Grows x (Some all) piece) p (subst (λ y. Grows a y piece) q g)

module _ {c : Call} {words : List (List ℕ)} {input out notes : List ℕ} (o : Observed c words input out notes) where
  pub whole_output : (bytes : List ℕ) → WroteAll c.output bytes → out ≡ bytes
  whole_output bytes g = grown c.output.written c.output.written' out bytes o.output_before o.output_after g

  pub whole_notes : (bytes : List ℕ) → WroteAll c.notes bytes → notes ≡ bytes
  whole_notes bytes g = grown c.notes.written c.notes.written' notes bytes o.notes_before o.notes_after g

  pub part_of_output : (bytes : List ℕ) → WrotePart c.output bytes → (n : ℕ) × (out ≡ take n bytes)
  part_of_output bytes (n, h, g) = (n, whole_output (take n bytes) g)

  pub part_of_notes : (bytes : List ℕ) → WrotePart c.notes bytes → (n : ℕ) × (notes ≡ take n bytes)
  part_of_notes bytes (n, h, g) = (n, whole_notes (take n bytes) g)

  pub no_output : IsUnwritten c.output → out ≡ []
  no_output u = same_Some out [] (sym o.output_after ∙ u.0 ∙ o.output_before)

  pub no_notes : IsUnwritten c.notes → notes ≡ []
  no_notes u = same_Some notes [] (sym o.notes_after ∙ u.0 ∙ o.notes_before)

  -- a status with a line
  pub told_line : (s : ℕ) → c.outcome.status ≡ s → s ≢ 0 → s ≢ 3 → s ≢ 4 → s ≢ 6 → (text : List ℕ)
      → ((x : Ending) → s ≡ status_of x → line_of x ≡ text) → (out ≡ []) × (notes ≡ text)
  told_line s e n0 n3 n4 n6 text line =
      let told = o.promise.writing.line (λ z. n0 (sym e ∙ z)) (λ z. n3 (sym e ∙ z)) (λ z. n4 (sym e ∙ z))
      (λ z. n6 (sym e ∙ z)) in
      let ((x, status_is, _, wrote), unwritten) = told in
      (no_output unwritten, whole_notes (line_of x) wrote ∙ line x (sym e ∙ status_is))

  pub silent : (s : ℕ) → c.outcome.status ≡ s → s ≢ 0 → s ≢ 3 → s ≢ 4 → s ≢ 6 → out ≡ []
  silent s e n0 n3 n4 n6 =
      no_output (o.promise.writing.line (λ z. n0 (sym e ∙ z)) (λ z. n3 (sym e ∙ z)) (λ z. n4 (sym e ∙ z))
      (λ z. n6 (sym e ∙ z))).1

  -- the input is not too long
  pub short_input : length input ≤ 16777216 → InputIsTooLong c → ⊥
  short_input h (d, e, can, long) = go (subst (λ x. IfSome x IsTooLong) o.input long)
    where
      go : IsTooLong input → ⊥
      go k = omega (arith, h, k)

five_to_eight : (s : ℕ) → 5 ≤ s → s ≤ 8 → (s ≡ 5) ⊎ ((s ≡ 6) ⊎ ((s ≡ 7) ⊎ (s ≡ 8)))
five_to_eight zero h k = absurd (omega (arith, h))
five_to_eight (suc zero) h k = absurd (omega (arith, h))
five_to_eight (suc (suc zero)) h k = absurd (omega (arith, h))
five_to_eight (suc (suc (suc zero))) h k = absurd (omega (arith, h))
five_to_eight (suc (suc (suc (suc zero)))) h k = absurd (omega (arith, h))
five_to_eight (suc (suc (suc (suc (suc zero))))) h k = inl refl
five_to_eight (suc (suc (suc (suc (suc (suc zero)))))) h k = inr (inl refl)
five_to_eight (suc (suc (suc (suc (suc (suc (suc zero))))))) h k = inr (inr (inl refl))
five_to_eight (suc (suc (suc (suc (suc (suc (suc (suc zero)))))))) h k = inr (inr (inr refl))
five_to_eight (suc (suc (suc (suc (suc (suc (suc (suc (suc n))))))))) h k = absurd (omega (arith, k))

module _ (c : Call) (p : Promise c) (q : IsQuiet c) where
  no_read_fault : c.outcome.status ≡ 5 → ⊥
  no_read_fault e = go (p.statuses.read_fault e)
    where
      go : ReadsFail c → ⊥
      go (d, e, inl (name, loads, rose)) = no_rise (c.files.before name) (c.files.after name) (q.library name) rose
      go (d, e, inr (reads, rose)) = no_rise c.source.before c.source.after q.source rose

  no_write_fault : c.outcome.status ≡ 6 → ⊥
  no_write_fault e = go (p.statuses.write_fault e)
    where
      go : Rose c.output.before c.output.after ⊎ Rose c.notes.before c.notes.after → ⊥
      go (inl h) = no_rise c.output.before c.output.after q.output h
      go (inr h) = no_rise c.notes.before c.notes.after q.notes h

  -- nothing outside fails in it
  pub works : (d : Command) → (input : List ℕ) → c.source.left ≡ Some input → length input ≤ 16777216
      → OutsideWorks c d
  works d input told short = record {
    library = λ name loads rose. no_rise (c.files.before name) (c.files.after name) (q.library name) rose;
    source = λ rose. no_rise c.source.before c.source.after q.source rose;
    input = λ can. (input, told, short);
    output = λ rose. no_rise c.output.before c.output.after q.output rose;
    notes = λ rose. no_rise c.notes.before c.notes.after q.notes rose;
  }

  -- where nothing outside fails, too long an input or want of memory is left
  pub long_or_memory : IsOutside c.outcome.status → (c.outcome.status ≡ 7) ⊎ (c.outcome.status ≡ 8)
  long_or_memory h = go (five_to_eight c.outcome.status h.0 h.1)
    where
      go : (c.outcome.status ≡ 5) ⊎ ((c.outcome.status ≡ 6) ⊎ ((c.outcome.status ≡ 7) ⊎ (c.outcome.status ≡ 8)))
          → (c.outcome.status ≡ 7) ⊎ (c.outcome.status ≡ 8)
      go (inl e) = absurd (no_read_fault e)
      go (inr (inl e)) = absurd (no_write_fault e)
      go (inr (inr e)) = e

  -- and where the input is not too long, want of memory
  pub memory : (InputIsTooLong c → ⊥) → IsOutside c.outcome.status → c.outcome.status ≡ 8
  memory fits h = go (long_or_memory h)
    where
      go : (c.outcome.status ≡ 7) ⊎ (c.outcome.status ≡ 8) → c.outcome.status ≡ 8
      go (inl e) = absurd (fits (p.statuses.too_long e))
      go (inr e) = e
