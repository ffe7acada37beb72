-- When each status comes.
use Rattle.std.proofs.Common.{◌≡◌, ◌⊎◌, inl, inr, ℕ, ◌<◌, List, [], ◌∷◌, length, Option, Some, None, refl, sym, ◌∙◌}
use Rattle.std.proofs.Common.{ap, subst, arith}
use Rattle.std.specs.Prelude.{codes}
use Rattle.sp_words.specs.Words.{command_of}
use Rattle.sp_words.specs.declared.command.Command.{Command}
use Rattle.sp_words.specs.declared.command.Command.TheVariants as command
use Rattle.sp_tree.specs.Breaches.{IsTree}
use Rattle.superpascal.specs.Calls.{Call, IsOutside}
use Rattle.superpascal.specs.Statuses.{InputIsTooLong}
use Rattle.superpascal.specs.Texts.{CanRead}
use Rattle.promise_rows.specs.Observations.{Ends, Holds, IsQuiet, Observed}
use Rattle.promise_rows.specs.Programs.{writes_42}
use Rattle.promise_rows.proofs.AskedWords.{a_run, check_words, refused_words, run_words}
use Rattle.promise_rows.proofs.Lines.{line_of_2, line_of_7}
use Rattle.promise_rows.proofs.Seen.{long_or_memory, memory, told_line, whole_notes, whole_output}
use Rattle.promise_rows.proofs.Trees.{is_accepted_text}

pub no_command : (o : Option Command) (d : Command) → o ≡ None → o ≡ Some d → ⊥
no_command o d e f = absurd cc

same_command : (a b : Command) → ◌≡◌ {A = Option Command} (Some a) (Some b) → a ≡ b
same_command a b e = cc e

-- words that ask for this command, and for another one
pub one_command : (o : Option Command) (a b : Command) → o ≡ Some a → o ≡ Some b → b ≡ a
one_command o a b e f = same_command b a (sym f ∙ e)

module _ {c : Call} {input out notes : List ℕ} where
  pub refused_words_are_told : Observed c (codes "walk" ∷ codes "a" ∷ []) input out notes → IsQuiet c
      → Ends c 2 ((out ≡ []) × (notes ≡ codes "bad words\n"))
  refused_words_are_told o q = go (o.promise.statuses.bad_words.1 asked)
    where
      asked : command_of c.words ≡ None
      asked = ap command_of o.words ∙ refused_words

      no_input : InputIsTooLong c → ⊥
      no_input h = no_command (command_of c.words) h.0 asked h.1

      go : (c.outcome.status ≡ 2) ⊎ IsOutside c.outcome.status
          → Ends c 2 ((out ≡ []) × (notes ≡ codes "bad words\n"))
      go (inl e) = inl (
        e,
        told_line o 2 e (λ z. omega (arith, z)) (λ z. omega (arith, z)) (λ z. omega (arith, z))
            (λ z. omega (arith, z)) (codes "bad words\n") line_of_2,
      )
      go (inr h) = inr (memory c o.promise q no_input h)

  module _ (o : Observed c (codes "check" ∷ codes "a" ∷ []) input out notes) where
    check_asked : command_of c.words ≡ Some (command.Check (codes "a"))
    check_asked = ap command_of o.words ∙ check_words

    reads_nothing : (d : Command) → command_of c.words ≡ Some d → CanRead c.files.held d → ⊥
    reads_nothing d e h = subst (λ x. CanRead c.files.held x)
        (one_command (command_of c.words) (command.Check (codes "a")) d check_asked e) h

    pub words_are_accepted : c.outcome.status ≡ 2 → ⊥
    words_are_accepted e = no_command (command_of c.words) (command.Check (codes "a"))
        (o.promise.statuses.bad_words.0 e) check_asked

    pub never_too_long : c.outcome.status ≡ 7 → ⊥
    never_too_long e = let h = o.promise.statuses.too_long e in reads_nothing h.0 h.1 h.2

    pub unread : c.source.left' ≡ c.source.left
    unread = go o.promise.statuses.source
      where
        go : Rattle.superpascal.specs.Causes.IsUntouched c.source
            ⊎ ((d : Command) × (command_of c.words ≡ Some d) × CanRead c.files.held d)
            → c.source.left' ≡ c.source.left
        go (inl h) = h.0
        go (inr h) = absurd (reads_nothing h.0 h.1 h.2)

    pub accepted_texts_are_told : IsQuiet c → (text : List ℕ) → Holds c (codes "a") text → IsTree text writes_42
        → Ends c 0 ((out ≡ []) × (notes ≡ codes "accepted\n"))
    accepted_texts_are_told q text held t = go ((o.promise.statuses.made (command.Check (codes "a")) text check_asked
        held tt).1 ([], codes "accepted\n", (is_accepted_text text t, refl, refl)))
      where
        go : (c.outcome.status ≡ 0) ⊎ IsOutside c.outcome.status
            → Ends c 0 ((out ≡ []) × (notes ≡ codes "accepted\n"))
        go (inl e) =
            let w = o.promise.writing.made (command.Check (codes "a")) text check_asked held [] (codes "accepted\n")
            (is_accepted_text text t, refl, refl) e in
            inl (e, (whole_output o [] w.0, whole_notes o (codes "accepted\n") w.1))
        go (inr h) = inr (memory c o.promise q (λ x. reads_nothing x.0 x.1 x.2) h)

  pub long_inputs_are_refused : Observed c (codes "run" ∷ codes "a" ∷ []) input out notes → IsQuiet c
      → (text : List ℕ) → Holds c (codes "a") text → IsTree text writes_42 → 16777216 < length input
      → Ends c 7 ((out ≡ []) × (notes ≡ codes "input too long\n"))
  long_inputs_are_refused o q text held t long = go (long_or_memory c o.promise q
      (o.promise.statuses.long_refused a_run text (ap command_of o.words ∙ run_words) held (is_accepted_text text t)
      input o.input long))
    where
      go : (c.outcome.status ≡ 7) ⊎ (c.outcome.status ≡ 8)
          → Ends c 7 ((out ≡ []) × (notes ≡ codes "input too long\n"))
      go (inl e) = inl (
        e,
        told_line o 7 e (λ z. omega (arith, z)) (λ z. omega (arith, z)) (λ z. omega (arith, z))
            (λ z. omega (arith, z)) (codes "input too long\n") line_of_7,
      )
      go (inr e) = inr e
