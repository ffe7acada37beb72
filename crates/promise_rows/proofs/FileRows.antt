-- Code files.
use Rattle.std.proofs.Common.{◌≡◌, ◌⊎◌, inl, inr, ℕ, zero, suc, ◌<◌, ◌≤◌, List, [], ◌∷◌, ◌++◌, length, Some, refl}
use Rattle.std.proofs.Common.{sym, ◌∙◌}
use Rattle.std.proofs.Common.{ap, subst, arith, IfSome}
use Rattle.std.specs.Prelude.{All, codes, pos}
use Rattle.std.proofs.Common.{rules}
use Rattle.std.proofs.lemmas.List.Elements.{All-cons, All-nil}
use Rattle.sp_code.specs.Sizes.{HasChild, HasNumbers, HasSmallSizes, IsSize}
use Rattle.sp_code.specs.declared.code.Parts.{Parts}
use Rattle.sp_code.specs.declared.instr.Instr.{Instr}
use Rattle.sp_code.specs.declared.instr.Instr.TheVariants as i
use Rattle.sp_codefile.specs.CodeText.{AreLines, BeginsCode, FormalFits, InstrFits, IsByte, IsInteger, IsCode}
use Rattle.sp_codefile.specs.CodeText.{IsFirstBad, IsNumber, IsText}
use Rattle.sp_codefile.specs.CodeText.{IsTextOf, LayoutFits, TableFits, code_text}
use Rattle.sp_codefile.specs.VerifyAnswers.{rule_of}
use Rattle.sp_codefile.specs.declared.verifier.VRule.TheVariants as v
use Rattle.sp_kernel.specs.declared.closed.Closed.{Closed}
use Rattle.sp_verify_rules.specs.Areas.{Body}
use Rattle.sp_verify_rules.specs.NameRules.{BreaksV1, OutOfRange}
use Rattle.sp_verify_rules.specs.Reach.{IsInCodeOf}
use Rattle.sp_verify_rules.specs.Verdict.{IsRejected, IsVerified, Rule, V1, number}
use Rattle.sp_words.specs.Words.{command_of}
use Rattle.sp_words.specs.declared.command.Command.TheVariants as command
use Rattle.superpascal.specs.declared.ending.Ending.{Ending}
use Rattle.superpascal.specs.declared.ending.Ending.TheVariants as e
use Rattle.superpascal.specs.Answers.{line_of, status_of}
use Rattle.superpascal.specs.Calls.{Call, IsAnswered, IsFinal, IsOutside, SaysEnding}
use Rattle.superpascal.specs.ExecPromise.{IsFaultyFile}
use Rattle.promise_rows.specs.Files.{main, no_variable}
use Rattle.promise_rows.specs.Observations.{Ends, Holds, IsQuiet, Observed}
use Rattle.promise_rows.proofs.AskedWords.{an_execution, exec_words}
use Rattle.promise_rows.proofs.Lines.{bad_code_line, rejected_line}
use Rattle.promise_rows.proofs.RunRows.{six_is_no_end}
use Rattle.promise_rows.proofs.Seen.{memory, short_input, silent, whole_notes, whole_output}

-- the first byte, or none
abbrev first_byte : List ℕ → ℕ
first_byte [] = 0
first_byte (b ∷ bs) = b

-- bytes that begin with l are no text of code, and their first line begins none
module _ (bytes rest : List ℕ) (is : bytes ≡ 108 ∷ rest) where
  pub no_code : IsText bytes → ⊥
  no_code (p, h) = omega (arith, ap first_byte (sym is ∙ h.text))

  begins : (k : ℕ) → BeginsCode (suc k) bytes → ⊥
  begins k h = go h.lines h.are_lines h.joined h.begins
    where
      none : (text more : List ℕ) → [] ≡ text ++ 10 ∷ more → ⊥
      none [] more e = cc e
      none (x ∷ text) more e = cc e

      go : (lines : List ℕ) → AreLines (suc k) lines → bytes ≡ lines ++ h.rest → IsText (lines ++ h.more) → ⊥
      go [] (text, more, one, e, others) j t = none text more e
      go (x ∷ lines) a j (p, t) =
          let first : 108 ≡ x = ap first_byte (sym is ∙ j) in
          let also : x ≡ 115 = ap first_byte t.text in
          omega (arith, first, also)

  pub first_line : (n : ℕ) → IsFirstBad n bytes → n ≡ 1
  first_line n h = go h.before
    where
      go : (m : ℕ) × (n ≡ suc m) × BeginsCode m bytes → n ≡ 1
      go (zero, e, b) = e
      go (suc m, e, b) = absurd (begins m b)

-- V1 is broken at the first instruction of the code, and no rule comes before it
main_fits : LayoutFits main
main_fits = record {
  block = omega arith;
  entry = omega arith;
  parent = tt;
  sizes = All-cons IsNumber 1 [] (omega arith) (All-nil IsNumber);
  variables = All-cons IsNumber 2 [] (omega arith) (All-nil IsNumber);
  formals = All-nil FormalFits;
}

six_fits : IsInteger (pos 6)
six_fits = search rules

seven_fits : IsInteger (pos 7)
seven_fits = search rules

third_fits : InstrFits (i.Addr 0 3)
third_fits = (omega arith, omega arith)

second_fits : InstrFits (i.Addr 0 2)
second_fits = (omega arith, omega arith)

abbrev last : List Instr
last = i.Const (pos 7) ∷ i.Mul ∷ i.WriteInt ∷ i.End ∷ []

last_fit : All InstrFits last
last_fit = All-cons InstrFits (i.Const (pos 7)) (i.Mul ∷ i.WriteInt ∷ i.End ∷ []) seven_fits
    (All-cons InstrFits i.Mul (i.WriteInt ∷ i.End ∷ []) tt
    (All-cons InstrFits i.WriteInt (i.End ∷ []) tt (All-cons InstrFits i.End [] tt (All-nil InstrFits))))

abbrev middle : List Instr
middle = i.Store ∷ i.Addr 0 2 ∷ i.Load ∷ last

middle_fit : All InstrFits middle
middle_fit = All-cons InstrFits i.Store (i.Addr 0 2 ∷ i.Load ∷ last) tt
    (All-cons InstrFits (i.Addr 0 2) (i.Load ∷ last) second_fits (All-cons InstrFits i.Load last tt last_fit))

all_fit : All InstrFits no_variable.instrs
all_fit = All-cons InstrFits (i.Addr 0 3) (i.Const (pos 6) ∷ middle) third_fits
    (All-cons InstrFits (i.Const (pos 6)) middle six_fits middle_fit)

is_code : IsCode no_variable
is_code = record {
  sizes = record {
    instrs = omega arith;
    layouts = omega arith;
    forks = omega arith;
    texts = omega arith;
    frames = All-cons HasNumbers main [] (omega arith) (All-nil HasNumbers);
    sizes = All-cons HasSmallSizes main [] (All-cons IsSize 1 [] (omega arith) (All-nil IsSize))
        (All-nil HasSmallSizes);
    children = All-nil HasChild;
  };
  layouts = All-cons LayoutFits main [] main_fits (All-nil LayoutFits);
  texts = All-nil (All IsByte);
  instrs = all_fit;
  forks = All-nil TableFits;
}

at_start : IsInCodeOf no_variable (Body 0) 0
at_start = record { steps = 0; way = refl }

broken : BreaksV1 no_variable 0
broken = OutOfRange (Body 0, ((main, refl), at_start), refl)

none_before : (w : Rule) → number w < 1 → ⊥
none_before V1 h = omega (arith, h)
none_before _ h = omega (arith, h)

rejected : IsRejected no_variable (rule_of v.V1) 0
rejected = record {
  broken = broken;
  first = λ w q h b. none_before w h;
  least = λ q h b. omega (arith, h);
}

module _ {c : Call} {input out notes : List ℕ} (o : Observed c (codes "exec" ∷ codes "a" ∷ []) input out notes) where
  asked : command_of c.words ≡ Some (command.Exec an_execution)
  asked = ap command_of o.words ∙ exec_words

  module _ (q : IsQuiet c) (empty : input ≡ []) where
    for_memory : IsOutside c.outcome.status → c.outcome.status ≡ 8
    for_memory h = memory c o.promise q
        (short_input o (subst (λ x. length x ≤ 16777216) (sym empty) (omega (arith)))) h

    with_line : (x : Ending) → 10 ≡ status_of x → (text : List ℕ) → line_of x ≡ text → SaysEnding c x
        → Ends c 10 ((out ≡ []) × (notes ≡ text))
    with_line x s text l (inl h) =
        let status : c.outcome.status ≡ 10 = h.0 ∙ sym s in
        inl (
          status,
          (
            silent o 10 status (λ z. omega (arith, z)) (λ z. omega (arith, z)) (λ z. omega (arith, z))
                (λ z. omega (arith, z)),
            whole_notes o (line_of x) h.1 ∙ l,
          ),
        )
    with_line x s text l (inr h) = inr (for_memory h)

    pub a_first_line_is_missing : (rest : List ℕ)
        → Holds c (codes "a") (codes "layout 0 0 - none sizes 1 variables 2 formals\n" ++ rest)
        → length (codes "layout 0 0 - none sizes 1 variables 2 formals\n" ++ rest) ≤ 67108864
        → Ends c 10 ((out ≡ []) × (notes ≡ codes "bad code 1\n"))
    a_first_line_is_missing rest held short = go (o.promise.executing.bad an_execution bytes asked held short
        (no_code bytes _ refl))
      where
        bytes : List ℕ
        bytes = codes "layout 0 0 - none sizes 1 variables 2 formals\n" ++ rest

        go : ((n : ℕ) × IsFirstBad n bytes × SaysEnding c (e.BadCode n)) ⊎ IsOutside c.outcome.status
            → Ends c 10 ((out ≡ []) × (notes ≡ codes "bad code 1\n"))
        go (inl (n, bad, says)) = with_line (e.BadCode 1) refl (codes "bad code 1\n") bad_code_line
            (subst (λ x. SaysEnding c (e.BadCode x)) (first_line bytes _ refl n bad) says)
        go (inr h) = inr (for_memory h)

    pub an_unknown_variable_is_rejected : (bytes : List ℕ) → Holds c (codes "a") bytes → bytes ≡ code_text no_variable
        → length bytes ≤ 67108864 → Ends c 10 ((out ≡ []) × (notes ≡ codes "rejected V1 0\n"))
    an_unknown_variable_is_rejected bytes held is short =
        with_line (e.Rejected v.V1 0) refl (codes "rejected V1 0\n") rejected_line
        (o.promise.executing.rejected an_execution bytes asked held short no_variable
        (record { code = is_code; text = is }) v.V1 0 rejected)

    pub long_files_are_refused : (bytes : List ℕ) → Holds c (codes "a") bytes → 67108864 < length bytes
        → Ends c 10 ((out ≡ []) × (notes ≡ codes "code file too long\n"))
    long_files_are_refused bytes held long = with_line e.LongFile refl (codes "code file too long\n") refl
        (o.promise.executing.long an_execution bytes asked held long)

  pub never_a_text : (bytes : List ℕ) → Holds c (codes "a") bytes → c.outcome.status ≡ 1 → ⊥
  never_a_text bytes held e = o.promise.executing.no_refusal an_execution bytes asked held e

  pub sound_files_are_not_refused : ((p q : Parts) (bytes : List ℕ) → IsTextOf p bytes → IsTextOf q bytes → p ≡ q)
      → (bytes : List ℕ) (code : Parts) → Holds c (codes "a") bytes → IsTextOf code bytes → length bytes ≤ 67108864
      → IsVerified code → c.outcome.status ≡ 10 → ⊥
  sound_files_are_not_refused one bytes code held text short verified e =
      go (subst (λ x. IfSome x IsFaultyFile) held (o.promise.executing.only an_execution asked e))
    where
      go : IsFaultyFile bytes → ⊥
      go (inl long) = omega (arith, short, long)
      go (inr (inl (n, bad))) = bad.whole (code, text)
      go (inr (inr (other, w, i, is, r))) =
          verified (rule_of w) i (subst (λ (z : Parts). Rattle.sp_verify_rules.specs.Verdict.BreaksRuleAt z
          (rule_of w) i)
          (one other code bytes is text) r.broken)

due_is_final : (s d : ℕ) → IsFinal s → (s ≡ d) ⊎ (s ≡ 6) → IsFinal d
due_is_final s d f (inl e) = subst IsFinal e f
due_is_final s d f (inr e) = absurd (six_is_no_end s f e)

pub sound_files_are_run : {c : Call} {out notes : List ℕ} → Observed c (codes "exec" ∷ codes "a" ∷ []) [] out notes
    → IsQuiet c → (bytes : List ℕ) (code : Parts) → Holds c (codes "a") bytes → IsTextOf code bytes
    → length bytes ≤ 67108864 → IsVerified code
    → ((r : Closed) × (c.outcome.executed ≡ Some r) × (out ≡ r.output)) ⊎ (c.outcome.status ≡ 8)
sound_files_are_run {c} {out} o q bytes code held text short verified =
    go (o.promise.executing.accepted an_execution bytes (asked o) held [] o.input
    (code, record { text = text; short = short; verified = verified }) (omega (arith)))
  where
    go : IsFinal c.outcome.status ⊎ IsOutside c.outcome.status
        → ((r : Closed) × (c.outcome.executed ≡ Some r) × (out ≡ r.output)) ⊎ (c.outcome.status ≡ 8)
    go (inl f) =
        let a : IsAnswered c = o.promise.answered in
        let r = o.promise.executing.given an_execution (asked o) a
        (due_is_final c.outcome.status (status_of a.answer.ending) f a.written.status_is) in
        inl (
          r.0,
          r.1,
          whole_output o r.0.output
              ((o.promise.executing.written r.0 r.1).whole (six_is_no_end c.outcome.status f)).0,
        )
    go (inr h) = inr (for_memory o q refl h)
